-- Maker identities (01 "Layouts and rules for later parts", Maker identity; 004 7.10; 02 M-106): the old form is a list
-- of bytes, the new one a number of 16 bits.
use Rattle.std.specs.Prelude.{ℕ, Option, None, Some, ◌+◌, ◌*◌, ◌/◌, ◌%◌, Bool, cond, ◌&&◌, List, [], ◌∷◌, eqb, leb}
use Rattle.stream.specs.Answers.{answered, no_counterpart}
use Rattle.identity.specs.declared.Identity.{Identity}
use Rattle.identity.specs.declared.Maker.{Maker}

-- one byte that is an old form by itself
abbrev pub single : ℕ → Bool
single byte = leb 1 byte && leb byte 127

-- and three that are one together
abbrev pub triple : ℕ → ℕ → ℕ → Bool
triple first high low = eqb first 0 && (leb high 127 && leb low 127)

-- The new form of an old one: a byte stays as it is, and of three the last two stand in the two halves, with bit 15
-- set. No other list of bytes has one.
unfoldable pub new_of : List ℕ → Option ℕ
new_of [] = None
new_of (byte ∷ []) = cond (single byte) (Some byte) None
new_of (first ∷ high ∷ []) = None
new_of (first ∷ high ∷ low ∷ []) = cond (triple first high low) (Some (0x8000 + high * 0x100 + low)) None
new_of (first ∷ high ∷ low ∷ more ∷ s) = None

-- The old form of a new one, by bit 15: three bytes, unless bit 7 is set, or one byte, unless it can be none.
unfoldable pub old_of : ℕ → Option (List ℕ)
old_of n =
    cond (leb 0x8000 n) (cond (eqb (n / 0x80 % 2) 1) None (Some (0 ∷ n / 0x100 % 0x80 ∷ n % 0x80 ∷ [])))
    (cond (single n) (Some (n ∷ [])) None)

-- what is handed back of a new form, or where there is none
unfoldable pub identity_from : Option ℕ → Identity
identity_from None = record { answer = no_counterpart; number = 0 }
identity_from (Some n) = record { answer = answered; number = n }

abbrev pub no_maker : Maker
no_maker = record { answer = no_counterpart; count = 0; bytes = 0 ∷ 0 ∷ 0 ∷ 0 ∷ [] }

-- The same of an old form. `old_of` gives none of other lengths than one and three.
unfoldable pub maker_from : Option (List ℕ) → Maker
maker_from None = no_maker
maker_from (Some []) = no_maker
maker_from (Some (a ∷ [])) = record { answer = answered; count = 1; bytes = a ∷ 0 ∷ 0 ∷ 0 ∷ [] }
maker_from (Some (a ∷ b ∷ [])) = no_maker
maker_from (Some (a ∷ b ∷ c ∷ [])) = record { answer = answered; count = 3; bytes = a ∷ b ∷ c ∷ 0 ∷ [] }
maker_from (Some (a ∷ b ∷ c ∷ d ∷ s)) = no_maker

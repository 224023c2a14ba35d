-- What is claimed of maker identities (01 "Layouts and rules for later parts"; 02 M-106).
use Rattle.std.specs.Prelude.{ℕ, None, Some, ◌/◌, ◌%◌, ◌≤◌, ◌<◌, ◌≡◌, ◌↔◌, ◌⊎◌, List, [], ◌∷◌}
use Rattle.ground.specs.Lists.{All}
use Rattle.identity.specs.Identity.{new_of, old_of}

-- Turned one way and back, an identity is the same, from either side. A new form has 16 bits.
pub record ThereAndBack : Type 0 where
  pub old : (s : List ℕ) (n : ℕ) → new_of s ≡ Some n → old_of n ≡ Some s
  pub new : (n : ℕ) (s : List ℕ) → n < 0x10000 → old_of n ≡ Some s → new_of s ≡ Some n
  pub small : (s : List ℕ) (n : ℕ) → new_of s ≡ Some n → n < 0x10000

-- one byte from 1 to 127, or 0 and two more bytes of at most 127 each
abbrev pub OldForm : List ℕ → Type 0
OldForm [] = ⊥
OldForm (a ∷ []) = (1 ≤ a) × (a ≤ 127)
OldForm (a ∷ b ∷ []) = ⊥
OldForm (a ∷ b ∷ c ∷ []) = (a ≡ 0) × (b ≤ 127) × (c ≤ 127)
OldForm (a ∷ b ∷ c ∷ d ∷ s) = ⊥

-- 0; a number below bit 15 that is too much for a byte; one from bit 15 on that has bit 7
abbrev pub Without : ℕ → Type 0
Without n = (n ≡ 0) ⊎ (((n < 0x8000) × (0x80 ≤ n)) ⊎ ((0x8000 ≤ n) × (n / 0x80 % 2 ≡ 1)))

-- there is no counterpart in just these cases
pub record Counterparts : Type 0 where
  pub old : (s : List ℕ) → (new_of s ≡ None) ↔ (OldForm s → ⊥)
  pub new : (n : ℕ) → (old_of n ≡ None) ↔ Without n

-- An identity in both forms.
pub record Example : Type 0 where
  pub old : List ℕ
  pub new : ℕ

abbrev pub example : List ℕ → ℕ → Example
example old new = record { old = old; new = new }

-- three of 01, and that of imitone, where 0x8213 decides
unfoldable pub examples : List Example
examples =
    example (0x43 ∷ []) 0x0043
    ∷ example (0x00 ∷ 0x20 ∷ 0x25 ∷ []) 0xA025
    ∷ example (0x00 ∷ 0x00 ∷ 0x3B ∷ []) 0x803B
    ∷ example (0x00 ∷ 0x02 ∷ 0x13 ∷ []) 0x8213
    ∷ []

-- each turns into the other
unfoldable pub Examples : Type 0
Examples = All (λ (e : Example). (new_of e.old ≡ Some e.new) × (old_of e.new ≡ Some e.old)) examples

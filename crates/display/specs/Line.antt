-- What the desk displays, in ASCII (02 M-110; RULES 16): the notes that sound, from the lowest number on.
use Rattle.std.specs.Prelude.{ℕ, zero, suc, ◌+◌, ◌^◌, ◌<◌, ◌≡◌, Bool, true, false, cond, ◌&&◌, List, []}
use Rattle.std.specs.Prelude.{◌∷◌, ◌++◌, eqb, ℤ, nat_abs, negsuc, pos, Float, Option, Some, None}
use Rattle.std.specs.Float.Ieee.{eq}
use Rattle.std.specs.Result.{result_ok}
use Rattle.text.specs.Lines.{decimal}
use Rattle.figures.specs.Figures.{exact_decimal}
use Rattle.pitch.specs.declared.Shown.{Shown}
use Rattle.pitch.specs.declared.Shown.TheVariants.{Number, Pitch725, Pitch79}
use Rattle.pitch.specs.Dyadic.{nearest, times2}
use Rattle.pitch.specs.Pitch.{float_of}
use Rattle.tuning.specs.declared.Desk.{Desk}
use Rattle.tuning.specs.Desk.{answer_at}

-- a float that is the nearest to a number of 2 to the -31, of no more digits than it keeps
pub record Parts (x : Float) : Type 0 where
  pub whole : ℤ
  pub is : x ≡ nearest 31 whole
  pub small : nat_abs whole < 2 ^ 53

abbrev pub below0 : ℤ → Bool
below0 (pos n) = false
below0 (negsuc n) = true

-- a pitch in exact digits, by what the float is times 2 to the 31, with a minus (45) below 0
abbrev pub signed_decimal : ℤ → List ℕ
signed_decimal z = cond (below0 z) (45 ∷ []) [] ++ exact_decimal (nat_abs z)

unfoldable pub pitch_text : Float → List ℕ
pitch_text x = signed_decimal (times2 31 x)

-- a note with the name of its base, which has a space (32) on either side, and its pitch
unfoldable pub field_of : ℕ → List ℕ → Float → List ℕ
field_of note name x = (32 ∷ []) ++ decimal note ++ name ++ pitch_text x

-- the names: note, 7.25 and 7.9
unfoldable pub field_from : ℕ → Option Shown → List ℕ
field_from note None = []
field_from note (Some (Number x)) = field_of note (32 ∷ 110 ∷ 111 ∷ 116 ∷ 101 ∷ 32 ∷ []) x
field_from note (Some (Pitch725 x)) = field_of note (32 ∷ 55 ∷ 46 ∷ 50 ∷ 53 ∷ 32 ∷ []) x
field_from note (Some (Pitch79 x)) = field_of note (32 ∷ 55 ∷ 46 ∷ 57 ∷ 32 ∷ []) x

-- what is shown of a note where the range has so many units
abbrev pub shown_at : Desk → ℕ → ℕ → Option Shown
shown_at d units note = result_ok (answer_at d note units 0)

-- the notes below n, one after another
unfoldable pub fields_below : Desk → ℕ → ℕ → List ℕ
fields_below d units zero = []
fields_below d units (suc n) = fields_below d units n ++ field_from n (shown_at d units n)

-- which of the three it is, as a number; 0 where there is none
abbrev pub kind_of : Option Shown → ℕ
kind_of None = 0
kind_of (Some (Number x)) = 1
kind_of (Some (Pitch725 x)) = 2
kind_of (Some (Pitch79 x)) = 3

-- how many of the notes below n are shown
abbrev pub one_if_shown : Option Shown → ℕ
one_if_shown None = 0
one_if_shown (Some shown) = 1

unfoldable pub count_below : Desk → ℕ → ℕ → ℕ
count_below d units zero = 0
count_below d units (suc n) = count_below d units n + one_if_shown (shown_at d units n)

-- the line: their number, the notes, and the end of the line (10)
unfoldable pub line_of : Desk → ℕ → List ℕ
line_of d units = decimal (count_below d units 128) ++ fields_below d units 128 ++ (10 ∷ [])

-- the same shown of a note: the same pitch, counted from the same
abbrev pub same_shown : Option Shown → Option Shown → Bool
same_shown a b = eqb (kind_of a) (kind_of b) && eq (float_of a) (float_of b)

-- the same shown of the notes below n
unfoldable pub same_below : Desk → Desk → ℕ → ℕ → Bool
same_below d e units zero = true
same_below d e units (suc n) = same_below d e units n && same_shown (shown_at d units n) (shown_at e units n)

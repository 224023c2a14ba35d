-- The shown pitch in hundred-cent units, as a whole number of 2 to the -31 (02 M-110; 004 section 7.4.15).
use Rattle.std.specs.Prelude.{ℕ, ◌*◌, ◌^◌, false, ℤ, pos, ◌+ℤ◌, ◌-ℤ◌, ◌*ℤ◌, Float, Option, Some, None}
use Rattle.std.specs.Float.{fin}
use Rattle.pitch.specs.declared.Base.{Base}
use Rattle.pitch.specs.declared.Base.TheVariants.{Number, Pitch725, Pitch79}
use Rattle.pitch.specs.declared.Shown.{Shown}
use Rattle.pitch.specs.declared.Shown.TheVariants.{Number as OfNumber, Pitch725 as OfPitch725, Pitch79 as OfPitch79}

-- the note number; Pitch 7.25, with 25 binary places; Pitch 7.9, with 9
abbrev pub base_of : Base → ℕ
base_of (Number n) = n * 2 ^ 31
base_of (Pitch725 w) = w * 2 ^ 6
base_of (Pitch79 h) = h * 2 ^ 22

-- where the bend of a channel starts, and where it moves no pitch
abbrev pub centre : ℕ
centre = 0x80000000

-- what the bend adds: how far it is from its start, in parts of 2 to the -31, for each unit of the range
abbrev pub bend_of : ℕ → ℕ → ℤ
bend_of bend units = (pos bend -ℤ pos centre) *ℤ pos units

abbrev pub pitch_of : Base → ℕ → ℕ → ℤ
pitch_of base bend units = pos (base_of base) +ℤ bend_of bend units

-- which of the three it was, together with the pitch
abbrev pub shown_as : Base → Float → Shown
shown_as (Number n) x = OfNumber x
shown_as (Pitch725 w) x = OfPitch725 x
shown_as (Pitch79 h) x = OfPitch79 x

-- the pitch that is shown: 0 where there is none
abbrev pub float_of : Option Shown → Float
float_of None = fin false 0 (pos 0)
float_of (Some (OfNumber x)) = x
float_of (Some (OfPitch725 x)) = x
float_of (Some (OfPitch79 x)) = x

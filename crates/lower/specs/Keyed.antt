-- Notes, poly pressure and controllers, statuses 8 to 11: going down each keeps its status and its number, and has one
-- word. That these are the words of `lower` is a law beside it.
use Rattle.std.specs.Prelude.{ℕ, Bool, cond, ◌&&◌, List, [], ◌∷◌, eqb, leb}
use Rattle.scale.specs.Scale.{down}
use Rattle.ump.specs.Word.{bits, byte3, channel_of, group_of, status, voice1}
use Rattle.message.specs.Message.{part, voice_word}
use Rattle.lower.specs.Lower.{sounding}

abbrev pub keyed : ℕ → Bool
keyed s = leb 8 s && leb s 11

-- a velocity has 16 bits, and every other value 32
unfoldable pub keyed_value : ℕ → ℕ → ℕ
keyed_value s v =
    cond (eqb s 8) (down 16 7 (bits 16 16 v)) (cond (eqb s 9) (sounding (down 16 7 (bits 16 16 v))) (down 32 7 v))

unfoldable pub keyed_words : ℕ → ℕ → List ℕ
keyed_words w v =
    cond (eqb (status w) 11 && part (byte3 w)) []
    (voice_word voice1 (group_of w) (status w) (channel_of w) (byte3 w) (keyed_value (status w) v) ∷ [])

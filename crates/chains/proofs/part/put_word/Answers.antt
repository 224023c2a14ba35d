-- `chains::part::put_word`: the four bytes of the word stand in the part that they are copied to, which has four
-- places.
use native.Mathlib.Omega.{arith}
use Prim.Native.Nat.{◌+◌, ◌-◌}
use mathlib.Core.List.{[], ◌∷◌}
use mathlib.Core.Path.{◌∙◌, refl, sym}
use lib.Seq.{sets-eq}
use Rattle.std.proofs.lemmas.Slice.{put_mid-paste}
use Rattle.ump.specs.Word.{byte1, byte2, byte3, byte4}
use Rattle.chains.proofs.part.put_word.Goals as goal

pub returns : goal.returns
returns c =
    let a = c.args in
    let bytes = byte1 a.w ∷ byte2 a.w ∷ byte3 a.w ∷ byte4 a.w ∷ [] in
    rw (c.copy_from_slice.ensures.after, c.to_be_bytes.ensures)
    (put_mid-paste a.at (a.at + 4 - a.at) a.part.now bytes bytes 4 refl (omega arith) refl
    ∙ sym (sets-eq bytes a.part.now a.at (omega arith)))

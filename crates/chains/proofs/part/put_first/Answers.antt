-- `chains::part::put_first`: the first bytes of the row, all six or fewer.
use Rattle.std.proofs.Common.{◌+◌, ◌-◌, ℕ, List, [], ◌∷◌, arith}
use Rattle.ump.specs.Word.{byte1, byte2, byte3, byte4}
use Rattle.chains.proofs.PutLaws.{copied}
use Rattle.chains.proofs.part.put_first.Goals as goal

six : ℕ → ℕ → List ℕ
six w v = byte3 w ∷ byte4 w ∷ byte1 v ∷ byte2 v ∷ byte3 v ∷ byte4 v ∷ []

rest : List ℕ
rest = 0 ∷ 0 ∷ 0 ∷ 0 ∷ 0 ∷ 0 ∷ []

pub returns : goal.returns
unfolding six rest
returns g c =
    let a = c.args in
    let e = simp (
      c.byte3.ensures,
      c.byte4.ensures,
      c.byte1.ensures,
      c.byte2.ensures,
      c.byte3-2.ensures,
      c.byte4-2.ensures,
    ) at c.copy_from_slice.ensures.after in
    copied a.part.now a.base (a.base + g.row.N - a.base) g.row.N (six a.w a.v) _ rest e (omega arith) (omega arith)

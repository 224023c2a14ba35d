-- How much a run in sends, and so how much room is enough. Assumes nothing.
use Prim.Native.Nat.{ℕ, ◌+◌, ◌*◌, ◌≤◌}
use mathlib.Core.Path.{◌≡◌, sym, ap, ◌∙◌}
use mathlib.Core.List.{List}
use native.Mathlib.Omega.{arith}
use lib.Dec.{eqb, ltb}
use lib.ListN.{length}
use borrow.Author.Tests.{ltb-false, ltb-true}
use Rattle.ground.proofs.Cases.{by_bool}
use Rattle.stream.specs.Answers.{no_room}
use Rattle.stream.specs.Run.{Ran}
use Rattle.cable.specs.declared.Cable.{Cable}
use Rattle.cable.specs.State.{sound}
use Rattle.inlet.specs.Inlet.{calls_in, run_in}
use Rattle.inlet.proofs.CallLaws.{run-range, run-unsound}
use Rattle.cable_claims.specs.Room.{Room}
use Rattle.cable_claims.proofs.InRuns.{run-whole, weight, weight-most, whole-answer, whole_room}

answered : (r q : Ran Cable) → r ≡ q → r.answer ≡ no_room → q.answer ≡ no_room
answered r q e h = ap (λ (x : Ran Cable). x.answer) (sym e) ∙ h

enough : (g room : ℕ) (s : Cable) (bs : List ℕ) → 2 * length bs + weight s ≤ room
    → (run_in g room s bs).answer ≡ no_room → ⊥
enough g room s bs h e =
    by_bool (ltb 15 g)
    (λ t. omega (arith, answered _ _ (run-range g room s bs (ltb-true 15 g t)) e))
    (λ t.
    let few = ltb-false 15 g t in
    by_bool (sound s)
    (λ k.
    let w = run-whole g room s bs few k (omega (arith, whole_room g s bs)) in
    omega (arith, answered _ _ w e, whole-answer (calls_in g s bs) s))
    (λ k. omega (arith, answered _ _ (run-unsound g room s bs few k) e)))

pub proved-room : Room
proved-room =
    record {
      into = λ g room s bs h. enough g room s bs (omega (arith, weight-most (eqb s.status 0xF0)));
      fresh = λ g room s bs z h. enough g room s bs (rw z (omega arith));
    }

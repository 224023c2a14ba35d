-- A run reads no more than it is given, and sends no more than its output holds. Assumes nothing.
use Prim.Native.Nat.{ℕ, suc, ◌+◌, ◌-◌, ◌≤◌}
use mathlib.Core.Path.{◌≡◌, ap}
use mathlib.Core.Bool.{true, false}
use mathlib.Core.List.{List, [], ◌∷◌}
use native.Mathlib.Omega.{arith}
use lib.Dec.{eqb, leb, ltb}
use lib.ListN.{length}
use borrow.Author.Tests.{eqb-false, eqb-true}
use Rattle.ground.specs.Store.{at_start}
use Rattle.ground.proofs.Cases.{choose}
use Rattle.stream.specs.declared.Done.{Done}
use Rattle.stream.specs.Answers.{no_room, not_sound, out_of_range}
use Rattle.stream.specs.Report as Report
use Rattle.stream.specs.Run.{Ran}
use Rattle.stream.proofs.RunLaws.{words-read}
use Rattle.cable.specs.declared.Cable.{Cable}
use Rattle.cable.specs.State.{pick, sound}
use Rattle.cable.specs.Hearing.{Call, byte_in}
use Rattle.cable.proofs.Ways.{either, next-in, told}
use Rattle.inlet.specs.declared.Imported.{Imported}
use Rattle.inlet.specs.Inlet.{Made, before_rest, calls_in, made, nothing_done, ran_in, reported, run_in}
use Rattle.outlet.specs.Outlet.{run_out}
use Rattle.flow.proofs.BoundLaws.{reads-most, stored-most, writes-most}

record Most (n : ℕ) (r : Ran Cable) : Type 0 where
  pub most : r.read ≤ n

-- a call, and then calls that read no more than n
first_read : (g b : ℕ) (s : Cable) (room n : ℕ) (ms : List Made)
    → ((left : ℕ) → (ran_in left (byte_in s g b).after ms).read ≤ n) → (ran_in room s (made g s b ∷ ms)).read ≤
    (byte_in s g b).read + n
unfolding ran_in
first_read g b s room n ms h =
    let c = byte_in s g b in
    let goes : Most (c.read + n) (before_rest c (ran_in (room - length c.sends) c.after ms)) =
    record { most = omega (arith, h (room - length c.sends)) } in
    let stops : Most (c.read + n) (nothing_done no_room s) = record { most = omega arith } in
    (either (Most (c.read + n)) (leb (length c.sends) room) goes stops).most

-- calls after one that read k bytes: all read no more than n
record Rest (k n : ℕ) (s : Cable) (ms : List Made) : Type 0 where
  pub bound : ℕ
  pub fits : k + bound ≤ n
  pub most : (room : ℕ) → (ran_in room s ms).read ≤ bound

calls-read : (g : ℕ) (bs : List ℕ) (room : ℕ) (s : Cable) → (ran_in room s (calls_in g s bs)).read ≤ length bs
unfolding calls_in ran_in
calls-read g [] room s = omega arith
calls-read g (b ∷ bs) room s =
    let c : Call = byte_in s g b in
    let d : Call = byte_in c.after g b in
    let n = length bs in
    let P = Rest c.read (suc n) c.after in
    let read : eqb c.read 1 ≡ true → P (calls_in g c.after bs) =
    λ e. record {
      bound = n;
      fits = omega (arith, eqb-true c.read 1 e);
      most = λ room. calls-read g bs room c.after;
    } in
    let unread : eqb c.read 1 ≡ false → P (made g c.after b ∷ calls_in g d.after bs) =
    λ e. record {
      bound = d.read + n;
      fits = omega (arith, eqb-false c.read 1 e, (next-in s g b).most, (next-in c.after g b).most);
      most = λ room. first_read g b c.after room n (calls_in g d.after bs) (λ left. calls-read g bs left d.after);
    } in
    let rest = pick (eqb c.read 1) (calls_in g c.after bs) (made g c.after b ∷ calls_in g d.after bs) in
    let r : P rest = told P (eqb c.read 1) read unread in
    omega (arith, first_read g b s room r.bound rest r.most, r.fits)

-- both, of an import
pub import-bounds : (g room : ℕ) (s : Cable) (bs out out' : List ℕ) (r : Imported) → length out' ≡ length out
    → r ≡ reported (run_in g room s bs) → out' ≡ at_start (run_in g room s bs).sends out
    → (r.read ≤ length bs) × (r.written ≤ length out')
unfolding run_in
import-bounds g room s bs out out' r l e f =
    let none : (a : ℕ) → Most (length bs) (nothing_done a s) = λ _. record { most = omega arith } in
    let some : Most (length bs) (ran_in room s (calls_in g s bs)) = record { most = calls-read g bs room s } in
    let q = either (Most (length bs)) (ltb 15 g) (none out_of_range)
    (either (Most (length bs)) (sound s) some (none not_sound)) in (
      omega (arith, ap (λ (x : Imported). x.read) e, q.most),
      omega (arith, ap (λ (x : Imported). x.written) e, stored-most (run_in g room s bs).sends out out' f l),
    )

-- and of an export
pub export-reads : (g room : ℕ) (ws : List ℕ) (d : Done) → d ≡ Report.reported (run_out g room ws) → d.read ≤ length ws
unfolding run_out
export-reads g room ws d =
    reads-most (run_out g room ws) (length ws) d
    (choose (λ (r : Ran (ℕ × Unit {0})). r.read ≤ length ws) (ltb 15 g) (λ _. omega arith) (λ _. words-read _ _ ws))

pub export-bounds : (g room : ℕ) (ws out out' : List ℕ) (d : Done) → length out' ≡ length out
    → d ≡ Report.reported (run_out g room ws) → out' ≡ at_start (run_out g room ws).sends out
    → (d.read ≤ length ws) × (d.written ≤ length out')
export-bounds g room ws out out' d l e f =
    (export-reads g room ws d e, writes-most (run_out g room ws) out out' d e f l)

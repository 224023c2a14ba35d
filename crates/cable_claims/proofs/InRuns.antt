-- A run in with room enough: it is its calls, every byte of it is read once, and what a call that reads its byte puts
-- in front. Assumes nothing.
use Prim.Native.Nat.{ℕ, zero, suc, ◌+◌, ◌-◌, ◌*◌, ◌≤◌}
use mathlib.Core.Path.{◌≡◌, refl, ap, ◌∙◌}
use mathlib.Core.Bool.{Bool, true, false, cond}
use mathlib.Core.List.{List, [], ◌∷◌, ◌++◌}
use native.Mathlib.Omega.{arith}
use lib.Dec.{eqb}
use lib.ListN.{length, length-append}
use borrow.Author.Tests.{eq-eqb, le-leb}
use Rattle.stream.specs.Answers.{sent, taken_in}
use Rattle.cable.specs.declared.Cable.{Cable}
use Rattle.cable.specs.State.{pick, sound}
use Rattle.cable.specs.Hearing.{Call, byte_in, data_in, end_in, exclusive_in, first_in, message_in, real_time_in}
use Rattle.cable.specs.Hearing.{serving}
use Rattle.cable.specs.Hearing.{status_in}
use Rattle.cable.proofs.Ways.{Next, either, next-in, told}
use Rattle.inlet.specs.Inlet.{Made, before_rest, calls_in, made, nothing_done, ran_in, run_in}
use Rattle.inlet.proofs.CallLaws.{run-goes}
use Rattle.cable_claims.specs.Words.{Fine, all_in, whole_in}

-- with room for all that is sent, calls come to what they do where there is always room
ample : (ms : List Made) (room : ℕ) (s : Cable) → length (all_in s ms).sends ≤ room → ran_in room s ms ≡ all_in s ms
unfolding ran_in all_in pick
ample [] room s h = refl
ample (m ∷ ms) room s h =
    let l = length-append m.call.sends (all_in m.call.after ms).sends in
    rw (le-leb (length m.call.sends) room (omega arith))
    (ap (before_rest m.call) (ample ms (room - length m.call.sends) m.call.after (omega arith)))

pub run-whole : (g room : ℕ) (s : Cable) (bs : List ℕ) → g ≤ 15 → sound s ≡ true
    → length (whole_in g s bs).sends ≤ room → run_in g room s bs ≡ whole_in g s bs
run-whole g room s bs few ok h = run-goes g room s bs few ok ∙ ample (calls_in g s bs) room s h

-- it comes to its end
pub whole-answer : (ms : List Made) (s : Cable) → (all_in s ms).answer ≡ sent
unfolding all_in
whole-answer [] s = refl
whole-answer (m ∷ ms) s = whole-answer ms m.call.after

-- every byte is read once
pub whole-read : (g : ℕ) (bs : List ℕ) (s : Cable) → (whole_in g s bs).read ≡ length bs
unfolding calls_in all_in pick
whole-read g [] s = refl
whole-read g (b ∷ bs) s = go (byte_in s g b).read refl (next-in s g b) (λ u. whole-read g bs u)
  where
    go : (n : ℕ) → (byte_in s g b).read ≡ n → Next s g b (byte_in s g b)
        → ((u : Cable) → (whole_in g u bs).read ≡ length bs) → (whole_in g s (b ∷ bs)).read ≡ suc (length bs)
    go zero e x ih = rw (e, x.next e) (omega (arith, ih (byte_in (byte_in s g b).after g b).after))
    go (suc zero) e x ih = rw e (omega (arith, ih (byte_in s g b).after))
    go (suc (suc n)) e x ih = absurd (omega (arith, x.most))

pub one-call : (g : ℕ) (s : Cable) (b : ℕ) (bs : List ℕ) → (byte_in s g b).read ≡ 1
    → calls_in g s (b ∷ bs) ≡ made g s b ∷ calls_in g (byte_in s g b).after bs
unfolding calls_in pick
one-call g s b bs e =
    let u = (byte_in s g b).after in
    ap (λ (t : Bool). made g s b ∷ pick t (calls_in g u bs) (made g u b ∷ calls_in g (byte_in u g b).after bs))
    (eq-eqb (byte_in s g b).read 1 e)

-- with no byte left nothing is done
pub none_left : (g : ℕ) (s : Cable) → (whole_in g s [] ≡ nothing_done sent s) × Fine g s []
unfolding calls_in all_in
none_left g s = (refl, tt)

-- a call that reads its byte, and then the rest
module _ (g : ℕ) (s : Cable) (b : ℕ) (bs : List ℕ) (c : Call) (e : byte_in s g b ≡ c) (r : c.read ≡ 1) where
  pub goes : whole_in g s (b ∷ bs) ≡ before_rest c (whole_in g c.after bs)
  unfolding calls_in all_in pick
  goes = rw (e, r)

  pub goes-fine : c.answer ≤ taken_in → Fine g c.after bs → Fine g s (b ∷ bs)
  unfolding calls_in pick
  goes-fine h k = rw (e, r) (h, k)

-- How much a call sends: two words at most for a byte that it reads, and two for an exclusive that it closes.
abbrev pub weight : Cable → ℕ
weight s = cond (eqb s.status 0xF0) 2 0

record Light (s : Cable) (c : Call) : Type 0 where
  pub most : length c.sends + weight c.after ≤ 2 * c.read + weight s

ok : {s : Cable} {c : Call} → length c.sends + weight c.after ≤ 2 * c.read + weight s → Light s c
ok h = record { most = h }

pub weight-most : (t : Bool) → cond t 2 0 ≤ 2
weight-most true = omega arith
weight-most false = omega arith

light : (s : Cable) (g b : ℕ) → Light s (byte_in s g b)
unfolding byte_in real_time_in data_in exclusive_in message_in first_in status_in end_in
light s g b =
    let P = Light s in
    told P _ (λ _. either P _ (ok (omega arith)) (ok (omega arith))) (λ _.
    told P _
    (λ _. told P _ (λ e. either P _ (ok (omega arith)) (ok (rw e (omega arith))))
    (λ _. either P _ (ok (omega arith))
    (either P _
    (either P _ (ok (omega (arith, weight-most (eqb (serving s) 0xF0)))) (ok (omega arith))) (ok (omega arith)))))
    (λ _.
    told P _
    (λ _. either P _ (ok (omega arith))
    (either P _ (ok (omega arith)) (either P _ (ok (omega arith)) (ok (omega (arith, weight-most (eqb b 0xF0)))))))
    (λ _. told P _ (λ e. either P _ (ok (omega arith)) (ok (rw e (omega arith)))) (λ _. ok (omega arith)))))

-- so this much room is enough
calls-room : (g : ℕ) (bs : List ℕ) (s : Cable)
    → length (whole_in g s bs).sends + weight (whole_in g s bs).left ≤ 2 * length bs + weight s
unfolding calls_in all_in pick
calls-room g [] s = omega arith
calls-room g (b ∷ bs) s = go (byte_in s g b).read refl (next-in s g b) (λ u. calls-room g bs u)
  where
    go : (n : ℕ) → (byte_in s g b).read ≡ n → Next s g b (byte_in s g b)
        → ((u : Cable) → length (whole_in g u bs).sends + weight (whole_in g u bs).left ≤ 2 * length bs + weight u)
        → length (whole_in g s (b ∷ bs)).sends + weight (whole_in g s (b ∷ bs)).left ≤ 2 * suc (length bs) + weight s
    go zero e x ih =
        let u = (byte_in s g b).after in
        let v = (byte_in u g b).after in
        let k = x.next e in
        let l = length-append (byte_in s g b).sends ((byte_in u g b).sends ++ (whole_in g v bs).sends) in
        let m = length-append (byte_in u g b).sends (whole_in g v bs).sends in
        rw e (omega (arith, (light s g b).most, (light u g b).most, ih v, e, k, l, m))
    go (suc zero) e x ih =
        let u = (byte_in s g b).after in
        let l = length-append (byte_in s g b).sends (whole_in g u bs).sends in
        rw e (omega (arith, (light s g b).most, ih u, e, l))
    go (suc (suc n)) e x ih = absurd (omega (arith, x.most))

pub whole_room : (g : ℕ) (s : Cable) (bs : List ℕ) → length (whole_in g s bs).sends ≤ 2 * length bs + weight s
whole_room g s bs = omega (arith, calls-room g bs s)

-- what came back, with no refusal
pub record Returned (g : ℕ) (s : Cable) (bs ws : List ℕ) : Type 0 where
  pub sends : (whole_in g s bs).sends ≡ ws
  pub fine : Fine g s bs

pub heard : (g : ℕ) (s : Cable) (b : ℕ) (bs ws : List ℕ) (c : Call) → byte_in s g b ≡ c → c.read ≡ 1
    → c.answer ≤ taken_in → Returned g c.after bs ws → Returned g s (b ∷ bs) (c.sends ++ ws)
heard g s b bs ws c e r h t =
    record { sends = rw (goes g s b bs c e r, t.sends); fine = goes-fine g s b bs c e r h t.fine }

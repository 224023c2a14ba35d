-- Laws of one call: what every refusal does, and that it does the same in any output. Assumes nothing.
use Prim.Native.Nat.{ℕ}
use mathlib.Core.Path.{◌≡◌, refl}
use mathlib.Core.Bool.{true}
use mathlib.Core.List.{List, []}
use native.Mathlib.Nat.{sub-zero}
use lib.ListN.{length}
use lib.Dec.{leb-zero}
use Rattle.ground.proofs.Cases.{choose}
use Rattle.stream.specs.Answers.{stops_run}
use Rattle.stream.specs.Call.{Call, answer_of, fit, left_of, read_of, refused, sent_of}

-- a refusal by an answer that stops a run only where there is no packet to be read
pub refusal : {T : Type 0} (a : ℕ) (t : T) (p : List ℕ) → (stops_run a ≡ true → p ≡ [])
    → (answer_of (refused a t) ≡ a) × (read_of p (refused a t) ≡ length p) × (sent_of (refused a t) ≡ [])
    × (left_of t (refused a t) ≡ t)
unfolding refused
refusal {T} a t p h =
    choose (λ (c : Call T). (answer_of c ≡ a) × (read_of p c ≡ length p) × (sent_of c ≡ []) × (left_of t c ≡ t))
    (stops_run a)
    (λ e. (refl, rw (h e), refl, refl)) (λ _. (refl, refl, refl, refl))

-- what sends nothing has room
pub refused-fits : {T : Type 0} (room a : ℕ) (t : T) → fit room (refused a t) ≡ refused a (room, t)
unfolding refused
refused-fits {T} room a t =
    choose (λ (c : Call T). fit room c ≡ refused a (room, t)) (stops_run a) (λ e. rw e)
    (λ e. rw (e, leb-zero room, sub-zero room))

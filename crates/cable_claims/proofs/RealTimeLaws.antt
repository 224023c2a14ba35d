-- Real time bytes stand apart: each is read by one call that leaves the state as it is. Assumes nothing.
use mathlib.Core.Path.{◌≡◌, refl, ap, ◌∙◌}
use mathlib.Core.Bool.{Bool, true, false}
use mathlib.Core.List.{List, [], ◌∷◌}
use Prim.Native.Nat.{ℕ}
use lib.Dec.{eqb, leb}
use Rattle.ground.proofs.Cases.{by_bool}
use Rattle.cable.specs.declared.Cable.{Cable}
use Rattle.cable.specs.State.{pick}
use Rattle.cable.specs.Hearing.{Call, byte_in, real_time_in}
use Rattle.cable.proofs.Ways.{either, pick-false, pick_true}
use Rattle.inlet.specs.Inlet.{Made, calls_in, made}
use Rattle.cable_claims.specs.Words.{all_in}
use Rattle.cable_claims.specs.RealTime.{RealTimeApart, apart, others}
use Rattle.cable_claims.proofs.InRuns.{one-call}

record Keeps (s : Cable) (c : Call) : Type 0 where
  pub same : c.after ≡ s
  pub reads : c.read ≡ 1

keeps : (s : Cable) (g b : ℕ) → leb 0xF8 b ≡ true → Keeps s (byte_in s g b)
unfolding byte_in real_time_in
keeps s g b h =
    rw (h, pick_true) (either (Keeps s) _ (record { same = refl; reads = refl }) (record { same = refl; reads = refl }))

-- calls from a state of which some are the others with real time taken out
record Apart (s : Cable) (q r : List Made) : Type 0 where
  pub calls : q ≡ apart r
  pub state : (all_in s q).left ≡ (all_in s r).left

skipped : (g : ℕ) (s : Cable) (b : ℕ) {q r : List Made} → leb 0xF8 b ≡ true → Apart s q r → Apart s q (made g s b ∷ r)
unfolding apart pick all_in
skipped g s b h p = record { calls = rw h p.calls; state = rw (keeps s g b h).same p.state }

kept : (g : ℕ) (s : Cable) (b : ℕ) {q r : List Made} → leb 0xF8 b ≡ false → Apart (byte_in s g b).after q r
    → Apart s (made g s b ∷ q) (made g s b ∷ r)
unfolding apart pick all_in
kept g s b h p = record { calls = rw (h, p.calls); state = p.state }

-- a call that did not read its byte has another behind it
both : (g : ℕ) (s : Cable) (b : ℕ) (t : Bool) {x x' y y' : List Made} → leb 0xF8 b ≡ false
    → Apart (byte_in s g b).after x x' → Apart (byte_in s g b).after y y'
    → Apart s (made g s b ∷ pick t x y) (made g s b ∷ pick t x' y')
unfolding pick
both g s b true h p q = kept g s b h p
both g s b false h p q = kept g s b h q

abbrev Later : ℕ → List ℕ → Type 0
Later g bs = (u : Cable) → Apart u (calls_in g u (others bs)) (calls_in g u bs)

passed : (g : ℕ) (s : Cable) (b : ℕ) (bs : List ℕ) → Later g bs → leb 0xF8 b ≡ true
    → Apart s (calls_in g s (others (b ∷ bs))) (calls_in g s (b ∷ bs))
unfolding others
passed g s b bs more h =
    let k = keeps s g b h in
    let e = one-call g s b bs k.reads ∙ ap (λ (u : Cable). made g s b ∷ calls_in g u bs) k.same in
    rw (h, pick_true, e) (skipped g s b h (more s))

taken : (g : ℕ) (s : Cable) (b : ℕ) (bs : List ℕ) → Later g bs → leb 0xF8 b ≡ false
    → Apart s (calls_in g s (others (b ∷ bs))) (calls_in g s (b ∷ bs))
unfolding calls_in others
taken g s b bs more h =
    let u = (byte_in s g b).after in
    rw (h, pick-false)
    (both g s b (eqb (byte_in s g b).read 1) h (more u) (kept g u b h (more (byte_in u g b).after)))

apartly : (g : ℕ) (s : Cable) (bs : List ℕ) → Apart s (calls_in g s (others bs)) (calls_in g s bs)
unfolding calls_in others apart
apartly g s [] = record { calls = refl; state = refl }
apartly g s (b ∷ bs) =
    by_bool (leb 0xF8 b) (passed g s b bs (λ u. apartly g u bs)) (taken g s b bs (λ u. apartly g u bs))

pub proved-real-time : RealTimeApart
proved-real-time = record { calls = λ g s bs. (apartly g s bs).calls; state = λ g s bs. (apartly g s bs).state }

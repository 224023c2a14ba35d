-- A run is its calls: the states stay sound, so that each is the single call. Assumes nothing.
use Prim.Native.Nat.{ℕ, ◌≤◌}
use mathlib.Core.Path.{◌≡◌, sym, ap, ◌∙◌}
use mathlib.Core.Bool.{true}
use mathlib.Core.List.{List, [], ◌∷◌}
use lib.Dec.{eqb}
use borrow.Author.Tests.{le-ltb}
use Rattle.ground.specs.Lists.{All}
use Rattle.cable.specs.declared.Cable.{Cable}
use Rattle.cable.specs.State.{pick, sound}
use Rattle.cable.specs.Hearing.{Call, byte_in}
use Rattle.cable.proofs.Ways.{either, next-in}
use Rattle.inlet.specs.Inlet.{Made, call_in, calls_in, made, next_in}
use Rattle.cable_claims.specs.EveryByte.{EveryByte}
use Rattle.cable_claims.proofs.InRuns.{run-whole, whole-answer, whole-read}
use Rattle.cable_claims.proofs.SoundLaws.{byte-sound}

-- a call of a good group in a sound state is what the byte does
called : (s : Cable) (g b : ℕ) → g ≤ 15 → sound s ≡ true → call_in s g (b ∷ []) ≡ byte_in s g b
unfolding call_in next_in pick
called s g b h k = rw (le-ltb 15 g h, k)

record Single (g : ℕ) (ms : List Made) : Type 0 where
  pub all : All (λ (m : Made). call_in m.before g (m.byte ∷ []) ≡ m.call) ms

single : (g : ℕ) → g ≤ 15 → (bs : List ℕ) (s : Cable) → sound s ≡ true → Single g (calls_in g s bs)
unfolding calls_in
single g few [] s ok = record { all = tt }
single g few (b ∷ bs) s ok =
    let u = (byte_in s g b).after in
    let v = (byte_in u g b).after in
    let e = byte-sound s g b ok in
    let x = single g few bs u e in
    let y = single g few bs v (byte-sound u g b e) in
    let z : Single g (made g u b ∷ calls_in g v bs) = record { all = (called u g b few e, y.all) } in
    record { all = (called s g b few ok, (either (Single g) (eqb (byte_in s g b).read 1) x z).all) }

next : (g : ℕ) (s : Cable) (b : ℕ) → g ≤ 15 → sound s ≡ true → (call_in s g (b ∷ [])).read ≡ 0
    → (call_in (call_in s g (b ∷ [])).after g (b ∷ [])).read ≡ 1
next g s b few ok e =
    let c = called s g b few ok in
    let d = called (byte_in s g b).after g b few (byte-sound s g b ok) in
    let z = (next-in s g b).next (ap (λ (x : Call). x.read) (sym c) ∙ e) in
    rw (c, d) z

pub proved-every-byte : EveryByte
proved-every-byte =
    record {
      single = λ g s bs few ok. (single g few bs s ok).all;
      next = λ g s b few ok e. next g s b few ok e;
      ends = λ g room s bs few ok h.
          let e = run-whole g room s bs few ok h in
          (e, rw e (whole-answer (calls_in g s bs) s), rw e (whole-read g bs s));
    }

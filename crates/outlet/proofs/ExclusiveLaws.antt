-- Packets of exclusives: when nothing of one is bad, and what it sends then, its payload between the bytes that open
-- and end it. Assumes nothing.
use Prim.Native.Nat.{ℕ, ◌+◌, ◌≤◌, ◌<◌}
use mathlib.Core.Path.{◌≡◌, sym, ◌∙◌}
use mathlib.Core.Bool.{Bool, true, false, ◌&&◌, ◌||◌}
use mathlib.Core.List.{List, [], ◌∷◌, map}
use native.Mathlib.Omega.{arith}
use lib.Dec.{eqb, leb}
use lib.ListN.{take}
use borrow.Author.Tests.{le-leb, leb-true, lt-leb, ne_eqb}
use Rattle.ground.proofs.Bools.{and-false, and_left, and_right}
use Rattle.ground.proofs.Cases.{by_bool}
use Rattle.ump.specs.Word.{count, message_type, status}
use Rattle.fields.specs.Check.{Field, bad_place, checked_fields, exclusive_fields, good, good_fields, good_status}
use Rattle.fields.specs.Check.{seven}
use Rattle.cable.specs.State.{pick}
use Rattle.outlet.specs.Outlet.{amount, bytes_of, payload, six}
use Rattle.outlet.specs.Sending.{clean, framed, sends}

-- a field and those behind it
pub good_more : (f : Field) (fs : List Field) → good_fields (f ∷ fs) ≡ (good f && good_fields fs)
unfolding bad_place
good_more f fs =
    by_bool (good f)
    (λ g. rw g (by_bool (eqb (bad_place fs) 0) (λ z. rw z)
    (λ z. rw z (ne_eqb (bad_place fs + 1) 0 (λ e. omega (arith, e))))))
    (λ g. rw g)

module _ (w v : ℕ) (e : message_type w ≡ 3) where
  abbrev data-bytes : Bool
  data-bytes = good_fields (map seven (take (count w) (six w v)))

  clean-by : clean w v ≡ (leb (status w) 3 && (leb (count w) 6 && data-bytes))
  unfolding clean good_status checked_fields exclusive_fields
  clean-by = rw (e, good_more)

  pub clean-few : count w ≤ 6 → clean w v ≡ (leb (status w) 3 && data-bytes)
  clean-few h = clean-by ∙ rw (le-leb (count w) 6 h)

  pub clean-many : 6 < count w → clean w v ≡ false
  clean-many h = clean-by ∙ rw (lt-leb (count w) 6 h, and-false (leb (status w) 3))

  pub exclusive-none : clean w v ≡ false → sends w v ≡ []
  unfolding sends pick
  exclusive-none g = rw g

  pub exclusive-some : clean w v ≡ true
      → sends w v ≡ framed (leb (status w) 1) (eqb (status w) 0 || eqb (status w) 3) (count w) w v
  unfolding sends bytes_of payload amount pick
  exclusive-some g = rw (g, e)

  pub exclusive-few : clean w v ≡ true → count w ≤ 6
  exclusive-few g =
      let c = and_right (leb (status w) 3) (leb (count w) 6 && data-bytes) (sym clean-by ∙ g) in
      leb-true (count w) 6 (and_left (leb (count w) 6) data-bytes c)

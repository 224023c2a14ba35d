-- The sort of a packet by its screening is that by its answer and place, since what goes on has no place. Assumes
-- nothing.
use Prim.Native.Nat.{ℕ}
use mathlib.Core.Path.{◌≡◌, refl, ap, ◌∙◌}
use mathlib.Core.Bool.{Bool, true, false}
use mathlib.Core.List.{List}
use native.Mathlib.Omega.{arith}
use lib.Dec.{eqb}
use lib.ListN.{length}
use borrow.Author.Tests.{eqb-true}
use Rattle.ground.proofs.Cases.{by_bool}
use Rattle.ump.specs.Word.{message_type}
use Rattle.ump.specs.Packet.{first}
use Rattle.fields.specs.Check.{Field, bad_place}
use Rattle.stream.specs.Report.{place_told}
use Rattle.screen.specs.Screen.{Screened, checking, goes_on, judged, open_rule, reserved, screen}
use Rattle.screen.proofs.ScreenLaws.{judged-bad, judged-good, screen-place}
use Rattle.outlet.specs.Outlet.{ours, screen_out}
use Rattle.tally.specs.Tally.{sort_found, sort_of}

pub found-sort : (s : Screened) → (s.answer ≡ goes_on → s.place ≡ 0) → sort_found (judged s) ≡ sort_of s.answer s.place
found-sort s none = by_bool (eqb s.answer goes_on)
    (λ e. let z = eqb-true s.answer goes_on e in rw (judged-good s e, z, none z))
    (λ e. rw (judged-bad s e))

pub screen-none : (wrong : ℕ) (p : List ℕ) → (screen wrong p).answer ≡ goes_on → (screen wrong p).place ≡ 0
screen-none wrong p e = screen-place open_rule wrong p ∙ ap (λ (a : ℕ). place_told a p) e

-- what goes on of a check has no place
check-none : (good : Bool) (fs : List Field) → (checking good fs goes_on).answer ≡ goes_on
    → (checking good fs goes_on).place ≡ 0
check-none false fs e = refl
check-none true fs e = by_bool (eqb (bad_place fs) 0) (λ z. rw z) (λ z. absurd (omega (arith, rw z at e)))

pub out-none : (g : ℕ) (p : List ℕ) → (screen_out g p).answer ≡ goes_on → (screen_out g p).place ≡ 0
unfolding screen_out
out-none g p e = by_bool (eqb (length p) 0) (λ a. rw a)
    (λ a. by_bool (reserved (message_type (first p))) (λ b. rw (a, b))
    (λ b. by_bool (ours g (first p)) (λ o. rw (a, b, o) (check-none _ _ (rw (a, b, o) at e))) (λ o. rw (a, b, o))))

-- An event does to each key what it says of it, so the keys that are down after some events are those that the last
-- event that speaks of them presses.
use mathlib.Core.Path.{◌≡◌, refl, sym, ap, ◌∙◌}
use mathlib.Core.Bool.{Bool, true, false, cond}
use mathlib.Core.List.{List, [], ◌∷◌}
use Prim.Native.Nat.{ℕ, ◌<◌}
use lib.Dec.{eqb}
use borrow.Author.Tests.{eqb-true, eqb-false}
use Rattle.keys.specs.declared.Keys.{Keys}
use Rattle.keys.specs.Keys.{down, empty_keys, pressed, released}
use Rattle.keys.specs.History.{Event, press, release, clear, other, effect, after, says, says_from, History}
use Rattle.keys.proofs.Laws.{press_same, press_other, release_same, release_other, empty_none}

-- a key that an event names is changed, another is not
touch : (f : Keys → ℕ → Keys) (v : Bool) → ((s : Keys) (k : ℕ) → k < 128 → down (f s k) k ≡ v)
    → ((s : Keys) (k j : ℕ) → (j ≡ k → ⊥) → down (f s k) j ≡ down s j)
    → (s : Keys) (k j : ℕ) → k < 128 → (b : Bool) → eqb j k ≡ b → down (f s j) k ≡ cond b v (down s k)
touch f v same others s k j h true e = ap (λ (x : ℕ). down (f s x) k) (eqb-true j k e) ∙ same s k h
touch f v same others s k j h false e = others s j k (λ q. eqb-false j k e (sym q))

event-says : (s : Keys) (k : ℕ) (e : Event) → k < 128 → down (effect s e) k ≡ says k (down s k) e
unfolding effect says
event-says s k (press j) h = touch pressed true press_same press_other s k j h (eqb j k) refl
event-says s k (release j) h = touch released false release_same release_other s k j h (eqb j k) refl
event-says s k clear h = empty_none k
event-says s k other h = refl

pub all_say : (s : Keys) (es : List Event) (k : ℕ) → k < 128 → down (after s es) k ≡ says_from k (down s k) es
unfolding after says_from
all_say s [] k h = refl
all_say s (e ∷ es) k h = all_say (effect s e) es k h ∙ ap (λ (b : Bool). says_from k b es) (event-says s k e h)

pub history : History
history es k h = all_say empty_keys es k h ∙ ap (λ (b : Bool). says_from k b es) (empty_none k)

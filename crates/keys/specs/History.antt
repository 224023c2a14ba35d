-- What a row of events says of the keys, and the laws of the keys that are down (02 M-103).
use Rattle.std.specs.Prelude.{◌≡◌, Bool, true, false, cond, List, [], ◌∷◌, ℕ, ◌≤◌, ◌<◌, eqb, None, Some}
use Rattle.keys.specs.declared.Keys.{Keys}
use Rattle.keys.specs.Keys.{down, down_count, empty_keys, least_down, pressed, released}

-- what a message does to the keys of its channel
pub data Event : Type 0 where
  press : ℕ → Event
  release : ℕ → Event
  clear : Event
  other : Event

unfoldable pub effect : Keys → Event → Keys
effect s (press k) = pressed s k
effect s (release k) = released s k
effect s clear = empty_keys
effect s other = s

-- the events one after another, the oldest first
unfoldable pub after : Keys → List Event → Keys
after s [] = s
after s (e ∷ es) = after (effect s e) es

-- whether an event leaves key k down; one that does not speak of it leaves what was said before
unfoldable pub says : ℕ → Bool → Event → Bool
says k before (press j) = cond (eqb j k) true before
says k before (release j) = cond (eqb j k) false before
says k before clear = false
says k before other = before

-- What the last event that speaks of key k says; before them all the key is up.
unfoldable pub says_from : ℕ → Bool → List Event → Bool
says_from k before [] = before
says_from k before (e ∷ es) = says_from k (says k before e) es

abbrev pub last_says : List Event → ℕ → Bool
last_says es k = says_from k false es

-- The picture is what the events say of each key since none was down.
abbrev pub History : Type 0
History = (es : List Event) (k : ℕ) → k < 128 → down (after empty_keys es) k ≡ last_says es k

-- each change is of its own key and of no other
pub record Single : Type 0 where
  pub press_same : (s : Keys) (k : ℕ) → k < 128 → down (pressed s k) k ≡ true
  pub press_other : (s : Keys) (k j : ℕ) → (j ≡ k → ⊥) → down (pressed s k) j ≡ down s j
  pub release_same : (s : Keys) (k : ℕ) → k < 128 → down (released s k) k ≡ false
  pub release_other : (s : Keys) (k j : ℕ) → (j ≡ k → ⊥) → down (released s k) j ≡ down s j
  pub empty_none : (k : ℕ) → down empty_keys k ≡ false
  pub above_none : (s : Keys) (k : ℕ) → 128 ≤ k → down s k ≡ false

-- the lowest key is down and none below it is; there is none where the count is 0, and nowhere else
pub record Lowests : Type 0 where
  pub is_down : (s : Keys) (k : ℕ) → least_down s ≡ Some k → down s k ≡ true
  pub is_least : (s : Keys) (k j : ℕ) → least_down s ≡ Some k → j < k → down s j ≡ false
  pub none_zero : (s : Keys) → least_down s ≡ None → down_count s ≡ 0
  pub zero_none : (s : Keys) → down_count s ≡ 0 → least_down s ≡ None

-- Words about lists that the statements of several crates use.
use Rattle.std.specs.Prelude.{ℕ, ◌+◌}
use mathlib.Core.List.{List, [], ◌∷◌, ◌++◌, foldr}

abbrev pub sum : List ℕ → ℕ
sum ns = foldr ◌+◌ 0 ns

-- lists one after another, as one
abbrev pub joined : List (List ℕ) → List ℕ
joined ps = foldr ◌++◌ [] ps

-- every element has the property
abbrev pub All : {A : Type 0} → (A → Type 0) → List A → Type 0
All P [] = Unit {0}
All P (x ∷ xs) = P x × All P xs

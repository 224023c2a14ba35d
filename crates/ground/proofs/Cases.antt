-- Going by cases on a test. Assumes nothing.
use mathlib.Core.Path.{◌≡◌, refl, sym, subst}
use mathlib.Core.Bool.{Bool, true, false, cond, not}
use lib.Dec.{T}

-- with the equation
pub by_bool {ℓ} : {X : Type ℓ} (b : Bool) → (b ≡ true → X) → (b ≡ false → X) → X
by_bool true f g = f refl
by_bool false f g = g refl

-- a fact of a choice, from its two cases
pub choose : {A : Type 0} (P : A → Type 0) (b : Bool) {x y : A} → (b ≡ true → P x) → (b ≡ false → P y) → P (cond b x y)
choose P true f g = f refl
choose P false f g = g refl

-- false is not true
abbrev IsTrue : Bool → Type 0
IsTrue true = Unit {0}
IsTrue false = ⊥

pub not-both {ℓ} : {X : Type ℓ} → false ≡ true → X
not-both e = absurd (subst IsTrue (sym e) tt)

-- what a walk learns where a test holds
pub held : (b : Bool) → T b → b ≡ true
held true h = refl
held false h = absurd h

-- and where it does not
pub missed : (b : Bool) → T (not b) → b ≡ false
missed true h = absurd h
missed false h = refl

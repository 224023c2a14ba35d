-- There and back, what has no counterpart, and the examples: an old form is one of 01's or turns into nothing, and a
-- number stands for one of 01's or turns into nothing. Assumes nothing.
use Prim.Native.Nat.{ℕ, ◌+◌, ◌*◌, ◌/◌, ◌%◌, ◌<◌}
use mathlib.Core.Path.{◌≡◌, refl, sym, ap, ◌∙◌}
use mathlib.Core.Bool.{Bool, true, false}
use mathlib.Core.Logic.{◌↔◌, ◌⊎◌, inl, inr, ⊎_elim}
use Rattle.std.specs.Prelude.{None, Some}
use mathlib.Core.List.{List, [], ◌∷◌}
use native.Mathlib.Omega.{arith}
use lib.ListN.{length}
use lib.Dec.{eqb, leb}
use borrow.Author.Tests.{eqb-false, eqb-true, le-leb, leb-false, leb-true, lt-leb}
use Rattle.identity.specs.Identity.{new_of, old_of}
use Rattle.identity.specs.Claims.{Counterparts, Examples, OldForm, ThereAndBack, Without, examples}

-- a list of another length than one and three
pub of_other : (s : List ℕ) → (length s ≡ 1 → ⊥) → (length s ≡ 3 → ⊥) → new_of s ≡ None
unfolding new_of
of_other [] h k = refl
of_other (a ∷ []) h k = absurd (h refl)
of_other (a ∷ b ∷ []) h k = refl
of_other (a ∷ b ∷ c ∷ []) h k = absurd (k refl)
of_other (a ∷ b ∷ c ∷ d ∷ s) h k = refl

-- the number that a listed old form stands for
abbrev value : List ℕ → ℕ
value [] = 0
value (a ∷ []) = a
value (a ∷ b ∷ []) = 0
value (a ∷ b ∷ c ∷ []) = 32768 + b * 256 + c
value (a ∷ b ∷ c ∷ d ∷ s) = 0

apart : {A : Type 0} {x : A} → None ≡ Some x → ⊥
apart e = let z : ◌≡◌ {A = ℕ} 0 1 = cc in omega arith

-- Each old form is listed and has its number, or is not and has none.
pub old-cases : (s : List ℕ) → (OldForm s × (new_of s ≡ Some (value s))) ⊎ ((OldForm s → ⊥) × (new_of s ≡ None))
unfolding new_of
old-cases [] = inr (λ h. h, refl)
old-cases (a ∷ []) = go (leb 1 a) refl (leb a 127) refl
  where
    go : (p : Bool) → leb 1 a ≡ p → (q : Bool) → leb a 127 ≡ q
        → (OldForm (a ∷ []) × (new_of (a ∷ []) ≡ Some a)) ⊎ ((OldForm (a ∷ []) → ⊥) × (new_of (a ∷ []) ≡ None))
    go true e true f = inl ((leb-true 1 a e, leb-true a 127 f), rw (e, f))
    go true e false f = inr (λ h. omega (arith, h.1, leb-false a 127 f), rw (e, f))
    go false e q f = inr (λ h. omega (arith, h.0, leb-false 1 a e), rw e)
old-cases (a ∷ b ∷ []) = inr (λ h. h, refl)
old-cases (a ∷ b ∷ c ∷ []) = go (eqb a 0) refl (leb b 127) refl (leb c 127) refl
  where
    go : (p : Bool) → eqb a 0 ≡ p → (q : Bool) → leb b 127 ≡ q → (r : Bool) → leb c 127 ≡ r
        → (OldForm (a ∷ b ∷ c ∷ []) × (new_of (a ∷ b ∷ c ∷ []) ≡ Some (32768 + b * 256 + c)))
        ⊎ ((OldForm (a ∷ b ∷ c ∷ []) → ⊥) × (new_of (a ∷ b ∷ c ∷ []) ≡ None))
    go true e true f true g = inl ((eqb-true a 0 e, leb-true b 127 f, leb-true c 127 g), rw (e, f, g))
    go true e true f false g = inr (λ h. omega (arith, h.2, leb-false c 127 g), rw (e, f, g))
    go true e false f r g = inr (λ h. omega (arith, h.1, leb-false b 127 f), rw (e, f))
    go false e q f r g = inr (λ h. eqb-false a 0 e h.0, rw e)
old-cases (a ∷ b ∷ c ∷ d ∷ s) = inr (λ h. h, refl)

-- the number of a listed old form, back
back : (s : List ℕ) → OldForm s → (old_of (value s) ≡ Some s) × (value s < 65536)
unfolding old_of
back [] h = absurd h
back (a ∷ []) h = (rw (lt-leb 32768 a (omega (arith, h.1)), le-leb 1 a h.0, le-leb a 127 h.1), omega (arith, h.1))
back (a ∷ b ∷ []) h = absurd h
back (a ∷ b ∷ c ∷ []) h =
    let x = 32768 + b * 256 + c in
    let o : x / 128 % 2 ≡ 0 = omega (arith, h.1, h.2) in
    let p : x / 256 % 128 ≡ b = omega (arith, h.1, h.2) in
    let q : x % 128 ≡ c = omega (arith, h.1, h.2) in
    (rw (le-leb 32768 x (omega arith), o, p, q, h.0), omega (arith, h.1, h.2))
back (a ∷ b ∷ c ∷ d ∷ s) h = absurd h

-- an old form that stands for a number
record Has (x : ℕ) : Type 0 where
  form : List ℕ
  found : old_of x ≡ Some form
  listed : OldForm form
  same : x < 65536 → value form ≡ x
  not : Without x → ⊥

-- Each number is one of those listed and has none, or has an old form that stands for it.
new-cases : (x : ℕ) → (Without x × (old_of x ≡ None)) ⊎ Has x
unfolding old_of
new-cases x = go (leb 32768 x) refl (eqb (x / 128 % 2) 1) refl (leb 1 x) refl (leb x 127) refl
  where
    go : (o : Bool) → leb 32768 x ≡ o → (p : Bool) → eqb (x / 128 % 2) 1 ≡ p → (q : Bool) → leb 1 x ≡ q
        → (r : Bool) → leb x 127 ≡ r → (Without x × (old_of x ≡ None)) ⊎ Has x
    go true d true e q f r g = inl (inr (inr (leb-true 32768 x d, eqb-true (x / 128 % 2) 1 e)), rw (d, e))
    go true d false e q f r g =
        let h = leb-true 32768 x d in
        let n = eqb-false (x / 128 % 2) 1 e in
        inr (record {
          form = 0 ∷ x / 256 % 128 ∷ x % 128 ∷ [];
          found = rw (d, e);
          listed = (refl, omega arith, omega arith);
          same = λ m. omega (arith, m);
          not = ⊎_elim (λ z. omega (arith, z)) (⊎_elim (λ z. omega (arith, z.0)) (λ z. n z.1));
        })
    go false d p e true f true g =
        let h = leb-false 32768 x d in
        let l = leb-true 1 x f in
        let m = leb-true x 127 g in
        inr (record {
          form = x ∷ [];
          found = rw (d, f, g);
          listed = (l, m);
          same = λ _. refl;
          not = ⊎_elim (λ z. omega (arith, z)) (⊎_elim (λ z. omega (arith, z.1)) (λ z. omega (arith, z.0)));
        })
    go false d p e true f false g = inl (inr (inl (omega (arith, leb-false 32768 x d), omega (arith, leb-false x 127 g))), rw (d, f, g))
    go false d p e false f r g = inl (inl (omega (arith, leb-false 1 x f)), rw (d, f))

same_some : {A : Type 0} {x y : A} → Some x ≡ Some y → x ≡ y
same_some e = cc

pub proved-back : ThereAndBack
proved-back = record { old = old; new = new; small = small }
  where
    old : (s : List ℕ) (x : ℕ) → new_of s ≡ Some x → old_of x ≡ Some s
    old s x e = ⊎_elim (λ h. rw (← same_some (sym h.1 ∙ e)) (back s h.0).0) (λ h. absurd (apart (sym h.1 ∙ e))) (old-cases s)

    small : (s : List ℕ) (x : ℕ) → new_of s ≡ Some x → x < 65536
    small s x e = ⊎_elim (λ h. rw (← same_some (sym h.1 ∙ e)) (back s h.0).1) (λ h. absurd (apart (sym h.1 ∙ e))) (old-cases s)

    new : (x : ℕ) (s : List ℕ) → x < 65536 → old_of x ≡ Some s → new_of s ≡ Some x
    new x s m e = go (new-cases x)
      where
        again : (h : Has x)
            → (OldForm h.form × (new_of h.form ≡ Some (value h.form)))
            ⊎ ((OldForm h.form → ⊥) × (new_of h.form ≡ None)) → new_of s ≡ Some x
        again h (inl k) = rw (← same_some (sym h.found ∙ e)) (k.1 ∙ ap Some (h.same m))
        again h (inr k) = absurd (k.0 h.listed)

        go : (Without x × (old_of x ≡ None)) ⊎ Has x → new_of s ≡ Some x
        go (inl h) = absurd (apart (sym h.1 ∙ e))
        go (inr h) = again h (old-cases h.form)

pub proved-counterparts : Counterparts
proved-counterparts = record { old = old; new = new }
  where
    old : (s : List ℕ) → (new_of s ≡ None) ↔ (OldForm s → ⊥)
    old s = ⊎_elim (λ h. (λ e. absurd (apart (sym e ∙ h.1)), λ n. absurd (n h.0))) (λ h. (λ e. h.0, λ n. h.1)) (old-cases s)

    new : (x : ℕ) → (old_of x ≡ None) ↔ Without x
    new x = ⊎_elim (λ h. (λ e. h.0, λ w. h.1)) (λ h. (λ e. absurd (apart (sym e ∙ h.found)), λ w. absurd (h.not w))) (new-cases x)

pub proved-examples : Examples
unfolding new_of old_of Examples examples
proved-examples = ((refl, refl), ((refl, refl), ((refl, refl), ((refl, refl), tt))))

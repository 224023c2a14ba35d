-- Two counts together, one sort after another. Assumes nothing.
use Rattle.std.proofs.Common.{◌≡◌, ◌∙◌, ℕ, ◌+◌, ◌%◌, ◌^◌, ◌<◌, ◌≤◌, List, length, length-set, get_or, set, refl, ap}
use Rattle.std.proofs.Common.{eqb, arith}
use Rattle.std.proofs.lemmas.List.{get_or-set_other, get_or-set_same}
use borrow.Author.Tests.{eqb-false, eqb-true}
use Rattle.ground.proofs.Cases.{by_bool}
use Rattle.tally.specs.Tally.{all_sorts}

module _ (a b : List ℕ) where
  abbrev sum : ℕ → ℕ
  sum j = (get_or a j 0 + get_or b j 0) % 2 ^ 64

  -- the loop's invariant: the sorts before a place are those of both
  pub record Both (t : List ℕ) (i : ℕ) : Type 0 where
    pub done : (j : ℕ) → j < i → get_or t j 0 ≡ sum j
    pub left : (j : ℕ) → i ≤ j → get_or t j 0 ≡ get_or a j 0
    pub long : length t ≡ all_sorts

  pub both_start : length a ≡ all_sorts → Both a 0
  both_start l = record { done = λ j h. absurd (omega (arith, h)); left = λ j h. refl; long = l }

  pub both-more : (t : List ℕ) (i : ℕ) → Both t i → i < all_sorts
      → Both (set t i ((get_or t i 0 + get_or b i 0) % 2 ^ 64)) (i + 1)
  both-more t i inv k =
      let v = (get_or t i 0 + get_or b i 0) % 2 ^ 64 in
      record {
        done = λ j h. by_bool (eqb j i)
            (λ e. rw (eqb-true j i e)
            (get_or-set_same t i v 0 (omega (arith, inv.long, k))
            ∙ ap (λ n. (n + get_or b i 0) % 2 ^ 64) (inv.left i (omega arith))))
            (λ e. get_or-set_other t i j v 0 (eqb-false j i e) ∙ inv.done j (omega (arith, h, eqb-false j i e)));
        left = λ j h. get_or-set_other t i j v 0 (λ q. omega (arith, h, q)) ∙ inv.left j (omega (arith, h));
        long = length-set t i v ∙ inv.long;
      }

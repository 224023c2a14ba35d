-- The table with the marks of a list: one more record of it, what stands at each place, and that it is empty but for
-- its marks. Assumes nothing.
use Prim.Native.Nat.{ℕ, zero, suc, ◌+◌, ◌<◌, ◌≤◌}
use mathlib.Core.Path.{◌≡◌, refl, sym, ◌∙◌}
use mathlib.Core.List.{List, [], ◌∷◌}
use native.Mathlib.Omega.{arith}
use native.Mathlib.Numerals.{add-one}
use lib.Dec.{eqb, ltb}
use lib.ListN.{get_or-append, get_or-eq_default, get_or, length, length-append, set, take}
use lib.Seq.{get_or_at, take_all, take-suc-set}
use borrow.Author.Tests.{ltb-false, ltb-true}
use Rattle.ground.proofs.Cases.{by_bool}
use Rattle.channel.specs.declared.Record.{Record}
use Rattle.channel.specs.Record.{EmptyButMarks, empty, whole_table, with_mark}
use Rattle.mark.specs.Lesson.{mark_in, marked_below, marked_table}

-- empty but for the mark
abbrev pub Bare : Record → Type 0
Bare r = r ≡ with_mark empty r.memory.coarse

pub bare : (n : ℕ) → Bare (with_mark empty n)
bare n = by_bool (eqb n 0) (λ e. rw e) (λ e. rw e)

module _ (coarse : List ℕ) where
  -- the record of a place
  abbrev own : ℕ → Record
  own k = with_mark empty (mark_in coarse k)

  below_length : (n : ℕ) → length (marked_below coarse n) ≡ n
  unfolding marked_below
  below_length zero = refl
  below_length (suc n) = omega (arith, length-append (marked_below coarse n) (own n ∷ []), below_length n)

  -- the loop that stores the records: none yet, one more, and all
  pub below_none : [] ≡ marked_below coarse 0
  unfolding marked_below
  below_none = refl

  pub below_more : (t : List Record) (k : ℕ) (r : Record) → k < length t → r ≡ own k → take k t ≡ marked_below coarse k
      → take (k + 1) (set t k r) ≡ marked_below coarse (k + 1)
  unfolding marked_below
  below_more t k r h er e = rw (add-one k, take-suc-set t k r h, e, er)

  pub below_all : (t : List Record) (k : ℕ) → length t ≡ whole_table → k ≡ whole_table → take k t ≡ marked_below coarse k
      → t ≡ marked_table coarse
  unfolding marked_table
  below_all t k l h e = sym (take_all whole_table t (omega arith)) ∙ (rw h at e)

  below_at : (n k : ℕ) → k < n → get_or (marked_below coarse n) k empty ≡ own k
  unfolding marked_below
  below_at zero k h = absurd (omega arith)
  below_at (suc n) k h =
      let t = marked_below coarse n in
      let l = below_length n in
      by_bool (ltb k n)
      (λ e. let b = ltb-true k n e in get_or-append t (own n ∷ []) empty k (omega arith) ∙ below_at n k b)
      (λ e. let s : k ≡ n = omega (arith, ltb-false k n e) in rw s (get_or_at t (own n) [] empty n l))

  -- each record by its place, and none past the table
  pub marked-length : length (marked_table coarse) ≡ whole_table
  unfolding marked_table
  marked-length = below_length whole_table

  pub marked-at : (k : ℕ) → k < whole_table → get_or (marked_table coarse) k empty ≡ own k
  unfolding marked_table
  marked-at k h = below_at whole_table k h

  pub marked-past : (k : ℕ) → whole_table ≤ k → get_or (marked_table coarse) k empty ≡ empty
  marked-past k h = get_or-eq_default (marked_table coarse) empty (rw marked-length h)

  pub marked_empty : EmptyButMarks (marked_table coarse)
  marked_empty =
      record {
        whole = marked-length;
        each = λ k.
            by_bool (ltb k whole_table)
            (λ e. rw (marked-at k (ltb-true k whole_table e)) (bare (mark_in coarse k)))
            (λ e. rw (marked-past k (ltb-false k whole_table e)) refl);
      }

-- `figures::put_exact`: the whole number, and where there is a fraction the point and its digits.
use Prim.Native.Nat.{ℕ, ◌+◌, ◌/◌, ◌%◌, ◌^◌, ◌≤◌, ◌<◌}
use mathlib.Core.Path.{sym, ◌∙◌}
use mathlib.Core.List.{List, [], ◌∷◌, append_assoc}
use native.Mathlib.Omega.{arith}
use native.Mathlib.Nat.{zero-add}
use lib.ListN.{length, length-set}
use Rattle.std.proofs.Common.{Some}
use Rattle.text.specs.Lines.{decimal}
use Rattle.text.proofs.RowLaws.{Put, has_place}
use Rattle.figures.specs.Figures.{fraction_digits}
use Rattle.figures.proofs.Rows.{Row, and_byte, and-put, and-stored, nothing_put, row-long}
use Rattle.figures.proofs.FigureLaws.{digits-few, exact-point, exact-whole, whole-few}
use Rattle.figures.proofs.put_exact.Goals as goal

-- the whole number stands first, has at most 20 digits and leaves room for the rest
record Whole (l : List ℕ) (n at : ℕ) (after : List ℕ) : Type 0 where
  is : Row l 0 (decimal (n / 2 ^ 31)) after at
  few : at ≤ 20
  room : at + 32 ≤ length after

whole : (l : List ℕ) (n at : ℕ) (after : List ℕ) → 52 ≤ length l → n < 2 ^ 64
    → Put l 0 (decimal (n / 2 ^ 31)) (Some at) after → Whole l n at after
whole l n at after h k p =
    let r = and-put l 0 (nothing_put l 0) (decimal (n / 2 ^ 31)) _ _ p (omega (arith, h, whole-few n k)) in
    let f : at ≤ 20 = omega (arith, r.place, whole-few n k) in
    record { is = r; few = f; room = omega (arith, f, h, row-long l 0 r) }

pub unwrap-point-requires : goal.unwrap-point-requires
unwrap-point-requires c =
    let n = c.args.size in
    has_place c.args.row.now 0 (decimal (n / 2 ^ 31)) _ c.number.ensures.place
    (omega (arith, c.requires, whole-few n c.ranges.size.fits))

pub returns-then-rest-eq0 : goal.returns-then-rest-eq0
returns-then-rest-eq0 c =
    let w = whole c.args.row.now c.args.size _ _ c.requires c.ranges.size.fits
    (sym c.unwrap-point.ensures ∙ c.number.ensures.place, c.number.ensures.text) in
    let e = exact-whole c.args.size c.if-rest-eq0.true in
    rw e record {
      place = w.is.place ∙ zero-add _;
      text = w.is.is;
      few = omega (arith, w.few);
    }

pub returns : goal.returns
returns c =
    let l = c.args.row.now in
    let n = c.args.size in
    let f = fraction_digits 31 (n % 2 ^ 31) in
    let w = whole l n _ _ c.requires c.ranges.size.fits
    (sym c.unwrap-point.ensures ∙ c.number.ensures.place, c.number.ensures.text) in
    let all = and-stored l 0 (and_byte l 0 w.is 46) f _ _ (c.put_digits.ensures.place, c.put_digits.ensures.text) in
    let e = exact-point n c.if-rest-eq0.false ∙ sym (append_assoc (decimal (n / 2 ^ 31)) (46 ∷ []) f) in
    rw e record {
      place = all.place ∙ zero-add _;
      text = all.is;
      few = omega (arith, c.put_digits.ensures.place, w.few, digits-few 31 (n % 2 ^ 31));
    }

pub bounds-row-point : goal.bounds-row-point
bounds-row-point c =
    let w = whole c.args.row.now c.args.size _ _ c.requires c.ranges.size.fits
    (sym c.unwrap-point.ensures ∙ c.number.ensures.place, c.number.ensures.text) in
    omega (arith, w.room)

pub put_digits-requires : goal.put_digits-requires
put_digits-requires c =
    let w = whole c.args.row.now c.args.size _ _ c.requires c.ranges.size.fits
    (sym c.unwrap-point.ensures ∙ c.number.ensures.place, c.number.ensures.text) in
    (omega arith, simp length-set (omega (arith, w.room)))

-- `display::picture::put_line`: the number of the notes, the notes, and the end of the line.
use Prim.Native.Nat.{ℕ, ◌+◌, ◌≤◌, ◌<◌}
use mathlib.Core.Path.{◌≡◌, sym, ◌∙◌}
use mathlib.Core.List.{List, ◌++◌}
use native.Mathlib.Omega.{arith}
use native.Mathlib.Nat.{zero-add}
use lib.ListN.{length}
use Rattle.std.proofs.lemmas.List.Edits.{sets}
use Rattle.std.proofs.Common.{Some}
use Rattle.text.specs.Lines.{decimal, places}
use Rattle.text.proofs.LineLaws.{digits-length, places-few}
use Rattle.text.proofs.RowLaws.{Put, has_place}
use Rattle.figures.proofs.Rows.{Row, and_byte, and-put, and-stored, nothing_put, row-long}
use Rattle.display.specs.Line.{count_below, line_of}
use Rattle.display.proofs.LineLaws.{count-few}
use Rattle.display.proofs.picture.put_line.Goals as goal

-- the number, which has at most 20 digits and room for the notes after it
record Counted (l : List ℕ) (n at : ℕ) (after : List ℕ) : Type 0 where
  is : Row l 0 (decimal n) after at
  few : at ≤ 20
  room : at + 8064 ≤ length after

number-few : (n : ℕ) → n ≤ 128 → length (decimal n) ≤ 20
number-few n few = omega (arith, digits-length 10 (places n) n, places-few n (omega arith))

counted : (l : List ℕ) (n k at : ℕ) (after : List ℕ) → 8192 ≤ length l → n ≤ 128 → k ≡ n
    → Put l 0 (decimal k) (Some at) after → Counted l n at after
counted l n k at after h few is p =
    let short = number-few n few in
    let r = and-put l 0 (nothing_put l 0) (decimal n) _ _ (rw is at p) (omega (arith, h, short)) in
    let f : at ≤ 20 = omega (arith, r.place, short) in
    record { is = r; few = f; room = omega (arith, f, h, row-long l 0 r) }

-- the notes after it, and room for the end of the line
record Noted (l xs : List ℕ) (end : ℕ) (after : List ℕ) : Type 0 where
  is : Row l 0 xs after end
  few : end ≤ 8084
  room : end < length after

noted : (l : List ℕ) (n at : ℕ) (first xs : List ℕ) (end : ℕ) (after : List ℕ) → 8192 ≤ length l
    → Counted l n at first → (end ≡ at + length xs) × (after ≡ sets first at xs) → end ≤ at + 8064
    → Noted l (decimal n ++ xs) end after
noted l n at first xs end after h c e few =
    let r = and-stored l 0 c.is xs _ _ e in
    let f : end ≤ 8084 = omega (arith, few, c.few) in
    record { is = r; few = f; room = omega (arith, f, h, row-long l 0 r) }

pub unwrap-fields-requires : goal.unwrap-fields-requires
unwrap-fields-requires c =
    let a = c.args in
    let n = count_below a.desk a.units 128 in
    has_place a.row.now 0 (decimal n) _ (rw c.count_notes.ensures at c.number.ensures.place)
    (omega (arith, c.requires, number-few n (count-few a.desk a.units 128)))

pub put_notes-end-requires : goal.put_notes-end-requires
put_notes-end-requires c =
    let a = c.args in
    let n = c.number.ensures in
    (counted a.row.now (count_below a.desk a.units 128) _ _ _ c.requires (count-few a.desk a.units 128)
    c.count_notes.ensures (sym c.unwrap-fields.ensures ∙ n.place, n.text)).room

pub bounds-row-end : goal.bounds-row-end
bounds-row-end c =
    let a = c.args in
    let n = c.number.ensures in
    let p = c.put_notes-end.ensures in
    let first = counted a.row.now (count_below a.desk a.units 128) _ _ _ c.requires (count-few a.desk a.units 128)
    c.count_notes.ensures (sym c.unwrap-fields.ensures ∙ n.place, n.text) in
    omega (arith, (noted _ _ _ _ _ _ _ c.requires first (p.place, p.text) p.few).room)

pub returns : goal.returns
unfolding line_of
returns c =
    let a = c.args in
    let n = c.number.ensures in
    let p = c.put_notes-end.ensures in
    let first = counted a.row.now (count_below a.desk a.units 128) _ _ _ c.requires (count-few a.desk a.units 128)
    c.count_notes.ensures (sym c.unwrap-fields.ensures ∙ n.place, n.text) in
    let all = noted _ _ _ _ _ _ _ c.requires first (p.place, p.text) p.few in
    let r = and_byte a.row.now 0 all.is 10 in
    record {
      place = r.place ∙ zero-add _;
      text = r.is;
      few = omega (arith, all.few);
    }

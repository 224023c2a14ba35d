-- `display::picture::put_field`: a space, the number, the name and the pitch, one after another.
use Prim.Native.Nat.{ℕ, ◌+◌, ◌^◌, ◌≤◌, ◌<◌}
use mathlib.Core.Path.{sym, ◌∙◌}
use mathlib.Core.List.{List, [], ◌∷◌, ◌++◌}
use native.Mathlib.Omega.{arith}
use lib.ListN.{length, length-append}
use Rattle.std.proofs.Common.{Some}
use Rattle.text.specs.Lines.{decimal}
use Rattle.text.proofs.RowLaws.{Put}
use Rattle.figures.proofs.Rows.{Row, and-fits, and-put, and-stored, nothing_put, row-long}
use Rattle.display.specs.Line.{field_of}
use Rattle.display.proofs.LineLaws.{note-few}
use Rattle.display.proofs.picture.put_field.Goals as goal

-- the space, and the number after it
spaced : (l : List ℕ) (at i : ℕ) (a : List ℕ) → at + 63 ≤ length l → Put l at (32 ∷ []) (Some i) a
    → Row l at (32 ∷ []) a i
spaced l at i a room p = and-put l at (nothing_put l at) (32 ∷ []) _ _ p (omega (arith, room))

numbered : (l : List ℕ) (at note i j : ℕ) (a b : List ℕ) → note < 2 ^ 8 → at + 63 ≤ length l
    → Put l at (32 ∷ []) (Some i) a → Put a i (decimal note) (Some j) b → Row l at ((32 ∷ []) ++ decimal note) b j
numbered l at note i j a b h room p q =
    and-put l at (spaced l at i a room p) (decimal note) _ _ q (omega (arith, note-few note h, room))

-- what stands before the pitch, which has room after it
record Named (l : List ℕ) (at note : ℕ) (name : List ℕ) (end : ℕ) (after : List ℕ) : Type 0 where
  is : Row l at ((32 ∷ []) ++ decimal note ++ name) after end
  room : end + 53 ≤ length after

named : (l : List ℕ) (at note : ℕ) (name : List ℕ) (i j k : ℕ) (a b e : List ℕ)
    → note < 2 ^ 8 → length name ≤ 6 → at + 63 ≤ length l
    → Put l at (32 ∷ []) (Some i) a → Put a i (decimal note) (Some j) b → Put b j name (Some k) e
    → Named l at note name k e
named l at note name i j k a b e h n room p q r =
    let few = note-few note h in
    let one = length-append (32 ∷ []) (decimal note) in
    let two = length-append ((32 ∷ []) ++ decimal note) name in
    let r₃ = and-put l at (numbered l at note i j a b h room p q) name _ _ r (omega (arith, few, one, n, room)) in
    record { is = r₃; room = omega (arith, few, one, two, n, room, r₃.place, row-long l at r₃) }

pub unwrap-second-requires : goal.unwrap-second-requires
unwrap-second-requires c =
    let a = c.args in
    let room = c.requires.2 in
    let r₁ = spaced a.row.now a.at _ _ room (sym c.unwrap-first.ensures ∙ c.row.ensures.place, c.row.ensures.text) in
    and-fits a.row.now a.at r₁ (decimal a.note) _ c.number.ensures.place
    (omega (arith, note-few a.note c.ranges.note.fits, room))

pub unwrap-third-requires : goal.unwrap-third-requires
unwrap-third-requires c =
    let a = c.args in
    let room = c.requires.2 in
    let short = c.requires.1 in
    let few = note-few a.note c.ranges.note.fits in
    let r₂ = numbered a.row.now a.at a.note _ _ _ _ c.ranges.note.fits room
    (sym c.unwrap-first.ensures ∙ c.row.ensures.place, c.row.ensures.text)
    (sym c.unwrap-second.ensures ∙ c.number.ensures.place, c.number.ensures.text) in
    and-fits a.row.now a.at r₂ a.name.now _ c.row-2.ensures.place
    (omega (arith, few, short, room, length-append (32 ∷ []) (decimal a.note)))

pub put_pitch-requires : goal.put_pitch-requires
put_pitch-requires c =
    let a = c.args in
    let n = named a.row.now a.at a.note a.name.now _ _ _ _ _ _ c.ranges.note.fits c.requires.1 c.requires.2
    (sym c.unwrap-first.ensures ∙ c.row.ensures.place, c.row.ensures.text)
    (sym c.unwrap-second.ensures ∙ c.number.ensures.place, c.number.ensures.text)
    (sym c.unwrap-third.ensures ∙ c.row-2.ensures.place, c.row-2.ensures.text) in
    (c.requires.0, omega (arith, n.room))

pub returns : goal.returns
unfolding field_of
returns c =
    let a = c.args in
    let n = named a.row.now a.at a.note a.name.now _ _ _ _ _ _ c.ranges.note.fits c.requires.1 c.requires.2
    (sym c.unwrap-first.ensures ∙ c.row.ensures.place, c.row.ensures.text)
    (sym c.unwrap-second.ensures ∙ c.number.ensures.place, c.number.ensures.text)
    (sym c.unwrap-third.ensures ∙ c.row-2.ensures.place, c.row-2.ensures.text) in
    let r = and-stored a.row.now a.at n.is _ _ _ (c.put_pitch.ensures.place, c.put_pitch.ensures.text) in
    record {
      place = r.place;
      text = r.is;
    }

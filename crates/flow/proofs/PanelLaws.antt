-- The lines of the panel: one more of them, how many bytes they have, and what a text that has room for all holds.
-- Assumes nothing.
use Prim.Native.Nat.{ℕ, suc, ◌+◌, ◌*◌, ◌-◌, ◌/◌, ◌%◌, ◌<◌, ◌≤◌}
use mathlib.Core.Path.{◌≡◌, refl, ap, ◌∙◌}
use mathlib.Core.List.{List, [], ◌∷◌, ◌++◌}
use native.Mathlib.Omega.{arith}
use native.Mathlib.Nat.{add-zero}
use native.Mathlib.Numerals.{add-one}
use lib.Dec.{leb}
use lib.ListN.{drop, drop_of_length-le, get_or, length, length-append}
use lib.Seq.{drop-cons, length-sets, sets, sets-eq}
use borrow.Author.Tests.{le-leb, leb-true}
use Rattle.ground.specs.Lists.{joined}
use Rattle.ground.specs.Store.{at_start}
use Rattle.ground.proofs.Cases.{choose}
use Rattle.ground.proofs.StoreLaws.{start-written}
use Rattle.ground.proofs.Stores.{sets-append}
use Rattle.channel.specs.declared.Record.{Record}
use Rattle.channel.specs.Record.{whole_table}
use Rattle.text.specs.Lines.{place_after, with_row}
use Rattle.text.specs.Lamps.{channel_line}
use Rattle.text.proofs.LampLaws.{line-most}
use Rattle.flow.specs.Panel.{lines_from, panel_lines, panel_room, rows_put}

-- the loop over the records: one more line, and none left
pub lines_more : (t : List Record) (i : ℕ) (d : Record) (text text' : List ℕ) (to to' : ℕ) → i < length t
    → let row = channel_line (i / 16) (i % 16) (get_or t i d).keys in
    (to' ≡ place_after text to row) × (text' ≡ with_row text to row)
    → rows_put text to (lines_from i (drop i t)) ≡ rows_put text' to' (lines_from (i + 1) (drop (i + 1) t))
unfolding lines_from rows_put
lines_more t i d text text' to to' h e = rw (e.0, e.1, add-one i, drop-cons t i d h)

pub lines-done : (t : List Record) (i : ℕ) (text : List ℕ) (to : ℕ) → length t ≤ i
    → rows_put text to (lines_from i (drop i t)) ≡ (to, text)
unfolding lines_from rows_put
lines-done t i text to h = rw (drop_of_length-le t h)

-- rows that all fit stand one after another
rows_all : (rows : List (List ℕ)) (text : List ℕ) (to : ℕ) → to + length (joined rows) ≤ length text
    → rows_put text to rows ≡ (to + length (joined rows), sets text to (joined rows))
unfolding rows_put
rows_all [] text to h = rw (add-zero to)
rows_all (row ∷ rows) text to h =
    let l = length-append row (joined rows) in
    let a : to + length row + length (joined rows) ≡ to + length (row ++ joined rows) = omega arith in
    rw (le-leb (length row) (length text - to) (omega arith), sets-append text to row (joined rows), ← a)
    (rows_all rows (sets text to row) (to + length row) (omega (arith, length-sets text to row)))

-- no record has a longer line than its share of the room
lines-most : (i : ℕ) (t : List Record) → i + length t ≤ whole_table → length (joined (lines_from i t)) ≤ 143 * length t
unfolding lines_from
lines-most i [] h = omega arith
lines-most i (r ∷ rs) h =
    let row = channel_line (i / 16) (i % 16) r.keys in
    omega (
      arith,
      length-append row (joined (lines_from (suc i) rs)),
      line-most (i / 16) (i % 16) r.keys (omega arith) (omega arith),
      lines-most (suc i) rs (omega arith),
    )

pub panel-whole : (t : List Record) (text text' : List ℕ) (n : ℕ) → length t ≡ whole_table
    → n ≡ (rows_put text 0 (panel_lines t)).0 → text' ≡ (rows_put text 0 (panel_lines t)).1 → panel_room ≤ length text
    → (n ≡ length (joined (panel_lines t))) × (text' ≡ at_start (joined (panel_lines t)) text)
panel-whole t text text' n l en et h =
    let rows = joined (panel_lines t) in
    let z = lines-most 0 t (omega arith) in
    let e = rows_all (panel_lines t) text 0 (omega arith) in (
      omega (arith, en, ap (λ (r : ℕ × List ℕ). r.0) e),
      et ∙ ap (λ (r : ℕ × List ℕ). r.1) e ∙ sets-eq rows text 0 (omega arith) ∙ start-written rows text,
    )

-- whatever fits, it stays inside the text
row_inside : (row text : List ℕ) (to : ℕ) → to ≤ length text
    → (place_after text to row ≤ length text) × (length (with_row text to row) ≡ length text)
row_inside row text to h =
    let b = leb (length row) (length text - to) in (
      choose (λ (n : ℕ). n ≤ length text) b (λ e. omega (arith, leb-true (length row) (length text - to) e)) (λ _. h),
      choose (λ (l : List ℕ). length l ≡ length text) b (λ _. length-sets text to row) (λ _. refl),
    )

rows_inside : (rows : List (List ℕ)) (text : List ℕ) (to : ℕ) → to ≤ length text
    → ((rows_put text to rows).0 ≤ length text) × (length (rows_put text to rows).1 ≡ length text)
unfolding rows_put
rows_inside [] text to h = (h, refl)
rows_inside (row ∷ rows) text to h =
    let r = row_inside row text to h in
    let z = rows_inside rows (with_row text to row) (place_after text to row) (omega (arith, r.0, r.1)) in
    (omega (arith, z.0, r.1), z.1 ∙ r.1)

pub panel-inside : (t : List Record) (text text' : List ℕ) (n : ℕ)
    → n ≡ (rows_put text 0 (panel_lines t)).0 → text' ≡ (rows_put text 0 (panel_lines t)).1 → n ≤ length text'
panel-inside t text text' n en et =
    let z = rows_inside (panel_lines t) text 0 (omega arith) in omega (arith, en, ap length et, z.0, z.1)

-- `display::picture::put_pitch`: a minus below 0, and the digits.
use mathlib.Core.Path.{◌≡◌, sym, ◌∙◌}
use mathlib.Core.Bool.{true, false}
use mathlib.Core.List.{[], ◌∷◌}
use native.Mathlib.Omega.{arith}
use lib.IntN.{nat_abs}
use lib.Ieee.{of_bits}
use Rattle.figures.specs.Figures.{exact_decimal}
use Rattle.figures.proofs.Rows.{and-fits, and-put, nothing_put}
use Rattle.pitch.specs.Dyadic.{times2}
use Rattle.display.specs.Line.{below0, pitch_text}
use Rattle.display.proofs.Back.{turned}
use Rattle.display.proofs.LineLaws.{size_few}
use Rattle.display.proofs.picture.put_pitch.Goals as goal

pub unwrap-requires : goal.unwrap-requires
unwrap-requires c =
    let a = c.args in
    let r₁ = and-put a.row.now a.at (nothing_put a.row.now a.at) (45 ∷ []) _ _
    (sym c.unwrap-next.ensures ∙ c.row.ensures.place, c.row.ensures.text) (omega (arith, c.requires.1)) in
    and-fits a.row.now a.at r₁ (exact_decimal (nat_abs (times2 31 a.p))) _
    (rw c.size_of-size.ensures at c.exact.ensures.place)
    (omega (arith, c.requires.1, size_few a.p c.requires.0))

pub unwrap-requires-else-p : goal.unwrap-requires-else-p
unwrap-requires-else-p c =
    let a = c.args in
    and-fits a.row.now a.at (nothing_put a.row.now a.at) (exact_decimal (nat_abs (times2 31 a.p))) _
    (rw c.size_of-size.ensures at c.exact-else-p.ensures.place)
    (omega (arith, c.requires.1, size_few a.p c.requires.0))

pub returns-then-p : goal.returns-then-p
unfolding of_bits pitch_text
returns-then-p c =
    let a = c.args in
    let n = nat_abs (times2 31 a.p) in
    let t : below0 (times2 31 a.p) ≡ true = sym (turned _ c.requires.0).0 ∙ c.if-p.true in
    let room = size_few a.p c.requires.0 in
    let r₁ = and-put a.row.now a.at (nothing_put a.row.now a.at) (45 ∷ []) _ _
    (sym c.unwrap-next.ensures ∙ c.row.ensures.place, c.row.ensures.text) (omega (arith, c.requires.1)) in
    let r₂ = and-put a.row.now a.at r₁ (exact_decimal n) _ _ (
      rw c.size_of-size.ensures at (sym c.unwrap.ensures ∙ c.exact.ensures.place),
      rw c.size_of-size.ensures at c.exact.ensures.text,
    ) (omega (arith, c.requires.1)) in
    rw t record {
      place = r₂.place;
      text = r₂.is;
    }

pub returns-else-p : goal.returns-else-p
unfolding of_bits pitch_text
returns-else-p c =
    let a = c.args in
    let n = nat_abs (times2 31 a.p) in
    let t : below0 (times2 31 a.p) ≡ false = sym (turned _ c.requires.0).0 ∙ c.if-p.false in
    let room = size_few a.p c.requires.0 in
    let r = and-put a.row.now a.at (nothing_put a.row.now a.at) (exact_decimal n) _ _ (
      rw c.size_of-size.ensures at (sym c.unwrap-else-p.ensures ∙ c.exact-else-p.ensures.place),
      rw c.size_of-size.ensures at c.exact-else-p.ensures.text,
    ) (omega (arith, c.requires.1)) in
    rw t record {
      place = r.place;
      text = r.is;
    }

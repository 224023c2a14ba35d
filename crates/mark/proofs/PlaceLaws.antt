-- A group and channel that name a record stand inside a whole table. Assumes nothing.
use Prim.Native.Nat.{ℕ, ◌<◌}
use mathlib.Core.Path.{◌≡◌}
use mathlib.Core.Bool.{true}
use native.Mathlib.Omega.{arith}
use lib.Dec.{eqb, leb}
use borrow.Author.Tests.{eqb-true, leb-true}
use Rattle.ground.proofs.Bools.{and_left, and_right}
use Rattle.channel.specs.Record.{whole_table}
use Rattle.question.specs.Question.{in_range, place_asked}
use Rattle.mark.specs.Mark.{named}

module _ (n group channel : ℕ) (h : named n group channel ≡ true) where
  pub named-whole : n ≡ whole_table
  named-whole = eqb-true n whole_table (and_left (eqb n whole_table) (in_range group channel) h)

  pub named-inside : place_asked group channel < n
  named-inside =
      let r = and_right (eqb n whole_table) (in_range group channel) h in
      let g = leb-true group 15 (and_left (leb group 15) (leb channel 15) r) in
      let c = leb-true channel 15 (and_right (leb group 15) (leb channel 15) r) in
      omega (arith, g, c, named-whole)

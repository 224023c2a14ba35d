-- Rows of bytes for the output: one that is stored, one that has no room, and none; and the row of an exclusive's
-- packet, which is stored in three parts. Assumes nothing.
use Prim.Native.Nat.{ℕ, ◌+◌, ◌≤◌}
use mathlib.Core.Path.{◌≡◌, sym, ◌∙◌}
use mathlib.Core.Bool.{Bool, true, false}
use mathlib.Core.List.{List, [], ◌++◌}
use native.Mathlib.Omega.{arith}
use lib.ListN.{length, length-append, take}
use Rattle.std.specs.Int.{from_bool}
use Rattle.std.specs.Prelude.{Some, slice_set}
use Rattle.ground.proofs.Cases.{by_bool}
use Rattle.ground.proofs.StoreLaws.{written_none}
use lib.Seq.{length-take-le, sets, sets-eq}
use Rattle.ground.proofs.Stores.{sets-append}
use Rattle.cable.specs.State.{pick}
use Rattle.cable.specs.Put.{Puts}
use Rattle.outlet.specs.Outlet.{six}
use Rattle.outlet.specs.Sending.{framed, marked}

module _ (bs : List ℕ) (to : ℕ) (out : List ℕ) where
  pub stored : (after : List ℕ) (end : ℕ) → end ≡ to + length bs → to + length bs ≤ length out
      → after ≡ sets out to bs → Puts bs to out (Some end) after
  stored after end e h f = (h, e, f ∙ sets-eq bs out to h)

  pub nothing : bs ≡ [] → to ≤ length out → Puts bs to out (Some to) out
  nothing e h = rw e (omega (arith, h), omega arith, sym (written_none to out))

-- a byte that stands where a test holds takes one place or none, and is stored in it
module _ (t : Bool) (x : ℕ) where
  pub mark-length : length (marked t x) ≡ from_bool t
  unfolding pick
  mark-length = by_bool t (λ e. rw e) (λ e. rw e)

  pub mark-some : (at : ℕ) (out : List ℕ) → t ≡ true → sets out at (marked t x) ≡ slice_set out at x
  unfolding pick
  mark-some at out e = rw e

  pub mark-none : (at : ℕ) (out : List ℕ) → t ≡ false → sets out at (marked t x) ≡ out
  unfolding pick
  mark-none at out e = rw e

module _ (opens closes : Bool) (n w v : ℕ) (six-most : n ≤ 6) where
  abbrev head : ℕ
  head = from_bool opens

  taken : length (take n (six w v)) ≡ n
  taken = length-take-le n (six w v) six-most

  front : length (marked opens 0xF0 ++ take n (six w v)) ≡ head + n
  front = length-append (marked opens 0xF0) (take n (six w v)) ∙ rw (mark-length opens 0xF0, taken)

  pub framed-length : length (framed opens closes n w v) ≡ head + n + from_bool closes
  framed-length =
      length-append (marked opens 0xF0 ++ take n (six w v)) (marked closes 0xF7) ∙ rw (front, mark-length closes 0xF7)

  -- the three parts one after another
  framed-sets : (to : ℕ) (out : List ℕ)
      → sets (sets (sets out to (marked opens 0xF0)) (to + head) (take n (six w v))) (to + head + n)
      (marked closes 0xF7)
      ≡ sets out to (framed opens closes n w v)
  framed-sets to out =
      let e : to + length (marked opens 0xF0 ++ take n (six w v)) ≡ to + head + n = omega (arith, front) in
      let f : to + length (marked opens 0xF0) ≡ to + head = omega (arith, mark-length opens 0xF0) in
      sym (sets-append out to (marked opens 0xF0 ++ take n (six w v)) (marked closes 0xF7)
      ∙ rw (sets-append out to (marked opens 0xF0) (take n (six w v)), e, f))

  pub framed-stored : (to end : ℕ) (out after : List ℕ) → end ≡ to + head + n + from_bool closes → end ≤ length out
      → after
      ≡ sets (sets (sets out to (marked opens 0xF0)) (to + head) (take n (six w v))) (to + head + n)
      (marked closes 0xF7) → Puts (framed opens closes n w v) to out (Some end) after
  framed-stored to end out after e h f =
      stored (framed opens closes n w v) to out after end (omega (arith, e, framed-length))
      (omega (arith, e, h, framed-length)) (f ∙ framed-sets to out)

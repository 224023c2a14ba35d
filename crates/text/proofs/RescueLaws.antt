-- The lines of a rescue: how many bytes they have, and their parts. Assumes nothing.
use Prim.Native.Nat.{ℕ, ◌+◌}
use mathlib.Core.Path.{◌≡◌}
use mathlib.Core.List.{[], ◌∷◌, ◌++◌, append_assoc, append-nil}
use native.Mathlib.Omega.{arith}
use lib.ListN.{length, length-append}
use Rattle.text.specs.Lines.{call_of, fields_of, line_of, number_then, place_field, places}
use Rattle.text.specs.Rescue.{drop_line}
use Rattle.text.proofs.LineLaws.{line-length, number-length}

pub drop-length : (at answer count bad : ℕ)
    → length (drop_line at answer count bad)
    ≡ places at + 1 + (places answer + places count) + length (place_field bad) + 2
unfolding drop_line
drop-length at answer count bad =
    omega (
      arith,
      length-append (number_then 32 at) (line_of answer count bad []),
      number-length 32 at,
      line-length answer count bad [],
    )

-- its parts are its place, the numbers of its call, and the end of the line
pub drop_is : (at answer count bad : ℕ)
    → number_then 32 at ++ call_of answer count bad ++ (10 ∷ []) ≡ drop_line at answer count bad
unfolding drop_line line_of fields_of
drop_is at answer count bad =
    rw (append-nil (call_of answer count bad)) (append_assoc (number_then 32 at) (call_of answer count bad) (10 ∷ []))

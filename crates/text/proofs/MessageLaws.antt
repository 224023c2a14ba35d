-- The lines of whole messages: how many bytes their parts have, and that they are stored one after the other. Assumes
-- nothing.
use Prim.Native.Nat.{ℕ, ◌+◌, ◌*◌, ◌%◌, ◌<◌, ◌≤◌}
use mathlib.Core.Path.{◌≡◌}
use mathlib.Core.List.{List, [], ◌∷◌, ◌++◌, append_assoc}
use native.Mathlib.Omega.{arith}
use lib.ListN.{length, length-append}
use borrow.Author.Tests.{le-ltb, lt-ltb}
use Rattle.std.proofs.Common.{map}
use Rattle.std.proofs.lemmas.List.{map-id}
use Rattle.text.specs.Lines.{decimal, fields_of, places}
use Rattle.text.specs.Messages.{dropped_line, exclusive_name, flex_name, head_of, message_line, sort_name}
use Rattle.text.proofs.LineLaws.{digits-length, fields-length, few}

-- the name of a sort
pub name-exclusive : (chain : ℕ) → chain < 16 → sort_name chain ≡ exclusive_name
unfolding sort_name
name-exclusive chain h = rw (lt-ltb chain 16 h)

pub name-flex : (chain : ℕ) → 16 ≤ chain → sort_name chain ≡ flex_name
unfolding sort_name
name-flex chain h = rw (le-ltb chain 16 h)

-- the head behind what stands there
pub exclusive_head : (l : List ℕ) (chain : ℕ) → chain < 16
    → l ++ exclusive_name ++ decimal (chain % 16) ≡ l ++ head_of chain
unfolding head_of
exclusive_head l chain h = rw (name-exclusive chain h) (append_assoc l exclusive_name (decimal (chain % 16)))

pub flex_head : (l : List ℕ) (chain : ℕ) → 16 ≤ chain → l ++ flex_name ++ decimal (chain % 16) ≡ l ++ head_of chain
unfolding head_of
flex_head l chain h = rw (name-flex chain h) (append_assoc l flex_name (decimal (chain % 16)))

-- the whole line
pub bytes_line : (head : List ℕ) (chain : ℕ) (bytes : List ℕ) → head ≡ head_of chain
    → head ++ fields_of 2 (map (λ n. n) bytes) ++ (10 ∷ []) ≡ message_line chain bytes
unfolding message_line
bytes_line head chain bytes e = rw (e, map-id bytes)

pub head-length : (chain : ℕ) → length (head_of chain) ≡ length (sort_name chain) + places (chain % 16)
unfolding head_of
head-length chain =
    omega (
      arith,
      length-append (sort_name chain) (decimal (chain % 16)),
      digits-length 10 (places (chain % 16)) (chain % 16),
    )

pub message-length : (chain : ℕ) (bytes : List ℕ)
    → length (message_line chain bytes) ≡ length (head_of chain) + 1 + 3 * length bytes
unfolding message_line
message-length chain bytes =
    omega (
      arith,
      length-append (head_of chain) (fields_of 2 bytes),
      length-append (head_of chain ++ fields_of 2 bytes) (10 ∷ []),
      fields-length 2 bytes,
    )

pub dropped-length : (answer chain : ℕ)
    → length (dropped_line answer chain) ≡ places answer + length (head_of chain) + 2
unfolding dropped_line
dropped-length answer chain =
    omega (
      arith,
      length-append (decimal answer) (32 ∷ []),
      length-append (decimal answer ++ (32 ∷ [])) (head_of chain),
      length-append (decimal answer ++ (32 ∷ []) ++ head_of chain) (10 ∷ []),
      digits-length 10 (places answer) answer,
    )

-- A line is never longer than this: a chain's head is at most twelve bytes, and an answer has at most two digits.
pub head-most : (chain : ℕ) → length (head_of chain) ≤ length (sort_name chain) + 2
head-most chain = omega (arith, head-length chain, few (chain % 16) 1 (chain % 16) (omega arith))

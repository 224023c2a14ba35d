-- A piece is fine, its head is that of its first word, and a chain's number is at most that of none, and else where the
-- slot is. Assumes nothing.
use Prim.Native.Nat.{ℕ, ◌+◌, ◌≤◌, ◌<◌}
use mathlib.Core.Path.{◌≡◌, refl}
use mathlib.Core.Bool.{Bool, true, false, cond}
use native.Mathlib.Omega.{arith}
use lib.Dec.{eqb}
use borrow.Author.Tests.{eqb-true}
use Rattle.ground.proofs.Cases.{choose}
use Rattle.ump.specs.Word.{group_of, message_type}
use Rattle.piece.specs.Piece.{Fine, chain_by, chain_for, exclusive, exclusive_piece, flex, flex_piece, head_by}
use Rattle.piece.specs.Piece.{head_of, no_chain, piece_for, slot_by}

pub piece-fine : (t w a b c : ℕ) → Fine (piece_for t w a b c)
unfolding piece_for flex_piece exclusive_piece
piece-fine t w a b c =
    choose Fine (eqb t flex) (λ _. record { places = refl; few = omega arith; one = omega arith })
    (λ _. record { places = refl; few = omega arith; one = omega arith })

pub head-any : (w a b c : ℕ) → head_of (piece_for (message_type w) w a b c) ≡ head_by w
unfolding piece_for flex_piece exclusive_piece
head-any w a b c = go (eqb (message_type w) flex)
  where
    go : (f : Bool) → head_of (cond f (flex_piece w a b c) (exclusive_piece w a))
        ≡ head_of (cond f (flex_piece w 0 0 0) (exclusive_piece w 0))
    go true = refl
    go false = refl

pub chain-most : (w : ℕ) → chain_by w ≤ no_chain
unfolding chain_for
chain-most w =
    choose (λ (n : ℕ). n ≤ no_chain) (eqb (message_type w) exclusive) (λ _. omega arith)
    (λ _. choose (λ (n : ℕ). n ≤ no_chain) (eqb (message_type w) flex) (λ _. omega arith) (λ _. omega arith))

pub slot-low : (w : ℕ) → slot_by w < no_chain
unfolding slot_by
slot-low w = choose (λ (n : ℕ). n < no_chain) (eqb (message_type w) flex) (λ _. omega arith) (λ _. omega arith)

-- a packet that has a chain has it in its slot
pub slot-chain : (w : ℕ) → chain_by w < no_chain → slot_by w ≡ chain_by w
unfolding slot_by chain_for
slot-chain w = go (eqb (message_type w) exclusive) refl (eqb (message_type w) flex) refl
  where
    go : (e : Bool) → eqb (message_type w) exclusive ≡ e → (f : Bool) → eqb (message_type w) flex ≡ f
        → cond e (group_of w).0 (cond f (16 + (group_of w).0) no_chain) < no_chain
        → cond f (16 + (group_of w).0) (group_of w).0
        ≡ cond e (group_of w).0 (cond f (16 + (group_of w).0) no_chain)
    go true d true g h = absurd (omega (arith, eqb-true (message_type w) exclusive d, eqb-true (message_type w) flex g))
    go true d false g h = refl
    go false d true g h = refl
    go false d false g h = absurd (omega arith)

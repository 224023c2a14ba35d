-- A packet whose chain is asked, or kept, has one of the 32 chains. Assumes nothing.
use Prim.Native.Nat.{ℕ, ◌<◌}
use mathlib.Core.Path.{◌≡◌, refl}
use mathlib.Core.Bool.{Bool, true, false, cond, not}
use mathlib.Core.List.{List}
use mathlib.Core.Logic.{◌⊎◌, inl, inr, ⊎_elim}
use native.Mathlib.Omega.{arith}
use lib.Dec.{eqb}
use lib.ListN.{length}
use borrow.Author.Tests.{eqb-false, eqb-true}
use Rattle.ground.proofs.Cases.{by_bool, choose}
use Rattle.ump.specs.Word.{message_type}
use Rattle.ump.specs.Packet.{first}
use Rattle.fields.specs.Check.{bad_place_of, good_status}
use Rattle.stream.specs.Answers.{bad_address, bad_data, bad_status, cut_packet, reserved_type, taken_in, wrong_protocol}
use Rattle.screen.specs.Screen.{Screened}
use Rattle.screen.specs.Screen.{admitted, answering, goes_on, neither_type, outside, reserved, screen, screen_by}
use Rattle.piece.specs.Piece.{chain_by, no_chain, strange_address}
use Rattle.piece.proofs.PieceLaws.{chain-most}
use Rattle.chains.specs.Collect.{of_chain, sort_by, sorted}

-- the screening knows no addresses
pub screen-no-address : (p : List ℕ) → (screen neither_type p).answer ≡ bad_address → ⊥
unfolding screen_by outside admitted
screen-no-address p =
    choose Other (eqb (length p) 0) (λ _. no cut_packet refl)
    (λ _. choose Other (reserved (message_type (first p))) (λ _. no reserved_type refl)
    (λ _. choose Other (eqb (message_type (first p)) neither_type) (λ _. no wrong_protocol refl)
    (λ _. choose Other (not (good_status (first p))) (λ _. no bad_status refl)
    (λ _. choose Other (eqb (bad_place_of p) 0) (λ _. no goes_on refl) (λ _. no bad_data refl)))))
  where
    Other : Screened → Type 0
    Other s = s.answer ≡ bad_address → ⊥

    no : (a : ℕ) → eqb a bad_address ≡ false → a ≡ bad_address → ⊥
    no a e = eqb-false a bad_address e

-- a packet that a chain is asked about is of a chain
pub chain-low : (p : List ℕ) → ((sorted p).answer ≡ goes_on) ⊎ ((sorted p).answer ≡ bad_address)
    → chain_by (first p) < 32
unfolding sort_by of_chain
chain-low p = go (eqb (screen neither_type p).answer goes_on) refl (eqb (chain_by (first p)) no_chain) refl
  where
    go : (a : Bool) → eqb (screen neither_type p).answer goes_on ≡ a
        → (b : Bool) → eqb (chain_by (first p)) no_chain ≡ b
        → ((cond a (answering (cond b taken_in (cond (strange_address (first p)) bad_address goes_on)))
        (screen neither_type p)).answer ≡ goes_on)
        ⊎ ((cond a (answering (cond b taken_in (cond (strange_address (first p)) bad_address goes_on)))
        (screen neither_type p)).answer ≡ bad_address)
        → chain_by (first p) < 32
    go true e true f h = absurd (⊎_elim (λ x. omega (arith, x)) (λ x. omega (arith, x)) h)
    go true e false f h = omega (arith, chain-most (first p), eqb-false (chain_by (first p)) no_chain f)
    go false e b f h = absurd (⊎_elim (eqb-false (screen neither_type p).answer goes_on e) (screen-no-address p) h)

-- two numbers are the same or not
pub same_or_not : (n m : ℕ) → (n ≡ m) ⊎ (n ≡ m → ⊥)
same_or_not n m = by_bool (eqb n m) (λ e. inl (eqb-true n m e)) (λ e. inr (eqb-false n m e))

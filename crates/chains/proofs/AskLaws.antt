-- What is asked of a packet before its chain, by a yes or no: which packets a chain is asked about, and which are good.
-- Assumes nothing.
use Prim.Native.Nat.{ℕ, zero, suc, ◌+◌, ◌<◌}
use mathlib.Core.Path.{◌≡◌, refl, sym, ap, ◌∙◌}
use mathlib.Core.Bool.{Bool, true, false, cond, not, ◌&&◌}
use mathlib.Core.List.{List}
use native.Mathlib.Omega.{arith}
use lib.Dec.{eqb, leb}
use lib.ListN.{length}
use borrow.Author.Tests.{ne_eqb}
use Rattle.ground.proofs.Bools.{and-false, and-true}
use Rattle.ump.specs.Word.{byte1, byte2, byte3, byte4, count, group_of, message_type, status, voice1, voice2}
use Rattle.ump.specs.Packet.{first, second}
use Rattle.fields.specs.Check.{bad_place, checked_fields, exclusive_fields, good_fields, good_status, good_unchanged}
use Rattle.fields.specs.Check.{unchanged}
use Rattle.fields.specs.Check.{voice1_fields, voice1_status}
use Rattle.fields.proofs.CheckLaws.{counted-good}
use Rattle.stream.specs.Answers.{bad_address, bad_data, bad_status, reserved_type}
use Rattle.screen.specs.Screen.{admitted, answering, goes_on, neither_type, outside, reserved, screen, screen_by}
use Rattle.piece.specs.Piece.{address_of, chain_by, chain_for, exclusive, flex, no_chain, strange_address}
use Rattle.chains.specs.Collect.{of_chain, sort_by, sorted}

-- an exclusive's packet of six bytes
pub six_good : (w v : ℕ) → message_type w ≡ exclusive → count w ≡ 6
    → good_unchanged w v ≡ (leb (status w) 3
    && (leb (byte3 w) 127 && (leb (byte4 w) 127 && (leb (byte1 v) 127
    && (leb (byte2 v) 127 && (leb (byte3 v) 127 && leb (byte4 v) 127))))))
unfolding good_unchanged good_status checked_fields exclusive_fields
six_good w v e n =
    rw (e, counted-good (count w) (byte3 w) (byte4 w) (byte1 v) (byte2 v) (byte3 v) (byte4 v), n)

-- the screening of a packet, as a yes or no
pub screened : (p : List ℕ) → (length p ≡ 0 → ⊥)
    → eqb (screen neither_type p).answer goes_on
    ≡ (not (reserved (message_type (first p)))
    && (good_status (first p) && good_fields (checked_fields (first p) (second p))))
unfolding screen_by outside admitted
screened p some =
    rw (ne_eqb (length p) 0 some, ne_eqb (message_type (first p)) neither_type (λ e. omega (arith, e)))
    (go (reserved (message_type (first p))) (good_status (first p)) (bad_place (checked_fields (first p) (second p)))
    (good_fields (checked_fields (first p) (second p))))
  where
    go : (r s : Bool) (k : ℕ) (f : Bool)
        → eqb (cond r (answering reserved_type) (cond (not s) (answering bad_status)
        (cond f (answering goes_on) (record { answer = bad_data; place = k })))).answer goes_on ≡ (not r && (s && f))
    go true s k f = refl
    go false true k true = refl
    go false true k false = refl
    go false false k f = refl

-- of a type that is passed on unchanged, of those that are not reserved and not voice messages
free : (t : ℕ) → t < 16 → (t ≡ voice1 → ⊥) → (t ≡ voice2 → ⊥) → unchanged t ≡ not (reserved t)
free zero h a b = refl
free (suc zero) h a b = refl
free (suc (suc zero)) h a b = absurd (a refl)
free (suc (suc (suc zero))) h a b = refl
free (suc (suc (suc (suc zero)))) h a b = absurd (b refl)
free (suc (suc (suc (suc (suc zero))))) h a b = refl
free (suc (suc (suc (suc (suc (suc zero)))))) h a b = refl
free (suc (suc (suc (suc (suc (suc (suc zero))))))) h a b = refl
free (suc (suc (suc (suc (suc (suc (suc (suc zero)))))))) h a b = refl
free (suc (suc (suc (suc (suc (suc (suc (suc (suc zero))))))))) h a b = refl
free (suc (suc (suc (suc (suc (suc (suc (suc (suc (suc zero)))))))))) h a b = refl
free (suc (suc (suc (suc (suc (suc (suc (suc (suc (suc (suc zero))))))))))) h a b = refl
free (suc (suc (suc (suc (suc (suc (suc (suc (suc (suc (suc (suc zero)))))))))))) h a b = refl
free (suc (suc (suc (suc (suc (suc (suc (suc (suc (suc (suc (suc (suc zero))))))))))))) h a b = refl
free (suc (suc (suc (suc (suc (suc (suc (suc (suc (suc (suc (suc (suc (suc zero)))))))))))))) h a b = refl
free (suc (suc (suc (suc (suc (suc (suc (suc (suc (suc (suc (suc (suc (suc (suc zero))))))))))))))) h a b = refl
free (suc (suc (suc (suc (suc (suc (suc (suc (suc (suc (suc (suc (suc (suc (suc (suc t)))))))))))))))) h a b =
    absurd (omega arith)

-- the three ways in which a packet is found to be good
module _ (p : List ℕ) (some : length p ≡ 0 → ⊥) where
  pub good-voice1 : message_type (first p) ≡ voice1
      → (voice1_status (first p) && good_fields (voice1_fields (first p))) ≡ eqb (screen neither_type p).answer goes_on
  unfolding good_status checked_fields
  good-voice1 e = sym (screened p some ∙ rw e)

  pub good-voice2 : message_type (first p) ≡ voice2
      → (good_status (first p) && good_fields (checked_fields (first p) (second p)))
      ≡ eqb (screen neither_type p).answer goes_on
  good-voice2 e = sym (screened p some ∙ rw e)

  pub good-other : (message_type (first p) ≡ voice1 → ⊥) → (message_type (first p) ≡ voice2 → ⊥)
      → good_unchanged (first p) (second p) ≡ eqb (screen neither_type p).answer goes_on
  unfolding good_unchanged
  good-other a b =
      ap (λ (t : Bool). t && (good_status (first p) && good_fields (checked_fields (first p) (second p))))
      (free (message_type (first p)) (omega arith) a b)
      ∙ sym (screened p some)

  -- a packet whose chain is asked is good, has a chain, and no strange address
  asked : eqb (sorted p).answer goes_on
      ≡ (eqb (screen neither_type p).answer goes_on && eqb (of_chain (chain_by (first p)) (strange_address (first p)))
      goes_on)
  unfolding sort_by
  asked = go (eqb (screen neither_type p).answer goes_on) refl
    where
      go : (b : Bool) → eqb (screen neither_type p).answer goes_on ≡ b
          → eqb (cond b (answering (of_chain (chain_by (first p)) (strange_address (first p)))) (screen neither_type p)
          ).answer
          goes_on ≡ (b && eqb (of_chain (chain_by (first p)) (strange_address (first p))) goes_on)
      go true e = refl
      go false e = e

  pub asked-exclusive : message_type (first p) ≡ exclusive
      → good_unchanged (first p) (second p) ≡ eqb (sorted p).answer goes_on
  unfolding of_chain chain_for
  asked-exclusive e =
      good-other (λ f. omega (arith, e, f)) (λ f. omega (arith, e, f))
      ∙ sym (asked ∙ rw (e, ne_eqb (group_of (first p)).0 no_chain (λ f. omega (arith, f))) (and-true _))

  pub asked-flex : message_type (first p) ≡ flex → not (strange_address (first p)) ≡ eqb (sorted p).answer goes_on
  unfolding of_chain chain_for good_unchanged good_status checked_fields bad_place
  asked-flex e =
      let g : eqb (screen neither_type p).answer goes_on ≡ true =
      sym (good-other (λ f. omega (arith, e, f)) (λ f. omega (arith, e, f))) ∙ rw e in
      sym (asked ∙ rw (g, e, ne_eqb (16 + (group_of (first p)).0) no_chain (λ f. omega (arith, f)))
      (strange (leb 2 (address_of (first p)))))
    where
      strange : (b : Bool) → eqb (cond b bad_address goes_on) goes_on ≡ not b
      strange true = refl
      strange false = refl

  pub asked-none : (message_type (first p) ≡ exclusive → ⊥) → (message_type (first p) ≡ flex → ⊥)
      → false ≡ eqb (sorted p).answer goes_on
  unfolding of_chain chain_for
  asked-none a b =
      sym (asked ∙ rw (ne_eqb (message_type (first p)) exclusive a, ne_eqb (message_type (first p)) flex b)
      (and-false (eqb (screen neither_type p).answer goes_on)))

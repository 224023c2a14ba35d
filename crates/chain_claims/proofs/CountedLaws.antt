-- The number of an open chain's packets, kept by each packet, so that only a 33rd of Flex Data is one too many. Assumes
-- nothing.
use Prim.Native.Nat.{ℕ, ◌+◌, ◌≤◌, ◌<◌}
use mathlib.Core.Path.{◌≡◌, refl, sym, subst, ◌∙◌}
use mathlib.Core.Bool.{Bool, true, false, cond}
use mathlib.Core.Logic.{◌⊎◌, inl, inr}
use mathlib.Core.List.{List, [], ◌∷◌, ◌++◌}
use native.Mathlib.Omega.{arith}
use lib.ListN.{length, length-append}
use lib.Dec.{eqb, leb, ltb}
use borrow.Author.Tests.{eq-eqb, eqb-false, leb-true, ltb-false, ne_eqb}
use Rattle.ground.proofs.Cases.{not-both}
use Rattle.ump.specs.Packet.{packet}
use Rattle.stream.specs.Answers.{out_of_turn, sent, taken_in, too_long, too_many_packets}
use Rattle.screen.specs.Screen.{goes_on}
use Rattle.piece.specs.Piece.{Piece}
use Rattle.chains.specs.declared.Chain.{Chain}
use Rattle.chains.specs.Step.{base_of, begins, finishes, grown, most, strays, verdict, verdict_by}
use Rattle.chains.specs.Collect.{chain_at, chain_of, piece_of, refusal_of}
use Rattle.chains.proofs.SortLaws.{same_or_not}
use Rattle.chains.proofs.StepLaws.{taken}
use Rattle.chain_claims.specs.Claims.{All32, Counted, Held, World, answer, gathered, held_at, next, one, only, run}
use Rattle.chain_claims.specs.Claims.{since, told}
use Rattle.chain_claims.proofs.AloneLaws.{apart, gathered-alone}
use Rattle.chain_claims.proofs.WholeLaws.{adds-is, one-is}
use Rattle.chain_claims.proofs.MadeLaws.{idle, idle-next, out-closed, out-open, run-full, shut, told-idle}
use Rattle.chain_claims.proofs.MadeLaws.{told_is}
use Rattle.chain_claims.proofs.OrderLaws.{sorted-cases}

-- what the packets of chain k are counted as
abbrev tally : ℕ → List (List ℕ) → ℕ
tally k qs = cond (ltb k 16) 1 (length qs)

-- none is open, or its packets are counted
abbrev Counts : ℕ → ℕ → List (List ℕ) → Type 0
Counts k n qs = (n ≡ 0) ⊎ ((n ≡ tally k qs) × (n ≤ most))

-- one more packet of an open chain
one_more : (k n a : ℕ) (qs : List (List ℕ)) (p : List ℕ) → n ≡ tally k qs → a ≡ cond (ltb k 16) 0 1
    → n + a ≡ tally k (qs ++ p ∷ [])
one_more k n a qs p = go (ltb k 16)
  where
    go : (t : Bool) → n ≡ cond t 1 (length qs) → a ≡ cond t 0 1 → n + a ≡ cond t 1 (length (qs ++ p ∷ []))
    go true e f = omega (arith, e, f)
    go false e f = omega (arith, e, f, length-append qs (p ∷ []))

first_one : (k : ℕ) (p : List ℕ) → ◌≡◌ {A = ℕ} 1 (tally k (p ∷ []))
first_one k p = go (ltb k 16)
  where
    go : (t : Bool) → ◌≡◌ {A = ℕ} 1 (cond t 1 1)
    go true = refl
    go false = refl

adds-few : (k a : ℕ) → a ≡ cond (ltb k 16) 0 1 → a ≤ 1
adds-few k a = go (ltb k 16)
  where
    go : (t : Bool) → a ≡ cond t 0 1 → a ≤ 1
    go true e = omega (arith, e)
    go false e = omega (arith, e)

-- a packet that is taken
grows : (k : ℕ) (c : Chain) (qs : List (List ℕ)) (p : List ℕ) → let x = piece_of p in
    x.adds ≡ cond (ltb k 16) 0 1 → Counts k c.packets qs → strays c x ≡ false → c.packets < most
    → Counts k (grown c x).packets (cond (begins x) (p ∷ []) (qs ++ p ∷ []))
unfolding grown
grows k c qs p a s o l =
    go (finishes x) (eqb c.packets 0) refl (begins x) refl s
  where
    x : Piece
    x = piece_of p

    go : (f z : Bool) → eqb c.packets 0 ≡ z → (b : Bool) → begins x ≡ b → Counts k c.packets qs
        → Counts k (cond f 0 (cond z 1 (c.packets + x.adds))) (cond b (p ∷ []) (qs ++ p ∷ []))
    go true z e b g s = inl refl
    go false true e true g s = inr (first_one k p, omega arith)
    go false true e false g s = not-both (sym o ∙ out-closed c x e g)
    go false false e true g s = not-both (sym o ∙ out-open c x e g)
    go false false e false g (inl n) = absurd (eqb-false c.packets 0 e n)
    go false false e false g (inr t) =
        inr (one_more k c.packets x.adds qs p t.0 a, omega (arith, adds-few k x.adds a, l))

-- any packet of the chain
counts : (k : ℕ) (h : Held) (qs : List (List ℕ)) (p : List ℕ) → k < 32 → chain_of p ≡ k
    → Counts k h.chain.packets qs → Counts k (one h p).chain.packets (next qs p)
unfolding next
counts k h qs p low q s = go (same_or_not (refusal_of p) goes_on) (leb v 1) refl
  where
    v : ℕ
    v = verdict h.chain (length h.part) (piece_of p)

    go : (refusal_of p ≡ goes_on) ⊎ (refusal_of p ≡ goes_on → ⊥) → (t : Bool) → leb v 1 ≡ t
        → Counts k (one h p).chain.packets (next qs p)
    go (inl e) true f =
        let l = leb-true v 1 f in
        let t = taken _ _ _ _ _ _ l in
        let a : (piece_of p).adds ≡ cond (ltb k 16) 0 1 = rw (← q) (adds-is p (omega (arith, q))) in
        rw ((one-is h p v e refl l).0, e) (grows k h.chain qs p a s t.0 t.1)
    go (inl e) false f = inl (shut h p e f)
    go (inr n) t f = rw (idle h p n, idle-next qs p n) s

counted : (k : ℕ) → k < 32 → (ps : List (List ℕ)) (h : Held) (qs : List (List ℕ)) → Counts k h.chain.packets qs
    → Counts k (gathered h (only k ps)).chain.packets (since qs (only k ps))
unfolding gathered since only
counted k low [] h qs s = s
counted k low (p ∷ ps) h qs s =
    go (same_or_not (chain_of p) k) (λ e. counted k low ps (one h p) (next qs p) (counts k h qs p low e s))
    (counted k low ps h qs s)
  where
    go : (chain_of p ≡ k) ⊎ (chain_of p ≡ k → ⊥)
        → (chain_of p ≡ k → Counts k (gathered (one h p) (only k ps)).chain.packets (since (next qs p) (only k ps)))
        → Counts k (gathered h (only k ps)).chain.packets (since qs (only k ps))
        → Counts k (gathered h (only k (p ∷ ps))).chain.packets (since qs (only k (p ∷ ps)))
    go (inl e) f g = rw (eq-eqb (chain_of p) k e) (f e)
    go (inr n) f g = rw (ne_eqb (chain_of p) k n) g

-- 16 is the verdict of a chain with 32 packets or more
many : (c : Chain) (n : ℕ) (x : Piece) → verdict c n x ≡ too_many_packets → most ≤ c.packets
unfolding verdict_by
many c n x = go (strays c x) (leb most c.packets) refl (ltb n (base_of c + x.count)) (finishes x)
  where
    go : (a b : Bool) → leb most c.packets ≡ b → (d e : Bool)
        → cond a out_of_turn (cond b too_many_packets (cond d too_long (cond e sent taken_in))) ≡ too_many_packets
        → most ≤ c.packets
    go true b f d e h = absurd (omega (arith, h))
    go false true f d e h = leb-true most c.packets f
    go false false f true e h = absurd (omega (arith, h))
    go false false f false true h = absurd (omega (arith, h))
    go false false f false false h = absurd (omega (arith, h))

-- and of no packet before its chain is asked
not-before : (p : List ℕ) → refusal_of p ≡ too_many_packets → ⊥
not-before p =
    sorted-cases (λ (a : ℕ). a ≡ too_many_packets → ⊥) (packet p) (λ e. omega (arith, e)) (λ e. omega (arith, e))
    (λ e. omega (arith, e)) (λ e. omega (arith, e)) (λ e. omega (arith, e)) (λ e. omega (
      arith,
      e,
    )) (λ e. omega (arith, e))

told-many : (h : Held) (p : List ℕ) → told h p ≡ too_many_packets → most ≤ h.chain.packets
told-many h p e = go (same_or_not (refusal_of p) goes_on)
  where
    go : (refusal_of p ≡ goes_on) ⊎ (refusal_of p ≡ goes_on → ⊥) → most ≤ h.chain.packets
    go (inl r) = many h.chain (length h.part) (piece_of p) (sym (told_is h p r) ∙ e)
    go (inr n) = absurd (not-before p (sym (told-idle h p n) ∙ e))

full : (k n : ℕ) (qs : List (List ℕ)) → Counts k n qs → most ≤ n → (16 ≤ k) × (length qs ≡ most)
full k n qs (inl e) l = absurd (omega (arith, e))
full k n qs (inr t) l = go (ltb k 16) refl t.0
  where
    go : (b : Bool) → ltb k 16 ≡ b → n ≡ cond b 1 (length qs) → (16 ≤ k) × (length qs ≡ most)
    go true f e = absurd (omega (arith, e))
    go false f e = (ltb-false k 16 f, omega (arith, e, t.1))

number_is : (k : ℕ) (w : World) (ps : List (List ℕ)) → k < 32 → All32 w → (chain_at k w.chains).packets ≡ 0
    → Counts k (chain_at k (run w ps).chains).packets (since [] (only k ps))
number_is k w ps low f c =
    subst (λ (h : Held). Counts k h.chain.packets (since [] (only k ps))) (sym (gathered-alone k ps w low f))
    (counted k low ps (held_at k w) [] (inl c))

pub proved-counted : Counted
proved-counted = record { number = number_is; too_many = too_many }
  where
    too_many : (k : ℕ) (w : World) (ps : List (List ℕ)) (z : List ℕ)
        → k < 32 → All32 w → (chain_at k w.chains).packets ≡ 0 → chain_of z ≡ k → answer (run w ps) z ≡ too_many_packets
        → (16 ≤ k) × (length (since [] (only k ps)) ≡ most)
    too_many k w ps z low f c q e =
        let o = (apart (run w ps) z (run-full ps w f)).own k low q in
        full k (chain_at k (run w ps).chains).packets (since [] (only k ps)) (number_is k w ps low f c)
        (told-many (held_at k (run w ps)) z (sym o.1 ∙ e))

-- Each answer exactly in its case: what comes before the chain is asked is one row of tests, and what the chain says
-- another. Assumes nothing.
use Prim.Native.Nat.{ℕ, ◌+◌}
use mathlib.Core.Path.{◌≡◌, refl, sym, ◌∙◌}
use mathlib.Core.Bool.{Bool, true, false, cond, not, ◌&&◌, ◌||◌}
use mathlib.Core.Logic.{◌⊎◌, inl, inr}
use mathlib.Core.List.{List, [], ◌∷◌, ◌++◌}
use native.Mathlib.Omega.{arith}
use lib.ListN.{length}
use lib.Dec.{eqb, leb, ltb}
use borrow.Author.Tests.{eqb-true, ne_eqb}
use Rattle.ground.proofs.Cases.{by_bool}
use Rattle.ump.specs.Word.{group_of, message_type}
use Rattle.ump.specs.Packet.{first, packet, second}
use Rattle.fields.specs.Check.{bad_place_of, checked_fields, good_fields, good_status}
use Rattle.stream.specs.Answers.{bad_address, bad_data, bad_status, cut_packet, no_table, out_of_turn, reserved_type}
use Rattle.stream.specs.Answers.{sent}
use Rattle.stream.specs.Answers.{taken_in, too_long, too_many_packets}
use Rattle.stream.specs.Report.{place_told}
use Rattle.screen.specs.Screen.{Screened}
use Rattle.screen.specs.Screen.{admitted, answering, goes_on, neither_type, outside, reserved, screen_by}
use Rattle.piece.specs.Piece.{Piece, chain_by, chain_for, exclusive, flex, no_chain, strange_address}
use Rattle.chains.specs.declared.Chain.{Chain}
use Rattle.chains.specs.Step.{base_of, begins, finishes, most, strays, verdict, verdict_by}
use Rattle.chains.specs.Collect.{beside, chain_at, chain_of, collected, collected_of, kept_open, of_chain, piece_of}
use Rattle.chains.specs.Collect.{report_of}
use Rattle.chains.specs.Collect.{report_with, unlisted, whole_list}
use Rattle.chains.specs.Collect.{refusal_of}
use Rattle.chains.specs.Collect.{share, sort_by, sorted}
use Rattle.chains.proofs.SortLaws.{same_or_not}
use Rattle.chains.proofs.StepLaws.{step-answer}
use Rattle.chains.proofs.CollectLaws.{report-beside, report-kept, report-piece}
use Rattle.chains.proofs.WithinLaws.{answer-other, reads as chain-reads}
use Rattle.stream.specs.Cases.{Case, case, numbered}
use Rattle.chain_claims.specs.InOrder.{InOrder, cases_at, cases_over, has_chain, is_open}

-- no chain: of another type
no-chain : (w : ℕ) → eqb (chain_by w) no_chain ≡ not (has_chain w)
unfolding chain_for
no-chain w = go (eqb (message_type w) exclusive) (eqb (message_type w) flex)
  where
    go : (a b : Bool) → eqb (cond a (group_of w).0 (cond b (16 + (group_of w).0) no_chain)) no_chain ≡ not (a || b)
    go true b = ne_eqb (group_of w).0 no_chain (λ e. omega (arith, e))
    go false true = ne_eqb (16 + (group_of w).0) no_chain (λ e. omega (arith, e))
    go false false = refl

-- what a packet is sorted as, by the tests of its cases
abbrev sorting : (p : List ℕ) → Bool → Bool → Bool → Bool → Bool → Bool → Screened
sorting p a b d e h x =
    let r = cond a (answering cut_packet) (cond b (answering reserved_type) (cond d (answering bad_status)
    (cond e (answering goes_on) (record { answer = bad_data; place = bad_place_of p })))) in
    cond (eqb r.answer goes_on) (answering (cond h taken_in (cond x bad_address goes_on))) r

sorted-is : (p : List ℕ) → let w = first p in
    sorted p ≡ sorting p (eqb (length p) 0) (reserved (message_type w)) (not (good_status w))
    (good_fields (checked_fields w (second p))) (not (has_chain w)) (strange_address w)
unfolding sort_by of_chain screen_by outside admitted
sorted-is p = rw (no-chain (first p), ne_eqb (message_type (first p)) neither_type (λ e. omega (arith, e)))

-- the cases before the chain is asked
abbrev cases_before : List ℕ → List Case
cases_before p =
    let w = first p in
    case cut_packet (eqb (length p) 0) ∷ case reserved_type (reserved (message_type w))
    ∷ case bad_status (not (good_status w)) ∷ case bad_data (not (good_fields (checked_fields w (second p))))
    ∷ case taken_in (not (has_chain w)) ∷ case bad_address (strange_address w) ∷ []

-- and then others
before-then : (p : List ℕ) (cs : List Case)
    → numbered (cases_before p ++ cs) ≡ cond (eqb (sorted p).answer goes_on) (numbered cs) (sorted p).answer
before-then p cs =
    rw (sorted-is p)
    (go (eqb (length p) 0) (reserved (message_type (first p))) (not (good_status (first p)))
    (good_fields (checked_fields (first p) (second p))) (not (has_chain (first p))) (strange_address (first p)))
  where
    go : (a b d e h x : Bool)
        → numbered (case cut_packet a ∷ case reserved_type b ∷ case bad_status d ∷ case bad_data (not e)
        ∷ case taken_in h
        ∷ case bad_address x ∷ cs)
        ≡ cond (eqb (sorting p a b d e h x).answer goes_on) (numbered cs) (sorting p a b d e h x).answer
    go true b d e h x = refl
    go false true d e h x = refl
    go false false true e h x = refl
    go false false false false h x = refl
    go false false false true true x = refl
    go false false false true false true = refl
    go false false false true false false = refl

-- what holds of each answer that there is before the chain is asked
pub sorted-cases : (P : ℕ → Type 0) (p : List ℕ)
    → P cut_packet → P reserved_type → P bad_status → P bad_data → P taken_in → P bad_address → P goes_on
    → P (sorted p).answer
sorted-cases P p cut res status data-bad other strange asked =
    rw (sorted-is p)
    (go (eqb (length p) 0) (reserved (message_type (first p))) (not (good_status (first p)))
    (good_fields (checked_fields (first p) (second p))) (not (has_chain (first p))) (strange_address (first p)))
  where
    go : (a b d e h x : Bool) → P (sorting p a b d e h x).answer
    go true b d e h x = cut
    go false true d e h x = res
    go false false true e h x = status
    go false false false false h x = data-bad
    go false false false true true x = other
    go false false false true false true = strange
    go false false false true false false = asked

-- a place is told exactly with 7
sorted-place : (p : List ℕ) → (sorted p).place ≡ place_told (sorted p).answer p
sorted-place p =
    rw (sorted-is p)
    (go (eqb (length p) 0) (reserved (message_type (first p))) (not (good_status (first p)))
    (good_fields (checked_fields (first p) (second p))) (not (has_chain (first p))) (strange_address (first p)))
  where
    go : (a b d e h x : Bool) → (sorting p a b d e h x).place ≡ place_told (sorting p a b d e h x).answer p
    go true b d e h x = refl
    go false true d e h x = refl
    go false false true e h x = refl
    go false false false false h x = refl
    go false false false true true x = refl
    go false false false true false true = refl
    go false false false true false false = refl

-- the cases of a piece
abbrev cases_of_piece : Chain → ℕ → Piece → List Case
cases_of_piece c n x =
    case out_of_turn (cond (is_open c) (begins x || not (eqb c.shared x.shared)) (not (begins x)))
    ∷ case too_many_packets (is_open c && leb most c.packets)
    ∷ case too_long (ltb n (cond (is_open c) c.length 0 + x.count)) ∷ case taken_in (not (finishes x)) ∷ []

-- are its verdict
piece-cases : (c : Chain) (n : ℕ) (x : Piece) → numbered (cases_of_piece c n x) ≡ verdict c n x
unfolding verdict_by strays base_of
piece-cases c n x = by_bool (eqb c.packets 0) closed opened
  where
    row : (a b d e : Bool)
        → numbered (case out_of_turn a ∷ case too_many_packets b ∷ case too_long d ∷ case taken_in (not e) ∷ [])
        ≡ cond a out_of_turn (cond b too_many_packets (cond d too_long (cond e sent taken_in)))
    row true b d e = refl
    row false true d e = refl
    row false false true e = refl
    row false false false true = refl
    row false false false false = refl

    closed : eqb c.packets 0 ≡ true → numbered (cases_of_piece c n x) ≡ verdict c n x
    closed e =
        rw (e, eqb-true c.packets 0 e) (row (not (begins x)) false (ltb n (0 + x.count)) (finishes x))

    opened : eqb c.packets 0 ≡ false → numbered (cases_of_piece c n x) ≡ verdict c n x
    opened e =
        rw e (row (begins x || not (eqb c.shared x.shared)) (leb most c.packets) (ltb n (c.length + x.count))
        (finishes x))

-- and no verdict is 7
no-data : (c : Chain) (n : ℕ) (x : Piece) → eqb (verdict c n x) bad_data ≡ false
unfolding verdict_by
no-data c n x = go (strays c x) (leb most c.packets) (ltb n (base_of c + x.count)) (finishes x)
  where
    go : (a b d e : Bool)
        → eqb (cond a out_of_turn (cond b too_many_packets (cond d too_long (cond e sent taken_in)))) bad_data ≡ false
    go true b d e = refl
    go false true d e = refl
    go false false true e = refl
    go false false false true = refl
    go false false false false = refl

-- with the packet's own chain
module _ (c : Chain) (n : ℕ) (s : List ℕ) where
  chain-answers : (report_with c n s).answer ≡ numbered (cases_at c n (packet s))
  unfolding collected
  chain-answers = go (same_or_not (refusal_of s) goes_on) ∙ sym (before-then (packet s) rest)
    where
      rest : List Case
      rest = cases_of_piece c n (piece_of s)

      go : (refusal_of s ≡ goes_on) ⊎ (refusal_of s ≡ goes_on → ⊥)
          → (report_with c n s).answer ≡ cond (eqb (refusal_of s) goes_on) (numbered rest) (refusal_of s)
      go (inl e) =
          rw (report-piece c n s e, e) (step-answer c n (piece_of s) ∙ sym (piece-cases c n (piece_of s)))
      go (inr m) = rw (answer-other c n s m, ne_eqb (refusal_of s) goes_on m)

  chain-places : (report_with c n s).place ≡ place_told (report_with c n s).answer (packet s)
  unfolding collected kept_open beside
  chain-places = go (same_or_not (refusal_of s) goes_on) (same_or_not (refusal_of s) bad_address)
    where
      go : (refusal_of s ≡ goes_on) ⊎ (refusal_of s ≡ goes_on → ⊥)
          → (refusal_of s ≡ bad_address) ⊎ (refusal_of s ≡ bad_address → ⊥)
          → (report_with c n s).place ≡ place_told (report_with c n s).answer (packet s)
      go (inl e) f = rw (report-piece c n s e, step-answer c n (piece_of s), no-data c n (piece_of s))
      go (inr m) (inl e) = rw (report-kept c n s e)
      go (inr m) (inr o) = rw (report-beside c n s m o) (sorted-place (packet s))

-- and over a list, which is asked first
module _ (cs : List Chain) (b s : List ℕ) where
  abbrev c : Chain
  c = chain_at (chain_of s) cs

  answers : (collected_of cs b s).answer ≡ numbered (cases_over cs b s)
  unfolding collected_of beside
  answers = go (eqb (length cs) whole_list)
    where
      go : (t : Bool) → (cond t (report_of cs b s) unlisted).answer
          ≡ cond (not t) no_table (numbered (cases_at c (share b) (packet s)))
      go true = chain-answers c (share b) s
      go false = refl

  reads : (collected_of cs b s).read ≡ cond (eqb (length cs) whole_list) (length (packet s)) 0
  unfolding collected_of beside
  reads = go (eqb (length cs) whole_list)
    where
      go : (t : Bool) → (cond t (report_of cs b s) unlisted).read ≡ cond t (length (packet s)) 0
      go true = chain-reads c (share b) s
      go false = refl

  places : (collected_of cs b s).place ≡ place_told (collected_of cs b s).answer (packet s)
  unfolding collected_of beside
  places = go (eqb (length cs) whole_list)
    where
      go : (t : Bool) → (cond t (report_of cs b s) unlisted).place
          ≡ place_told (cond t (report_of cs b s) unlisted).answer (packet s)
      go true = chain-places c (share b) s
      go false = refl

pub proved-in-order : InOrder
proved-in-order = record { answers = answers; reads = reads; places = places }

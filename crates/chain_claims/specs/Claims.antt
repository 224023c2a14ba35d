-- What is claimed of chains, over lists of packets (RULES 14; 02 M-106). A call is given the words from its packet's
-- first on, so a packet is such a list of words.
use Rattle.std.specs.Prelude.{ℕ, ◌+◌, ◌*◌, ◌≤◌, ◌<◌, ◌≡◌, Bool, cond, ◌⊎◌, List, [], ◌∷◌, ◌++◌, length, take, drop}
use Rattle.std.specs.Prelude.{replicate, eqb, ltb}
use Rattle.stream.specs.Answers.{out_of_turn, sent, taken_in, too_many_packets}
use Rattle.screen.specs.Screen.{goes_on}
use Rattle.piece.specs.declared.Format.{Format}
use Rattle.piece.specs.Piece.{complete, continued, end, payload, start}
use Rattle.chains.specs.declared.Chain.{Chain}
use Rattle.chains.specs.Step.{begins, fresh, most, part_of, step_of}
use Rattle.chains.specs.Collect.{buffer_after, chain_at, chain_of, chains_after, collected_of, part_at, piece_of}
use Rattle.chains.specs.Collect.{refusal_of}
use Rattle.chains.specs.Collect.{share, whole_list}

-- The chains and the buffer, as a call leaves them.
pub record World : Type 0 where
  pub chains : List Chain
  pub buffer : List ℕ

abbrev pub answer : World → List ℕ → ℕ
answer w p = (collected_of w.chains w.buffer p).answer

abbrev pub after : World → List ℕ → World
after w p =
    record {
      chains = chains_after w.chains w.buffer p;
      buffer = buffer_after w.chains w.buffer p;
    }

-- one call for each packet
unfoldable pub run : World → List (List ℕ) → World
run w [] = w
run w (p ∷ ps) = run (after w p) ps

-- a packet of chain k, by its type and its group, refused or not; chain k's packets alone; and what they are answered
abbrev pub mine : ℕ → List ℕ → Bool
mine k p = eqb (chain_of p) k

unfoldable pub only : ℕ → List (List ℕ) → List (List ℕ)
only k [] = []
only k (p ∷ ps) = cond (mine k p) (p ∷ only k ps) (only k ps)

unfoldable pub answers : ℕ → World → List (List ℕ) → List ℕ
answers k w [] = []
answers k w (p ∷ ps) = cond (mine k p) (answer w p ∷ answers k (after w p) ps) (answers k (after w p) ps)

-- One chain with its part, and packets that go to it: no other chain is named.
pub record Held : Type 0 where
  pub chain : Chain
  pub part : List ℕ

abbrev pub held_at : ℕ → World → Held
held_at k w = record { chain = chain_at k w.chains; part = part_at k w.buffer }

unfoldable pub one : Held → List ℕ → Held
one h p =
    cond (eqb (refusal_of p) goes_on)
    (record {
      chain = (step_of h.chain (length h.part) (piece_of p)).chain;
      part = part_of h.chain h.part (piece_of p);
    })
    h

unfoldable pub told : Held → List ℕ → ℕ
told h p = cond (eqb (refusal_of p) goes_on) (step_of h.chain (length h.part) (piece_of p)).answer (refusal_of p)

unfoldable pub gathered : Held → List (List ℕ) → Held
gathered h [] = h
gathered h (p ∷ ps) = gathered (one h p) ps

unfoldable pub tells : Held → List (List ℕ) → List ℕ
tells h [] = []
tells h (p ∷ ps) = told h p ∷ tells (one h p) ps

-- a whole list of chains
abbrev pub All32 : World → Type 0
All32 w = length w.chains ≡ whole_list

-- Chains do not touch.
pub record Apart (w : World) (p : List ℕ) : Type 0 where
  -- a packet of another chain, or of none, changes nothing of chain k and of part k
  pub other : (k : ℕ) → k < 32 → (chain_of p ≡ k → ⊥) → held_at k (after w p) ≡ held_at k w
  -- one of its own does what it would to that chain and part alone
  pub own : (k : ℕ) → k < 32 → chain_of p ≡ k
      → (held_at k (after w p) ≡ one (held_at k w) p) × (answer w p ≡ told (held_at k w) p)
  -- what is behind the parts stays, and there are as many chains and bytes as before
  pub rest : drop (32 * share w.buffer) (after w p).buffer ≡ drop (32 * share w.buffer) w.buffer
  pub same : All32 (after w p) × (length (after w p).buffer ≡ length w.buffer)

abbrev pub NoTouch : Type 0
NoTouch = (w : World) (p : List ℕ) → All32 w → Apart w p

-- What one chain collects, and what its packets are answered, depends on its own packets alone.
abbrev pub Alone : Type 0
Alone =
    (k : ℕ) (w : World) (ps : List (List ℕ)) → k < 32 → All32 w →
    (held_at k (run w ps) ≡ held_at k (run w (only k ps)))
    × (held_at k (run w ps) ≡ gathered (held_at k w) (only k ps))
    × (answers k w ps ≡ tells (held_at k w) (only k ps))

-- the payloads of packets, in order
unfoldable pub payloads : List (List ℕ) → List ℕ
payloads [] = []
payloads (p ∷ ps) = payload (piece_of p) ++ payloads ps

-- A packet of chain k that nothing refuses before its chain is asked, with the place in its message and the shared
-- fields that are given.
pub record Piecewise (k shared : ℕ) (format : Format) (p : List ℕ) : Type 0 where
  pub chain : chain_of p ≡ k
  pub good : refusal_of p ≡ goes_on
  pub place : (piece_of p).format ≡ format
  pub same : (piece_of p).shared ≡ shared

abbrev pub Middles : ℕ → ℕ → List (List ℕ) → Type 0
Middles k shared [] = Unit {0}
Middles k shared (p ∷ ps) = Piecewise k shared continued p × Middles k shared ps

-- A message in packets: a start, packets that continue it, and an end, which fit n bytes; of Flex Data at most 32.
pub record Message (k n : ℕ) (a : List ℕ) (ms : List (List ℕ)) (z : List ℕ) : Type 0 where
  pub first : Piecewise k (piece_of a).shared start a
  pub middle : Middles k (piece_of a).shared ms
  pub last : Piecewise k (piece_of a).shared end z
  pub few : (k < 16) ⊎ (length ms + 2 ≤ most)
  pub fits : length (payloads (a ∷ ms ++ z ∷ [])) ≤ n

-- what a finished chain holds: the payloads from the part's beginning on, and the rest of the part as it stood
abbrev pub holding : List ℕ → ℕ → List ℕ → Held
holding bytes shared part =
    record {
      chain = record { length = length bytes; shared = shared; packets = 0 };
      part = bytes ++ drop (length bytes) part;
    }

-- A message that fits is finished, by its last packet and no other, and the chain's bytes are the payloads in order,
-- whatever packets of other chains stand between.
pub record Finished : Type 0 where
  -- a start, packets that continue it, and an end
  pub rows : (k : ℕ) (w : World) (ps : List (List ℕ)) (a : List ℕ) (ms : List (List ℕ)) (z : List ℕ)
      → k < 32 → All32 w → (chain_at k w.chains).packets ≡ 0
      → only k ps ≡ a ∷ ms ++ z ∷ [] → Message k (share w.buffer) a ms z
      → (held_at k (run w ps) ≡ holding (payloads (only k ps)) (piece_of a).shared (part_at k w.buffer))
      × (answers k w ps ≡ taken_in ∷ replicate (length ms) taken_in ++ sent ∷ [])
  -- a packet that is complete
  pub at_once : (k : ℕ) (w : World) (ps : List (List ℕ)) (a : List ℕ)
      → k < 32 → All32 w → (chain_at k w.chains).packets ≡ 0
      → only k ps ≡ a ∷ [] → Piecewise k (piece_of a).shared complete a
      → length (payload (piece_of a)) ≤ share w.buffer
      → (held_at k (run w ps) ≡ holding (payload (piece_of a)) (piece_of a).shared (part_at k w.buffer))
      × (answers k w ps ≡ sent ∷ [])

-- The packets that a message is made of: those that nothing refuses, from the last that begins one on.
unfoldable pub next : List (List ℕ) → List ℕ → List (List ℕ)
next qs p = cond (eqb (refusal_of p) goes_on) (cond (begins (piece_of p)) (p ∷ []) (qs ++ p ∷ [])) qs

unfoldable pub since : List (List ℕ) → List (List ℕ) → List (List ℕ)
since qs [] = qs
since qs (p ∷ ps) = since (next qs p) ps

abbrev pub Holds : Held → List (List ℕ) → Type 0
Holds h qs = (h.chain.length ≡ length (payloads qs)) × (take h.chain.length h.part ≡ payloads qs)

-- And no chain finishes otherwise: wherever the answer is 0, the chain's bytes are the payloads of its packets since
-- the last start.
abbrev pub Made : Type 0
Made =
    (k : ℕ) (w : World) (ps : List (List ℕ)) (z : List ℕ)
    → k < 32 → All32 w → (chain_at k w.chains).packets ≡ 0 → chain_of z ≡ k
    → answer (run w ps) z ≡ sent → Holds (held_at k (after (run w ps) z)) (since [] (only k ps ++ z ∷ []))

-- Packets are counted, those of an exclusive as one: no exclusive has too many, and of Flex Data one is too many where
-- the chain has 32 since its start.
pub record Counted : Type 0 where
  pub number : (k : ℕ) (w : World) (ps : List (List ℕ))
      → k < 32 → All32 w → (chain_at k w.chains).packets ≡ 0
      → let n = (chain_at k (run w ps).chains).packets in
      (n ≡ 0) ⊎ ((n ≡ cond (ltb k 16) 1 (length (since [] (only k ps)))) × (n ≤ most))
  pub too_many : (k : ℕ) (w : World) (ps : List (List ℕ)) (z : List ℕ)
      → k < 32 → All32 w → (chain_at k w.chains).packets ≡ 0 → chain_of z ≡ k
      → answer (run w ps) z ≡ too_many_packets
      → (16 ≤ k) × (length (since [] (only k ps)) ≡ most)

-- What a refusal leaves of a chain and its part.
pub record Left (h : Held) (p : List ℕ) : Type 0 where
  -- the bytes stay as they stood
  pub bytes : taken_in < told h p → (one h p).part ≡ h.part
  -- a refused piece drops the chain, whose length is then zero; out of turn with none open nothing is dropped
  pub chain : refusal_of p ≡ goes_on → taken_in < told h p
      → ((one h p).chain ≡ fresh)
      ⊎ ((told h p ≡ out_of_turn) × (h.chain.packets ≡ 0) × ((one h p).chain ≡ h.chain))
  -- what is refused before its chain is asked changes nothing: so an address that is strange keeps the open chain
  pub kept : (refusal_of p ≡ goes_on → ⊥) → one h p ≡ h

abbrev pub Dropped : Type 0
Dropped = (h : Held) (p : List ℕ) → Left h p

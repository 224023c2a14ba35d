-- A run of the collector (RULES 14.6; 02 M-106 "Exclusives and text in one piece"): one call after another over the
-- packets of the words, up to the first that finishes a message, drops an open chain or is cut.
use Rattle.std.specs.Prelude.{ℕ, ◌+◌, Bool, cond, not, ◌&&◌, ◌||◌, List, [], ◌∷◌, length, eqb, ltb}
use Rattle.ump.specs.Packet.{cut}
use Rattle.stream.specs.Answers.{cut_packet, out_of_turn, sent, taken_in, too_long, too_many_packets}
use Rattle.screen.specs.Screen.{answering}
use Rattle.piece.specs.Piece.{no_chain}
use Rattle.chains.specs.declared.Chain.{Chain}
use Rattle.chains.specs.declared.Collected.{Collected}
use Rattle.chains.specs.Step.{closed}
use Rattle.chains.specs.Collect.{beside, buffer_after, chain_at, chains_after, collected_of, unlisted, whole_list}

-- whether chain k is open; a packet of none has none
unfoldable pub open_at : List Chain → ℕ → Bool
open_at cs k = ltb k no_chain && not (closed (chain_at k cs))

-- the answers that drop an open chain
abbrev pub drops : ℕ → Bool
drops a = eqb a out_of_turn || (eqb a too_many_packets || eqb a too_long)

-- A call that reports r stops the run: a message is whole, a packet is cut, or one of the chains before it is dropped.
abbrev pub stops : List Chain → Collected → Bool
stops cs r = eqb r.answer sent || (eqb r.answer cut_packet || (open_at cs r.chain && drops r.answer))

-- What a run has done when it ends.
pub record Ran : Type 0 where
  pub report : Collected
  pub chains : List Chain
  pub buffer : List ℕ

-- a report with so many more words read before it
abbrev pub further : ℕ → Collected → Collected
further n r =
    record {
      answer = r.answer;
      place = r.place;
      read = n + r.read;
      chain = r.chain;
      start = r.start;
      length = r.length;
    }

abbrev pub behind : ℕ → Ran → Ran
behind n r = record { report = further n r.report; chains = r.chains; buffer = r.buffer }

-- The calls at some packets, one after another; with none left the answer is 1, and no chain is named.
unfoldable pub run_over : List Chain → List ℕ → List (List ℕ) → Ran
run_over cs b [] = record { report = beside (answering taken_in) 0; chains = cs; buffer = b }
run_over cs b (p ∷ ps) =
    cond (stops cs (collected_of cs b p))
    (record { report = collected_of cs b p; chains = chains_after cs b p; buffer = buffer_after cs b p })
    (behind (collected_of cs b p).read (run_over (chains_after cs b p) (buffer_after cs b p) ps))

-- a run over the words; a list that is not whole is answered first of all
unfoldable pub run_of : List Chain → List ℕ → List ℕ → Ran
run_of cs b s =
    cond (eqb (length cs) whole_list) (run_over cs b (cut s)) (record { report = unlisted; chains = cs; buffer = b })

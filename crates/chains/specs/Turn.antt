-- What the functions promise that see one chain by value, beside the definitions of a call and a run: a piece by its
-- head and by the words from a place on, a call with one chain, and a turn of a run.
use Rattle.std.specs.Prelude.{ℕ, ◌+◌, ◌*◌, ◌≤◌, ◌≡◌, Bool, cond, not, ◌&&◌, ◌||◌, List, [], drop, get_or, length}
use Rattle.std.specs.Prelude.{eqb, ltb, Err, Ok, Result}
use Rattle.ump.specs.Word.{message_type}
use Rattle.stream.specs.Answers.{cut_packet, out_of_turn, sent, taken_in, too_long, too_many_packets}
use Rattle.screen.specs.Screen.{answering, goes_on}
use Rattle.piece.specs.declared.Head.{Head}
use Rattle.piece.specs.Piece.{Piece, flex, piece_for}
use Rattle.chains.specs.declared.Chain.{Chain}
use Rattle.chains.specs.declared.Collected.{Collected}
use Rattle.chains.specs.declared.Called.{Called}
use Rattle.std.specs.Prelude.{None, Option, Some}
use Rattle.std.specs.declared.ops.ControlFlow.{ControlFlow}
use Rattle.std.specs.declared.ops.ControlFlow.TheVariants.{Break, Continue}
use Rattle.chains.specs.declared.Turned.{Turned}
use Rattle.chains.specs.declared.part.Refusal.{Refusal}
use Rattle.chains.specs.declared.part.Refusal.TheVariants.{OutOfTurn, TooLong, TooManyPackets}
use Rattle.chains.specs.Step.{closed}
use Rattle.chains.specs.Collect.{beside, chain_with, collected_of, refusal_of, report_with, share, unlisted}
use Rattle.chains.specs.Collect.{whole_list}
use Rattle.chains.specs.Run.{drops, further, stops}

-- a head as a piece, for what does not ask its bytes
abbrev pub bare : Head → Piece
bare x = record { format = x.format; shared = x.shared; adds = x.adds; count = x.count; bytes = [] }

-- the piece at a place of the words, where those of its packet stand
abbrev pub piece_at : List ℕ → ℕ → Piece
piece_at ws at =
    piece_for (message_type (get_or ws at 0)) (get_or ws at 0) (get_or ws (at + 1) 0) (get_or ws (at + 2) 0)
    (get_or ws (at + 3) 0)

pub record Standing (ws : List ℕ) (at : ℕ) : Type 0 where
  pub two : at + 2 ≤ length ws
  pub four : message_type (get_or ws at 0) ≡ flex → at + 4 ≤ length ws

-- the answers to refusals, and to a piece that is refused or taken, by whether it is its message's last
abbrev pub number_of : Refusal → ℕ
number_of OutOfTurn = out_of_turn
number_of TooManyPackets = too_many_packets
number_of TooLong = too_long

abbrev pub answered : Result (Unit {0}) Refusal → Bool → ℕ
answered (Ok _) last = cond last sent taken_in
answered (Err refusal) last = number_of refusal

-- reports by their numbers: one that names no chain, and one of chain k, which is c after it, in parts of n bytes
abbrev pub besides : ℕ → ℕ → ℕ → Collected
besides a place read = beside (record { answer = a; place = place }) read

abbrev pub named_by : ℕ → ℕ → ℕ → ℕ → Chain → Collected
named_by a read k n c =
    record { answer = a; place = 0; read = read; chain = k; start = k * n; length = c.length }

-- how many words a packet has, by their number, which is 0 where it is cut
abbrev pub whole_by : ℕ → Option ℕ
whole_by n = cond (eqb n 0) None (Some n)

-- whether a chain is asked about the packet that stands first
abbrev pub is_asked : List ℕ → Bool
is_asked s = eqb (refusal_of s) goes_on

-- a call with the chain c
unfoldable pub called_with : Chain → List ℕ → List ℕ → Called
called_with c b s = record { report = report_with c (share b) s; chain = chain_with c (share b) s }

-- whether a call that reports r stops a run, where its chain was c before it
abbrev pub halts : Chain → Collected → Bool
halts c r = eqb r.answer sent || (eqb r.answer cut_packet || (not (closed c) && drops r.answer))

-- how far a run is: it goes on at a place, or is done with its report
abbrev pub Progress : Type 0
Progress = ControlFlow Collected ℕ

-- over n words, at a place where nothing stopped it
abbrev pub going_on : ℕ → ℕ → Progress
going_on at n = cond (ltb at n) (Continue at) (Break (beside (answering taken_in) at))

-- after a piece whose report r has all words read by then
unfoldable pub onward : Chain → ℕ → Collected → Progress
onward c n r =
    cond (eqb r.answer sent || (not (closed c) && drops r.answer)) (Break r) (going_on r.read n)

-- and after a call there
unfoldable pub progress_after : Chain → ℕ → ℕ → Collected → Progress
progress_after c at n r = cond (halts c r) (Break (further at r)) (going_on (at + r.read) n)

-- before the first packet, with so many chains and words
unfoldable pub begun : ℕ → ℕ → Progress
begun chains n = cond (eqb chains whole_list) (going_on 0 n) (Break unlisted)

-- a turn at a place of the words with the chain c
unfoldable pub turned_at : Chain → List ℕ → List ℕ → ℕ → Turned
turned_at c b ws at =
    record {
      progress = progress_after c at (length ws) (report_with c (share b) (drop at ws));
      chain = cond (is_asked (drop at ws)) (Some (chain_with c (share b) (drop at ws))) None;
    }

-- the same turn over a list of chains
unfoldable pub progress_of : List Chain → List ℕ → List ℕ → ℕ → Progress
progress_of cs b ws at =
    let r = collected_of cs b (drop at ws) in
    cond (stops cs r) (Break (further at r)) (going_on (at + r.read) (length ws))

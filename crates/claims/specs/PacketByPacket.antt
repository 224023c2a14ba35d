-- Demand 2 (RULES 4): a run is the calls of its packets, one after another.
use Rattle.std.specs.Prelude.{ℕ, ◌+◌, ◌≡◌, List, [], ◌∷◌, ◌++◌, map, length}
use Rattle.ground.specs.Lists.{All, joined, sum}
use Rattle.ump.specs.Packet.{Whole, cut}
use Rattle.stream.specs.Answers.{no_table}
use Rattle.stream.specs.Call.{Call, read_of, sent_of, stopped, went, within}
use Rattle.stream.specs.Run.{run}
use Rattle.stream.specs.Claims.{Made, and_then, calls}
use Rattle.channel.specs.declared.Record.{Record}
use Rattle.channel.specs.Record.{whole_table}
use Rattle.voice.specs.Packet.{call_down, run_down}
use Rattle.table.specs.Table.{run_up, table_up}

-- A run over packets, in any state.
pub record ByPackets {T : Type 0} (step : T → List ℕ → Call T) : Type 0 where
  -- a run is the call at the first packet, and then the run over the others from what that call left
  pub goes_on_lem : (t u : T) (p : List ℕ) (ps : List (List ℕ)) (a : ℕ) (ws : List ℕ) → step t p ≡ went a ws u
      → let rest = run step u ps in
      run step t (p ∷ ps)
      ≡ record { answer = rest.answer; read = length p + rest.read; sends = ws ++ rest.sends; left = rest.left }
  -- or it ends there, with that call's answer, and has read and sent nothing more
  pub stops : (t : T) (p : List ℕ) (ps : List (List ℕ)) (a : ℕ) → step t p ≡ stopped a
      → run step t (p ∷ ps) ≡ record { answer = a; read = 0; sends = []; left = t }
  -- the words sent are those of the packets' calls, in order, each in the state left by the packets before
  pub words : (t : T) (ps : List (List ℕ))
      → (run step t ps).sends ≡ joined (map (λ (m : Made T). sent_of m.call) (calls step t ps))
  -- the numbers of words read and written are sums over the same calls
  pub reads : (t : T) (ps : List (List ℕ))
      → (run step t ps).read ≡ sum (map (λ (m : Made T). read_of m.packet m.call) (calls step t ps))
  pub writes : (t : T) (ps : List (List ℕ))
      → length (run step t ps).sends ≡ sum (map (λ (m : Made T). length (sent_of m.call)) (calls step t ps))
  -- over a stream cut in two at a packet's edge it is the two runs one after the other
  pub in_two : (t : T) (ps : List (List ℕ)) (s : List ℕ) → All Whole ps
      → run step t (cut (joined ps ++ s)) ≡ and_then (run step t (cut (joined ps))) (λ u. run step u (cut s))

-- So no run treats its first packet alone and steps over the others, and none makes up how much it read or wrote: a run
-- up and a run down are their calls, with the table and the room handed on from each to the next.
pub record PacketByPacket : Type 0 where
  pub up : ByPackets (within table_up)
  pub down : ByPackets (within call_down)
  -- the runs that the functions promise are these, with a whole table
  pub run_up_lem : (room : ℕ) (t : List Record) (s : List ℕ) → length t ≡ whole_table
      → run_up room t s ≡ run (within table_up) (room, t) (cut s)
  pub no_table_lem : (room : ℕ) (t : List Record) (s : List ℕ) → (length t ≡ whole_table → ⊥)
      → run_up room t s ≡ record { answer = no_table; read = 0; sends = []; left = (room, t) }
  pub run_down_lem : (room : ℕ) (s : List ℕ) → run_down room s ≡ run (within call_down) (room, tt) (cut s)
  -- and so a stream may come in parts
  pub up_in_two : (room : ℕ) (t : List Record) (ps : List (List ℕ)) (s : List ℕ) → All Whole ps
      → run_up room t (joined ps ++ s) ≡ and_then (run_up room t (joined ps)) (λ u. run_up u.0 u.1 s)
  pub down_in_two : (room : ℕ) (ps : List (List ℕ)) (s : List ℕ) → All Whole ps
      → run_down room (joined ps ++ s) ≡ and_then (run_down room (joined ps)) (λ u. run_down u.0 s)

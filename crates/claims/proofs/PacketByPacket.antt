-- A run is the calls of its packets. Assumes nothing.
use Prim.Native.Nat.{ℕ, ◌+◌}
use mathlib.Core.Path.{◌≡◌, refl, ap, ◌∙◌}
use mathlib.Core.Bool.{false}
use mathlib.Core.List.{List, [], ◌∷◌, ◌++◌, map}
use native.Mathlib.Omega.{arith}
use lib.ListN.{length, length-append}
use lib.Dec.{eqb}
use borrow.Author.Tests.{eq-eqb, eqb-false, eqb-true, ne_eqb}
use Rattle.ground.specs.Lists.{All, joined, sum}
use Rattle.ground.proofs.Cases.{by_bool}
use Rattle.ump.specs.Packet.{Whole, cut}
use Rattle.stream.specs.Answers.{no_table, sent}
use Rattle.stream.specs.Call.{Call, read_of, sent_of, within}
use Rattle.stream.specs.Run.{Ran, run}
use Rattle.stream.specs.Claims.{Made, and_then, calls}
use Rattle.stream.proofs.RunLaws.{Does, by-calls, run-append, run-does, within-does}
use Rattle.screen.specs.declared.Rule.{Rule}
use Rattle.screen.specs.Screen.{open_rule}
use Rattle.channel.specs.declared.Record.{Record}
use Rattle.channel.specs.Record.{whole_table}
use Rattle.voice.specs.Packet.{call_down_by, run_down_by}
use Rattle.table.specs.Table.{run_up, table_by, table_up}
use Rattle.claims.specs.PacketByPacket.{ByPackets, PacketByPacket}
use Rattle.claims.proofs.StepLaws.{down-stops, up-length, up-stops}
use Rattle.stream.proofs.CutLaws.{cut_all, cut-joined}

abbrev NotSent : ℕ → Type 0
NotSent a = a ≡ sent → ⊥

-- of any step that never stops with the answer of a run that came to its end
module _ {T : Type 0} (step : T → List ℕ → Call T)
    (stops : (t : T) (p : List ℕ) → Does (λ _. Unit {0}) NotSent (step t p)) where
  words-length : (ms : List (Made T))
      → length (joined (map (λ (m : Made T). sent_of m.call) ms))
      ≡ sum (map (λ (m : Made T). length (sent_of m.call)) ms)
  words-length [] = refl
  words-length (m ∷ ms) = length-append (sent_of m.call) _ ∙ ap (◌+◌ (length (sent_of m.call))) (words-length ms)

  run-words : (t : T) (ps : List (List ℕ))
      → (run step t ps).sends ≡ joined (map (λ (m : Made T). sent_of m.call) (calls step t ps))
  run-words =
      by-calls step ◌++◌ [] (λ (m : Made T). sent_of m.call) (λ (r : Ran T). r.sends) (λ t. refl) (λ p t a. refl)
      (λ p t a ws u rest. refl)

  by-packets : ByPackets step
  unfolding run
  by-packets =
      record {
        goes_on_lem = λ t u p ps a ws e. rw e;
        stops = λ t p ps a e. rw e;
        words = run-words;
        reads = by-calls step ◌+◌ 0 (λ (m : Made T). read_of m.packet m.call) (λ (r : Ran T). r.read)
            (λ t. refl) (λ p t a. refl) (λ p t a ws u rest. refl);
        writes = λ t ps. ap length (run-words t ps) ∙ words-length (calls step t ps);
        in_two = λ t ps s h. rw (cut-joined ps s h, cut_all ps h) (run-append step stops ps (cut s) t);
      }

pub up-by-packets : (rule : Rule) → ByPackets (within (table_by rule false))
up-by-packets rule =
    by-packets (within (table_by rule false)) (λ u p.
    within-does (table_by rule false) (λ _. Unit {0}) NotSent (λ e. omega arith) u p
    (up-stops NotSent (λ e. omega arith) (λ e. omega arith) (λ e. omega arith) rule u.1 p))

pub down-by-packets : (rule : Rule) → ByPackets (within (call_down_by rule))
down-by-packets rule =
    by-packets (within (call_down_by rule)) (λ u p.
    within-does (call_down_by rule) (λ _. Unit {0}) NotSent (λ e. omega arith) u p
    (down-stops NotSent (λ e. omega arith) rule u.1 p))

-- a run in an output leaves a whole table whole
pub stays-whole : (ps : List (List ℕ)) (room : ℕ) (t : List Record) → length t ≡ whole_table
    → length (run (within table_up) (room, t) ps).left.1 ≡ whole_table
stays-whole ps room t h =
    (run-does (within table_up) (λ (u : ℕ × List Record). length u.1 ≡ whole_table) (λ _. Unit {0}) tt
    (λ u p k. within-does table_up (λ (v : List Record). length v ≡ whole_table) (λ _. Unit {0}) tt u p
    (rw k at (up-length open_rule u.1 p)))
    ps (room, t) h).0

run_up_lem : (room : ℕ) (t : List Record) (s : List ℕ) → length t ≡ whole_table
    → run_up room t s ≡ run (within table_up) (room, t) (cut s)
unfolding run_up
run_up_lem room t s h = rw (eq-eqb (length t) whole_table h)

no_table_lem : (room : ℕ) (t : List Record) (s : List ℕ) → (length t ≡ whole_table → ⊥)
    → run_up room t s ≡ record { answer = no_table; read = 0; sends = []; left = (room, t) }
unfolding run_up
no_table_lem room t s h = rw (ne_eqb (length t) whole_table h)

up_in_two : (room : ℕ) (t : List Record) (ps : List (List ℕ)) (s : List ℕ) → All Whole ps
    → run_up room t (joined ps ++ s) ≡ and_then (run_up room t (joined ps)) (λ u. run_up u.0 u.1 s)
up_in_two room t ps s h =
    by_bool (eqb (length t) whole_table)
    (λ e.
    let l = eqb-true (length t) whole_table e in
    let r = run (within table_up) (room, t) (cut (joined ps)) in
    rw (
      run_up_lem room t (joined ps ++ s) l,
      run_up_lem room t (joined ps) l,
      run_up_lem r.left.0 r.left.1 s (stays-whole (cut (joined ps)) room t l),
    )
    ((up-by-packets open_rule).in_two (room, t) ps s h))
    (λ e. let no_whole = eqb-false (length t) whole_table e in
    rw (no_table_lem room t (joined ps ++ s) no_whole, no_table_lem room t (joined ps) no_whole))

pub proved-packet-by-packet : PacketByPacket
unfolding run_down_by
proved-packet-by-packet =
    record {
      up = up-by-packets open_rule;
      down = down-by-packets open_rule;
      run_up_lem = run_up_lem;
      no_table_lem = no_table_lem;
      run_down_lem = λ room s. refl;
      up_in_two = up_in_two;
      down_in_two = λ room ps s h. (down-by-packets open_rule).in_two (room, tt) ps s h;
    }

-- A run reads no more words than it is given, and sends no more than its output holds. Assumes nothing.
use Prim.Native.Nat.{ℕ, ◌≤◌}
use mathlib.Core.Path.{◌≡◌, ap}
use mathlib.Core.List.{List}
use native.Mathlib.Omega.{arith}
use lib.Dec.{eqb}
use lib.ListN.{drop, length, length-append, length-drop}
use Rattle.ground.specs.Store.{at_start}
use Rattle.ground.proofs.Cases.{choose}
use Rattle.stream.specs.declared.Done.{Done}
use Rattle.stream.specs.Report.{reported}
use Rattle.stream.specs.Run.{Ran}
use Rattle.stream.proofs.RunLaws.{words-read}
use Rattle.channel.specs.declared.Record.{Record}
use Rattle.channel.specs.Record.{whole_table}
use Rattle.voice.specs.Packet.{run_down, run_down_by}
use Rattle.table.specs.Table.{run_up}
use Rattle.flow.specs.Listing.{run_lines}

-- what is reported of a run is no more than that
pub reads-most : {T : Type 0} (r : Ran T) (n : ℕ) (d : Done) → r.read ≤ n → d ≡ reported r → d.read ≤ n
reads-most r n d h e = omega (arith, ap (λ (x : Done). x.read) e)

pub up-reads : (room : ℕ) (t : List Record) (ws : List ℕ) (d : Done) → d ≡ reported (run_up room t ws)
    → d.read ≤ length ws
unfolding run_up
up-reads room t ws d =
    reads-most (run_up room t ws) (length ws) d
    (choose (λ (r : Ran (ℕ × List Record)). r.read ≤ length ws) (eqb (length t) whole_table) (λ _. words-read _ _ ws)
    (λ _. omega arith))

lines-read : (room : ℕ) (t : List Record) (ws : List ℕ) (d : Done) → d ≡ reported (run_lines room t ws)
    → d.read ≤ length ws
unfolding run_lines
lines-read room t ws d =
    reads-most (run_lines room t ws) (length ws) d
    (choose (λ (r : Ran (ℕ × List Record)). r.read ≤ length ws) (eqb (length t) whole_table) (λ _. words-read _ _ ws)
    (λ _. omega arith))

pub down-reads : (room : ℕ) (ws : List ℕ) (d : Done) → d ≡ reported (run_down room ws) → d.read ≤ length ws
unfolding run_down_by
down-reads room ws d = reads-most (run_down room ws) (length ws) d (words-read _ _ ws)

-- what an output of the same length holds was room for
pub stored-most : (xs out out' : List ℕ) → out' ≡ at_start xs out → length out' ≡ length out → length xs ≤ length out'
stored-most xs out out' f l =
    omega (arith, ap length f, length-append xs (drop (length xs) out), length-drop (length xs) out)

pub writes-most : {T : Type 0} (r : Ran T) (out out' : List ℕ) (d : Done)
    → d ≡ reported r → out' ≡ at_start r.sends out → length out' ≡ length out → d.written ≤ length out'
writes-most r out out' d e f l =
    omega (arith, ap (λ (x : Done). x.written) e, stored-most r.sends out out' f l)

-- both, of each run
module _ (room : ℕ) (t : List Record) (ws out out' : List ℕ) (d : Done) (same : length out' ≡ length out) where
  abbrev Bounded : Type 0
  Bounded = (d.read ≤ length ws) × (d.written ≤ length out')

  pub up-bounds : d ≡ reported (run_up room t ws) → out' ≡ at_start (run_up room t ws).sends out → Bounded
  up-bounds e f = (up-reads room t ws d e, writes-most (run_up room t ws) out out' d e f same)

  pub lines-bounds : d ≡ reported (run_lines room t ws) → out' ≡ at_start (run_lines room t ws).sends out → Bounded
  lines-bounds e f = (lines-read room t ws d e, writes-most (run_lines room t ws) out out' d e f same)

pub down-bounds : (room : ℕ) (ws out out' : List ℕ) (d : Done) → length out' ≡ length out
    → d ≡ reported (run_down room ws)
    → out' ≡ at_start (run_down room ws).sends out → (d.read ≤ length ws) × (d.written ≤ length out')
down-bounds room ws out out' d l e f = (down-reads room ws d e, writes-most (run_down room ws) out out' d e f l)

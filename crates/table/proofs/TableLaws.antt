-- Laws of a call with the table: it looks at its own packet alone, goes on only with a whole one, and is the call with
-- the packet's own record. Assumes nothing.
use Prim.Native.Nat.{ℕ, zero, suc, ◌≤◌}
use mathlib.Core.Path.{◌≡◌, refl, sym, ap, ◌∙◌}
use mathlib.Core.Bool.{Bool}
use mathlib.Core.List.{List, ◌∷◌}
use native.Mathlib.Omega.{arith}
use native.Mathlib.Nat.{add-zero}
use lib.Dec.{eqb, leb}
use lib.ListN.{drop, get_or, length, set, take}
use lib.Seq.{get_or-drop, set-get_or}
use borrow.Author.Tests.{eq-eqb}
use Rattle.ground.proofs.Cases.{by_bool, choose}
use Rattle.ump.specs.Packet.{first, size}
use Rattle.ump.specs.Word.{place_of}
use Rattle.ump.proofs.PacketLaws.{packet-near, size-range}
use Rattle.stream.specs.declared.Done.{Done}
use Rattle.stream.specs.Call.{Call, answer_of, fit, left_of, read_of, sent_of, stopped, went, within}
use Rattle.stream.specs.Report.{further}
use Rattle.stream.proofs.RunLoop.{Inside}
use Rattle.screen.specs.declared.Rule.{Rule}
use Rattle.channel.specs.declared.Record.{Record}
use Rattle.channel.specs.Record.{empty, whole_table}
use Rattle.voice.specs.Packet.{call_by}
use Rattle.voice.proofs.PacketLaws.{up-inside}
use Rattle.table.specs.Table.{stored, table_by}

first-near : (w : ℕ) (s : List ℕ) → first (take (size w) (w ∷ s)) ≡ w
first-near w s = go (size w) (size-range w)
  where
    go : (n : ℕ) → (1 ≤ n) × (n ≤ 4) → first (take n (w ∷ s)) ≡ w
    go zero h = absurd (omega arith)
    go (suc n) h = refl

pub table-near : (rule : Rule) (known : Bool) (t : List Record) (w : ℕ) (s : List ℕ)
    → table_by rule known t (take (size w) (w ∷ s)) ≡ table_by rule known t (w ∷ s)
unfolding table_by call_by
table-near rule known t w s = rw (first-near w s, packet-near w s)

stored-inside : (t : List Record) (k : ℕ) (s : List ℕ) (c : Call Record) → Inside s c → Inside s (stored t k c)
stored-inside t k s (went a ws u) h = h
stored-inside t k s (stopped a) h = tt

pub table-inside : (rule : Rule) (known : Bool) (t : List Record) (w : ℕ) (s : List ℕ) → Inside (w ∷ s) (table_by rule
    known t (w ∷ s))
unfolding table_by
table-inside rule known t w s =
    let r = get_or t (place_of w) empty in
    choose (λ (c : Call (List Record)). Inside (w ∷ s) c) (eqb (length t) whole_table)
    (λ _. stored-inside t (place_of w) (w ∷ s) (call_by rule known r (w ∷ s)) (up-inside rule known r w s)) (λ _. tt)

-- a call with the packet's own record is the call with the table, and the record after stands in its place
pub with-table : (room : ℕ) (t : List Record) (k : ℕ) (p : List ℕ) (c : Call Record)
    → (answer_of (fit room (stored t k c)) ≡ answer_of (fit room c))
    × (read_of p (fit room (stored t k c)) ≡ read_of p (fit room c))
    × (sent_of (fit room (stored t k c)) ≡ sent_of (fit room c))
    × ((left_of (room, t) (fit room (stored t k c))).1 ≡ set t k (left_of (room, get_or t k empty) (fit room c)).1)
with-table room t k p (stopped a) = (refl, refl, refl, sym (set-get_or t k empty))
with-table room t k p (went a ws u) =
    by_bool (leb (length ws) room) (λ e. rw e (refl, refl, refl, refl))
    (λ e. rw e (refl, refl, refl, sym (set-get_or t k empty)))

pub first-at : (ws : List ℕ) (i : ℕ) → first (drop i ws) ≡ get_or ws i 0
first-at ws i = get_or-drop i ws 0 0 ∙ ap (λ (n : ℕ). get_or ws n 0) (add-zero i)

-- where the record of the packet at a place stands, and the call there
abbrev pub place_at : List ℕ → ℕ → ℕ
place_at ws i = place_of (get_or ws i 0)

pub table_at : (rule : Rule) (known : Bool) (ws : List ℕ) (t : List Record) (i : ℕ) → length t ≡ whole_table
    → table_by rule known t (drop i ws) ≡ stored t (place_at ws i) (call_by rule known (get_or t
    (place_at ws i) empty) (drop
    i ws))
unfolding table_by
table_at rule known ws t i l = rw (eq-eqb (length t) whole_table l, first-at ws i)

-- what is reported of the call with the packet's own record is what is reported of the call with a whole table
pub own-call : (rule : Rule) (known : Bool) (d : Done) (p : List ℕ) (room : ℕ) (t : List Record) (ws : List ℕ) (i : ℕ) →
    length t ≡ whole_table
    → let own = within (call_by rule known) (room, get_or t (place_at ws i) empty) (drop i ws) in
    let all = within (table_by rule known) (room, t) (drop i ws) in
    (further d p own ≡ further d p all) × (sent_of own ≡ sent_of all)
    × (set t (place_at ws i) (left_of (room, get_or t (place_at ws i) empty) own).1 ≡ (left_of (room, t) all).1)
unfolding within
own-call rule known d p room t ws i l =
    let y = with-table room t (place_at ws i) p (call_by rule known (get_or t (place_at ws i) empty) (drop i ws)) in
    rw (table_at rule known ws t i l, y.0, y.1, y.2, y.3) (refl, refl, refl)

-- One call with the table, by what it comes to; what calls stop with, leave and send. Assumes nothing.
use Prim.Native.Nat.{ℕ, ◌*◌, ◌≤◌}
use mathlib.Core.Path.{◌≡◌, refl, sym, ◌∙◌}
use mathlib.Core.Bool.{true, false}
use mathlib.Core.List.{List, [], ◌∷◌}
use native.Mathlib.Omega.{arith}
use lib.ListN.{get_or, length, length-set, set}
use lib.Seq.{set-get_or}
use lib.Dec.{eqb}
use borrow.Author.Tests.{eqb-false, eqb-true, leb-false}
use Rattle.ground.proofs.Cases.{choose, not-both}
use Rattle.ump.specs.Word.{message_type, place_of, voice1, voice2}
use Rattle.ump.specs.Packet.{first, packet, size}
use Rattle.ump.proofs.PacketLaws.{packet-four, packet-length}
use Rattle.stream.specs.Answers.{cut_packet, no_table, not_sound, stops_run}
use Rattle.stream.specs.Call.{Call, refused, sent_of, stopped}
use Rattle.stream.proofs.CallLaws.{refusal}
use Rattle.stream.proofs.RunLaws.{Does}
use Rattle.screen.specs.declared.Rule.{Rule}
use Rattle.screen.specs.Screen.{goes_on, screen_by}
use Rattle.screen.proofs.ScreenLaws.{passed, refused-above}
use Rattle.channel.specs.declared.Record.{Record}
use Rattle.channel.specs.Record.{empty, sound, whole_table}
use Rattle.voice.specs.Packet.{call_by, call_down_by}
use Rattle.voice.proofs.PacketLaws.{UpCases, down-cases, down-does, few-down, up-cases, up-does}
use Rattle.table.specs.Table.{stored, table_by}
use Rattle.table.proofs.KeptLaws.{table_does}
use Rattle.stream.proofs.CutLaws.{standing}

-- a packet that goes on has words; and a refusal is above `taken_in`, and reads a packet that has words, or none
pub has_words : (rule : Rule) (wrong : ℕ) (p : List ℕ) → (screen_by rule wrong p).answer ≡ goes_on → 1 ≤ length p
has_words rule wrong p f = omega (arith, eqb-false (length p) 0 (passed rule wrong p f).some)

pub refuses-above : (rule : Rule) (wrong : ℕ) (p : List ℕ) → ((screen_by rule wrong p).answer ≡ goes_on → ⊥)
    → 2 ≤ (screen_by rule wrong p).answer
refuses-above rule wrong p n = leb-false (screen_by rule wrong p).answer 1 (refused-above rule wrong p n)

pub reads-words : (rule : Rule) (wrong : ℕ) (p : List ℕ) → stops_run (screen_by rule wrong p).answer ≡ false
    → 1 ≤ length p
unfolding screen_by
reads-words rule wrong [] h = not-both (sym h)
reads-words rule wrong (w ∷ p) h = omega arith

-- the table stays where the packet is refused
stored_refused : (t : List Record) (k a : ℕ) → stored t k (refused a (get_or t k empty)) ≡ refused a t
unfolding refused
stored_refused t k a =
    choose (λ (c : Call Record). stored t k c ≡ refused a t) (stops_run a) (λ e. rw e) (λ e. rw (e, set-get_or t k empty))

-- a call up under a rule: r is the packet's own record, which is put back into its place
pub table-cases : (P : Call (List Record) → Type 0) (rule : Rule) (t : List Record) (s : List ℕ)
    → (eqb (length t) whole_table ≡ false → P (stopped no_table))
    → (eqb (length t) whole_table ≡ true
    → let r = get_or t (place_of (first s)) empty in
    UpCases P t (set t (place_of (first s))) rule (sound r) r (packet s) (first (packet s)))
    → P (table_by rule false t s)
unfolding table_by call_by
table-cases P rule t s ten filled =
    let k = place_of (first s) in
    choose P (eqb (length t) whole_table)
    (λ full. let u = filled full in
    up-cases (λ (c : Call Record). P (stored t k c)) rule (sound (get_or t k empty)) (get_or t k empty) (packet s)
    (record {
      refuses = λ n. rw (stored_refused t k (screen_by rule voice2 (packet s)).answer) (u.refuses n);
      onward = λ f e. rw (set-get_or t k empty) (u.onward f e);
      unsound = u.unsound;
      takes = u.takes;
      sends = u.sends;
    }))
    ten

-- up stops with 3, 8 and 10 alone, and down with 3; what holds of the table with any own record holds of the table left
pub up-calls : (I : List Record → Type 0) (A : ℕ → Type 0) → A cut_packet → A not_sound → A no_table
    → (rule : Rule) (t : List Record) (s : List ℕ) → ((r : Record) → I (set t (place_of (first s)) r))
    → Does I A (table_by rule false t s)
unfolding call_by
up-calls I A three eight ten rule t s other =
    let k = place_of (first s) in
    table_does I A rule t s ten
    (up-does (λ (r : Record). I (set t k r)) A rule (get_or t k empty) (packet s) (other _) three (λ _. eight)
    (λ _ _ _. other _))

pub up-length : (rule : Rule) (t : List Record) (s : List ℕ)
    → Does (λ (u : List Record). length u ≡ length t) (λ _. Unit {0}) (table_by rule false t s)
up-length rule t s =
    up-calls (λ (u : List Record). length u ≡ length t) (λ _. Unit {0}) tt tt tt rule t s
    (λ r. length-set t (place_of (first s)) r)

pub up-stops : (A : ℕ → Type 0) → A cut_packet → A not_sound → A no_table → (rule : Rule) (t : List Record) (s : List ℕ)
    → Does (λ _. Unit {0}) A (table_by rule false t s)
up-stops A three eight ten rule t s = up-calls (λ _. Unit {0}) A three eight ten rule t s (λ _. tt)

pub down-stops : (A : ℕ → Type 0) → A cut_packet → (rule : Rule) (u : Unit {0}) (s : List ℕ)
    → Does (λ _. Unit {0}) A (call_down_by rule u s)
unfolding call_down_by
down-stops A three rule u s = down-does A rule (packet s) three

-- no call sends more than two words for each word that it was given
none-sent : {T : Type 0} (a : ℕ) (t : T) (n : ℕ) → length (sent_of (refused a t)) ≤ n
none-sent a t n = rw (refusal a t [] (λ _. refl)).2 (omega arith)

pub twice-up : (rule : Rule) (t : List Record) (s : List ℕ) → length (sent_of (table_by rule false t s)) ≤ 2 * length s
twice-up rule t s =
    let p = packet s in
    let l = packet-length s in
    table-cases (λ (c : Call (List Record)). length (sent_of c) ≤ 2 * length s) rule t s (λ _. omega arith) (λ _. record {
      refuses = λ _. none-sent (screen_by rule voice2 p).answer t (2 * length s);
      onward = λ _ _. omega arith;
      unsound = λ _ _ _. omega arith;
      takes = λ _ _ _ _. omega arith;
      sends = λ f _ _ _ _. omega (arith, has_words rule voice2 p f);
    })

pub twice-down : (rule : Rule) (u : Unit {0}) (s : List ℕ) → length (sent_of (call_down_by rule u s)) ≤ 2 * length s
unfolding call_down_by size
twice-down rule u s =
    let p = packet s in
    let l = packet-length s in
    down-cases (λ (c : Call (Unit {0})). length (sent_of c) ≤ 4 → length (sent_of c) ≤ 2 * length s) rule p (record {
      refuses = λ _ _. none-sent (screen_by rule voice1 p).answer tt (2 * length s);
      onward = λ _ _ _. omega arith;
      formless = λ _ _ _ _. omega arith;
      sends = λ f e _ _ _ h.
          let x = standing s (has_words rule voice1 p f) in
          let n : length p ≡ 2 = x.2 ∙ rw (x.1, eqb-true (message_type (first p)) voice2 e) in
          omega arith;
    }) (few-down rule p (packet-four s))

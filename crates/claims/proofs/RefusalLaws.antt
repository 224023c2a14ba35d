-- Each number is answered exactly in its listed case. Assumes nothing.
use Prim.Native.Nat.{ℕ, ◌≤◌}
use mathlib.Core.Path.{◌≡◌, refl, sym, ◌∙◌}
use mathlib.Core.Bool.{Bool, true, false, cond, not, ◌&&◌}
use mathlib.Core.List.{List, [], ◌∷◌, ◌++◌, map}
use native.Mathlib.Omega.{arith}
use lib.ListN.{get_or, length, length-set, set}
use lib.Seq.{get_or-set_other}
use lib.Dec.{eqb, eqb-suc-zero, leb, leb-zero, ltb}
use borrow.Author.Tests.{le-ltb, leb-false, leb-true, lt-ltb, ne_eqb}
use Rattle.ground.proofs.Cases.{by_bool, choose, not-both}
use Rattle.ump.specs.Word.{channel_of, group_of, message_type, place_of, voice1, voice2}
use Rattle.ump.specs.Packet.{first, packet, second, size}
use Rattle.ump.proofs.PacketLaws.{packet-four}
use Rattle.stream.specs.Answers.{bad_data, bad_status, cut_packet, no_form, no_room, no_table, not_sound, reserved_type, sent}
use Rattle.stream.specs.Answers.{not_for_room, not_yours, stops_run, taken_in, wrong_protocol}
use Rattle.stream.specs.Call.{Call, answer_of, fit, left_of, read_of, refused, sent_of, went, within}
use Rattle.stream.proofs.CallLaws.{refusal, refused-fits}
use Rattle.stream.proofs.RunLaws.{does-left, within-does}
use Rattle.fields.specs.Check.{bad_place_of, checked_fields, good_fields, good_status}
use Rattle.screen.specs.declared.Rule.{Rule}
use Rattle.screen.specs.Screen.{admitted, answering, for_beginners, goes_on, open_rule, outside, reserved, screen_by}
use Rattle.screen.proofs.ScreenLaws.{passed}
use Rattle.channel.specs.declared.Record.{Record}
use Rattle.channel.specs.Record.{empty, sound, whole_table}
use Rattle.message.specs.Message.{read2, write1, write2}
use Rattle.lower.specs.Lower.{lower}
use Rattle.voice.specs.Packet.{call_down_by}
use Rattle.voice.proofs.PacketLaws.{down-cases, few-down}
use Rattle.table.specs.Table.{table_by}
use Rattle.stream.specs.Cases.{Case, case, numbered}
use Rattle.claims.specs.Refusals.{ByAnswer, Refusals}
use Rattle.stream.proofs.CutLaws.{standing}
use Rattle.claims.proofs.StepLaws.{has_words, reads-words, refuses-above, table-cases, up-calls}

-- the cases of the screening under a rule, of which the open one has neither 13 nor 23
abbrev cases_with : Rule → ℕ → List ℕ → List Case
cases_with rule wrong p =
    case cut_packet (eqb (length p) 0)
    ∷ case reserved_type (reserved (message_type (first p)))
    ∷ case wrong_protocol (eqb (message_type (first p)) wrong)
    ∷ case not_yours (outside rule (first p))
    ∷ case bad_status (not (good_status (first p)))
    ∷ case bad_data (not (good_fields (checked_fields (first p) (second p))))
    ∷ case not_for_room (rule.beginners && not (for_beginners (first p)))
    ∷ []

-- these cases, and then others: the screening decides, or the others do
screening : (rule : Rule) (wrong : ℕ) (p : List ℕ) (cs : List Case)
    → numbered (cases_with rule wrong p ++ cs)
    ≡ cond (eqb (screen_by rule wrong p).answer goes_on) (numbered cs) (screen_by rule wrong p).answer
unfolding screen_by admitted
screening rule wrong p cs =
    go (eqb (length p) 0) (reserved (message_type (first p))) (eqb (message_type (first p)) wrong)
    (outside rule (first p)) (not (good_status (first p)))
    (good_fields (checked_fields (first p) (second p))) rule.beginners (for_beginners (first p))
  where
    go : (a b c o d e f g : Bool) →
        let x = cond a (answering cut_packet) (cond b (answering reserved_type) (cond c (answering wrong_protocol)
        (cond o (answering not_yours)
        (cond d (answering bad_status) (cond e (answering (cond f (cond g goes_on not_for_room) goes_on))
        (record { answer = bad_data; place = bad_place_of p })))))) in
        numbered
        (case cut_packet a ∷ case reserved_type b ∷ case wrong_protocol c ∷ case not_yours o ∷ case bad_status d
        ∷ case bad_data (not e) ∷ case not_for_room (f && not g) ∷ cs)
        ≡ cond (eqb x.answer goes_on) (numbered cs) x.answer
    go true b c o d e f g = refl
    go false true c o d e f g = refl
    go false false true o d e f g = refl
    go false false false true d e f g = refl
    go false false false false true e f g = refl
    go false false false false false true true true = refl
    go false false false false false true true false = refl
    go false false false false false true false g = refl
    go false false false false false false f g = refl

-- what a refusal by the screening, and a packet that goes on, come to among the cases
refused-row : {T : Type 0} (rule : Rule) (room wrong : ℕ) (p : List ℕ) (t : T) (cs : List Case)
    → ((screen_by rule wrong p).answer ≡ goes_on → ⊥)
    → answer_of (fit room (refused (screen_by rule wrong p).answer t)) ≡ numbered (cases_with rule wrong p ++ cs)
refused-row {T} rule room wrong p t cs n =
    let a = (screen_by rule wrong p).answer in
    rw (
      refused-fits room a t,
      (refusal {T = ℕ × T} a (room, t) [] (λ _. refl)).0,
      screening rule wrong p cs,
      ne_eqb a goes_on n,
    )

onward-row : (rule : Rule) (wrong : ℕ) (p : List ℕ) (cs : List Case) → (screen_by rule wrong p).answer ≡ goes_on
    → numbered (cases_with rule wrong p ++ cs) ≡ numbered cs
onward-row rule wrong p cs f = screening rule wrong p cs ∙ rw f

-- room or not: the answer of a call that sends so many words
roomed-answer : {T : Type 0} (room a : ℕ) (ws : List ℕ) (u : T)
    → answer_of (fit room (went a ws u)) ≡ cond (ltb room (length ws)) no_room a
roomed-answer room a ws u =
    by_bool (leb (length ws) room) (λ e. rw (e, le-ltb room (length ws) (leb-true (length ws) room e)))
    (λ e. rw (e, lt-ltb room (length ws) (leb-false (length ws) room e)))

-- the cases of a call up under a rule
abbrev cases_by : Rule → ℕ → List Record → List ℕ → List Case
cases_by rule room t s =
    case no_table (not (eqb (length t) whole_table))
    ∷ cases_with rule voice2 (packet s)
    ++ case not_sound (eqb (message_type (first (packet s))) voice1 && not (sound (get_or t (place_of (first s)) empty)))
    ∷ case no_room (ltb room (length (sent_of (table_by rule false t s))))
    ∷ case taken_in (eqb (length (sent_of (table_by rule false t s))) 0)
    ∷ []

pub up-answer : (rule : Rule) (room : ℕ) (t : List Record) (s : List ℕ)
    → answer_of (within (table_by rule false) (room, t) s) ≡ numbered (cases_by rule room t s)
unfolding within
up-answer rule room t s =
    table-cases (λ (c : Call (List Record)).
    answer_of (fit room c) ≡ cond (not (eqb (length t) whole_table)) no_table
    (numbered (cases_with rule voice2 p ++ last (sent_of c)))) rule t s
    (λ e. rw e) (λ full. rw full (record {
      refuses = refused-row rule room voice2 p t (last (sent_of (refused (screen_by rule voice2 p).answer t)));
      onward = λ f e.
          rw (onward-row rule voice2 p (last p) f, e, (passed rule voice2 p f).some) (roomed-answer room sent p t);
      unsound = λ f e h. rw (onward-row rule voice2 p (last []) f, e, h);
      takes = λ f e h _. rw (onward-row rule voice2 p (last []) f, e, h) (roomed-answer room taken_in [] _);
      sends = λ f e h m _.
          let ws = write2 (group_of (first p)) (channel_of (first p)) m in
          rw (onward-row rule voice2 p (last ws) f, e, h) (roomed-answer room sent ws _);
    }))
  where
    p : List ℕ
    p = packet s

    last : List ℕ → List Case
    last ws =
        case not_sound (eqb (message_type (first p)) voice1 && not (sound (get_or t (place_of (first s)) empty)))
        ∷ case no_room (ltb room (length ws)) ∷ case taken_in (eqb (length ws) 0) ∷ []

-- and down
abbrev cases_down_by : Rule → ℕ → List ℕ → List Case
cases_down_by rule room s =
    cases_with rule voice1 (packet s)
    ++ case no_form (eqb (message_type (first (packet s))) voice2
    && eqb (length (lower (read2 (first (packet s)) (second (packet s))))) 0)
    ∷ case no_room (ltb room (length (sent_of (call_down_by rule tt s))))
    ∷ []

pub down-answer : (rule : Rule) (room : ℕ) (s : List ℕ)
    → answer_of (within (call_down_by rule) (room, tt) s) ≡ numbered (cases_down_by rule room s)
unfolding within call_down_by
down-answer rule room s =
    down-cases (λ (c : Call (Unit {0})). answer_of (fit room c) ≡ numbered (cases_with rule voice1 p ++ last (sent_of c)))
    rule p
    (record {
      refuses = refused-row rule room voice1 p tt (last (sent_of (refused (screen_by rule voice1 p).answer tt)));
      onward = λ f e. rw (onward-row rule voice1 p (last p) f, e) (roomed-answer room sent p tt);
      formless = λ f e k. rw (leb-zero room, onward-row rule voice1 p (last []) f, e, k);
      sends = λ f e m ms k.
          let ws = map (write1 (group_of (first p)) (channel_of (first p))) (m ∷ ms) in
          rw (onward-row rule voice1 p (last ws) f, e, k, eqb-suc-zero (length ms)) (roomed-answer room sent ws tt);
    })
  where
    p : List ℕ
    p = packet s

    last : List ℕ → List Case
    last ws =
        case no_form (eqb (message_type (first p)) voice2 && eqb (length (lower (read2 (first p) (second p)))) 0)
        ∷ case no_room (ltb room (length ws)) ∷ []

-- What a call with unlimited room comes to, in a state t at the words s.
data Shape {T : Type 0} (t : T) (s : List ℕ) : Call T → Type 0 where
  refusing : {a : ℕ} → 2 ≤ a → (stops_run a ≡ false → 1 ≤ length (packet s)) → Shape t s (refused a t)
  taking : {u : T} → 1 ≤ length (packet s) → Shape t s (went taken_in [] u)
  sending : {ws : List ℕ} {u : T} → 1 ≤ length (packet s) → 1 ≤ length ws → length ws ≤ 4 → Shape t s (went sent ws u)

module _ {T : Type 0} (room : ℕ) (t : T) (s : List ℕ) where
  by-refusal : (a : ℕ) → 2 ≤ a → (stops_run a ≡ false → 1 ≤ length (packet s))
      → ByAnswer (room, t) s (refused a (room, t))
  unfolding refused
  by-refusal a l n =
      let x = refusal {T = ℕ × T} a (room, t) [] (λ _. refl) in
      record {
        reads = rw x.0
            (choose (λ (c : Call (ℕ × T)). read_of (packet s) c ≡ cond (stops_run a) 0 (size (first s))) (stops_run a)
            (λ e. rw e) (λ e. rw e (standing s (n e)).2));
        untouched = λ _. (x.2, x.3);
        speaking = λ z. absurd (omega (arith, x.0));
        quietly = λ _. x.2;
      }

  by_answer : (c : Call T) → Shape t s c → ByAnswer (room, t) s (fit room c)
  unfolding refused
  by_answer _ (refusing {a} l n) = rw (refused-fits room a t) (by-refusal a l n)
  by_answer _ (taking n) =
      rw (leb-zero room)
      (record {
        reads = (standing s n).2;
        untouched = λ z. absurd (omega arith);
        speaking = λ z. absurd (omega arith);
        quietly = λ _. refl;
      })
  by_answer _ (sending {ws} n l m) =
      choose (ByAnswer (room, t) s) (leb (length ws) room)
      (λ _. record {
        reads = (standing s n).2;
        untouched = λ z. absurd (omega arith);
        speaking = λ _. (l, m);
        quietly = λ z. absurd (omega arith);
      })
      (λ _. by-refusal no_room (omega arith) (λ _. n))

up-shape : (rule : Rule) (t : List Record) (s : List ℕ) → Shape t s (table_by rule false t s)
unfolding refused
up-shape rule t s =
    let p = packet s in
    table-cases (Shape t s) rule t s (λ _. refusing {a = no_table} (omega arith) not-both') (λ _. record {
      refuses = λ n. refusing (refuses-above rule voice2 p n) (reads-words rule voice2 p);
      onward = λ f _. sending (has_words rule voice2 p f) (has_words rule voice2 p f) (packet-four s);
      unsound = λ _ _ _. refusing {a = not_sound} (omega arith) not-both';
      takes = λ f _ _ _. taking (has_words rule voice2 p f);
      sends = λ f _ _ _ _. sending (has_words rule voice2 p f) (omega arith) (omega arith);
    })
  where
    not-both' : {X : Type 0} → true ≡ false → X
    not-both' e = not-both (sym e)

down-shape : (rule : Rule) (s : List ℕ) → Shape tt s (call_down_by rule tt s)
unfolding call_down_by refused
down-shape rule s =
    let p = packet s in
    down-cases (λ (c : Call (Unit {0})). length (sent_of c) ≤ 4 → Shape tt s c) rule p (record {
      refuses = λ n _. refusing (refuses-above rule voice1 p n) (reads-words rule voice1 p);
      onward = λ f _ h. sending (has_words rule voice1 p f) (has_words rule voice1 p f) h;
      formless = λ f _ _ _. refusing {a = no_form} (omega arith) (λ _. has_words rule voice1 p f);
      sends = λ f _ m ms _ h.
          sending {ws = map (write1 (group_of (first p)) (channel_of (first p))) (m ∷ ms)} (has_words rule voice1 p f)
          (omega arith) h;
    }) (few-down rule p (packet-four s))

-- what holds of the table with any own record holds of the table after
after_call : (I : List Record → Type 0) (rule : Rule) (room : ℕ) (t : List Record) (s : List ℕ) → I t
    → ((r : Record) → I (set t (place_of (first s)) r))
    → I (left_of (room, t) (within (table_by rule false) (room, t) s)).1
after_call I rule room t s h other =
    does-left (λ (u : ℕ × List Record). I u.1) (λ _. Unit {0}) (room, t) (within (table_by rule false) (room, t) s) h
    (within-does (table_by rule false) I (λ _. Unit {0}) tt (room, t) s
    (up-calls I (λ _. Unit {0}) tt tt tt rule t s other))

-- what a call up under a rule reads, sends and leaves, by its answer, and that no other record changes
pub after_up : (rule : Rule) (room : ℕ) (t : List Record) (s : List ℕ)
    → ByAnswer (room, t) s (within (table_by rule false) (room, t) s)
unfolding within
after_up rule room t s = by_answer room t s (table_by rule false t s) (up-shape rule t s)

pub other-records : (rule : Rule) (room : ℕ) (t : List Record) (s : List ℕ) (k : ℕ) → (k ≡ place_of (first s) → ⊥)
    → get_or (left_of (room, t) (within (table_by rule false) (room, t) s)).1 k empty ≡ get_or t k empty
other-records rule room t s k n =
    after_call (λ (u : List Record). get_or u k empty ≡ get_or t k empty) rule room t s refl
    (λ r. get_or-set_other t (place_of (first s)) k r empty n)

pub after_down : (rule : Rule) (room : ℕ) (s : List ℕ)
    → ByAnswer (room, tt) s (within (call_down_by rule) (room, tt) s)
unfolding within
after_down rule room s = by_answer room tt s (call_down_by rule tt s) (down-shape rule s)

pub proved-refusals : Refusals
unfolding outside
proved-refusals =
    record {
      up = up-answer open_rule;
      down = down-answer open_rule;
      after_up = after_up open_rule;
      after_down = after_down open_rule;
      records = other-records open_rule;
      table = λ room t s.
          after_call (λ (u : List Record). length u ≡ length t) open_rule room t s refl
          (λ r. length-set t (place_of (first s)) r);
    }

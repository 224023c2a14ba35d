-- The keys of a channel change at each call as an accepted message of that channel says, and so over a run. Assumes
-- nothing.
use Prim.Native.Nat.{ℕ, ◌<◌, ◌≤◌}
use mathlib.Core.Path.{◌≡◌, refl, sym, ap, ◌∙◌}
use mathlib.Core.Bool.{Bool, true, false, cond}
use mathlib.Core.List.{List, [], ◌∷◌, map}
use native.Mathlib.Omega.{arith}
use lib.ListN.{get_or, length, length-replicate, set}
use lib.Seq.{get_or-set_other, get_or-set_same}
use lib.Dec.{eqb, leb}
use borrow.Author.Tests.{eq-eqb, eqb-true, le-leb, leb-false, lt-leb}
use Rattle.ground.proofs.Bools.{and_left, and_right}
use Rattle.ground.proofs.Cases.{by_bool, choose, not-both}
use Rattle.ump.specs.Word.{channel_of, group_of, message_type, place_of, voice1, voice2}
use Rattle.ump.specs.Packet.{cut, first, packet}
use Rattle.stream.specs.Answers.{answered, sent, taken_in}
use Rattle.stream.specs.Call.{Call, fit, left_of, stopped, went, within}
use Rattle.stream.specs.Run.{Ran, run, then_run}
use Rattle.stream.specs.Claims.{Made, calls, then_calls}
use Rattle.stream.proofs.CallLaws.{refusal, refused-fits}
use Rattle.screen.specs.Screen.{goes_on, open_rule, screen}
use Rattle.keys.specs.declared.Keys.{Keys}
use Rattle.keys.specs.Keys.{down, least, tally}
use Rattle.keys.specs.History.{after}
use Rattle.keys.proofs.Bit.{least-ext, tally-ext}
use Rattle.keys.proofs.Laws.{empty_none}
use Rattle.keys.proofs.HistoryLaws.{all_say}
use Rattle.channel.specs.declared.Record.{Record}
use Rattle.channel.specs.Record.{empty, fresh, whole_table}
use Rattle.message.specs.Message.{Midi1, read1, write2}
use Rattle.lift.specs.Played.{event, keys_after, record_after}
use Rattle.table.specs.Table.{one_up, run_up, table_after, table_by, table_up}
use Rattle.table.proofs.KeptLaws.{all-empty}
use Rattle.pupil.specs.Only.{is_on}
use Rattle.question.specs.Question.{keys_asked, keys_told, lowest_told, place_asked}
use Rattle.claims.specs.Picture.{Picture, accepted, accepted_on, heard_on, heard_once, keys_on, messages_on}
use Rattle.claims.specs.Picture.{pressed_by, said_of}
use Rattle.claims.proofs.RefusalLaws.{proved-refusals}
use Rattle.claims.proofs.PacketByPacket.{stays-whole}
use Rattle.claims.proofs.StepLaws.{has_words, refuses-above, table-cases}
use Rattle.stream.proofs.CutLaws.{standing}

-- a run is that over the packets with a table that is not whole too: the first call stops
left-by-run : (room : ℕ) (t : List Record) (s : List ℕ)
    → table_after (run_up room t s) ≡ (run (within table_up) (room, t) (cut s)).left.1
unfolding run_up run within table_by
left-by-run room t s =
    choose (λ (r : Ran (ℕ × List Record)). table_after r ≡ (run (within table_up) (room, t) (cut s)).left.1)
    (eqb (length t) whole_table) (λ _. refl) (λ e. go e (cut s))
  where
    go : eqb (length t) whole_table ≡ false → (ps : List (List ℕ)) → t ≡ (run (within table_up) (room, t) ps).left.1
    go e [] = refl
    go e (p ∷ ps) = rw e

module _ (group channel : ℕ) (hg : group ≤ 15) (hc : channel ≤ 15) where
  abbrev on : List Record → Keys
  on t = keys_on group channel t

  -- a packet of the channel has its place, and no other has
  pub own-place : (w : ℕ) → is_on group channel w ≡ true → place_asked group channel ≡ place_of w
  own-place w e =
      let x = eqb (group_of w).0 group in
      let y = eqb (channel_of w).0 channel in
      rw (eqb-true (group_of w).0 group (and_left x y e), eqb-true (channel_of w).0 channel (and_right x y e))

  pub other_place : (w : ℕ) → is_on group channel w ≡ false → place_asked group channel ≡ place_of w → ⊥
  other_place w e z =
      let g : (group_of w).0 ≡ group = omega arith in
      let c : (channel_of w).0 ≡ channel = omega arith in
      not-both (sym e ∙ rw (eq-eqb (group_of w).0 group g, eq-eqb (channel_of w).0 channel c))

  -- the keys of the channel where the record of the packet with the word w is put back after the message m
  put_back : (t : List Record) (w : ℕ) (m : Midi1) → length t ≡ whole_table
      → on (set t (place_of w) (record_after (get_or t (place_of w) empty) m))
      ≡ cond (is_on group channel w) (keys_after (on t) m) (on t)
  put_back t w m l =
      let k = place_asked group channel in
      by_bool (is_on group channel w)
      (λ e. rw (e, ← own-place w e)
      (ap (λ (r : Record). r.keys) (get_or-set_same t k (record_after (get_or t k empty) m) empty (omega arith))))
      (λ e. rw e (ap (λ (r : Record). r.keys)
      (get_or-set_other t (place_of w) k (record_after (get_or t (place_of w) empty) m) empty (other_place w e))))

  -- after the call c at the words s with the table t the keys are what its message makes of them, if it accepted one
  abbrev Told : ℕ → List Record → List ℕ → Call (ℕ × List Record) → Type 0
  Told room t s c =
      on (left_of (room, t) c).1
      ≡ cond (accepted_on group channel (record { packet = s; call = c })) (keys_after (on t) (read1 (first s))) (on t)

  told : (room : ℕ) (t : List Record) (s : List ℕ) → Told room t s (within table_up (room, t) s)
  unfolding within
  told room t s =
      table-cases (λ (c : Call (List Record)). Told room t s (fit room c)) open_rule t s (λ _. refl) (λ full. record {
        refuses = λ n.
            let a = (screen voice2 p).answer in
            let x = refusal {T = ℕ × List Record} a (room, t) [] (λ _. refl) in
            rw (refused-fits room a t, x.0, x.3, lt-leb a taken_in (refuses-above open_rule voice2 p n));
        onward = λ f e.
            choose (Told room t s) (leb (length p) room) (λ _. rw ((standing s (has_words open_rule voice2 p f)).1, e))
            (λ _. refl);
        unsound = λ _ _ _. refl;
        takes = λ f e _ _. spoken full f e taken_in [] refl;
        sends = λ f e _ m _. spoken full f e sent (write2 (group_of w) (channel_of w) m) refl;
      })
    where
      p : List ℕ
      p = packet s

      w : ℕ
      w = first p

      spoken : eqb (length t) whole_table ≡ true → (screen voice2 p).answer ≡ goes_on → eqb (message_type w) voice1 ≡ true
          → (a : ℕ) (ws : List ℕ) → accepted a ≡ true
          → Told room t s
          (fit room (went a ws (set t (place_of (first s)) (record_after (get_or t (place_of (first s)) empty) (read1 w)))))
      spoken full f e a ws h =
          choose (Told room t s) (leb (length ws) room)
          (λ _. rw (h, (standing s (has_words open_rule voice2 p f)).1, e)
          (put_back t w (read1 w) (eqb-true (length t) whole_table full)))
          (λ _. refl)

  -- what the messages of some calls make of the keys k, and one call more
  abbrev keys_by : Keys → List (Made (ℕ × List Record)) → Keys
  keys_by k ms = after k (map event (messages_on group channel ms))

  one_more : (k l : Keys) (m : Made (ℕ × List Record)) (ms : List (Made (ℕ × List Record)))
      → l ≡ cond (accepted_on group channel m) (keys_after k (read1 (first m.packet))) k
      → keys_by l ms ≡ keys_by k (m ∷ ms)
  unfolding messages_on after
  one_more k l m ms e = by_bool (accepted_on group channel m) (λ h. rw (e, h)) (λ h. rw (e, h))

  -- so after a run they are what the messages of its calls make of them
  told-run : (ps : List (List ℕ)) (u : ℕ × List Record)
      → on (run (within table_up) u ps).left.1 ≡ keys_by (on u.1) (calls (within table_up) u ps)
  unfolding run calls messages_on after
  told-run [] u = refl
  told-run (p ∷ ps) u = go (within table_up u p) (told u.0 u.1 p) (λ v. told-run ps v)
    where
      go : (c : Call (ℕ × List Record)) → Told u.0 u.1 p c
          → ((v : ℕ × List Record)
          → on (run (within table_up) v ps).left.1 ≡ keys_by (on v.1) (calls (within table_up) v ps))
          → on (then_run p u c (λ v. run (within table_up) v ps)).left.1
          ≡ keys_by (on u.1) (record { packet = p; call = c } ∷ then_calls c (λ v. calls (within table_up) v ps))
      go (went a ws v) h ih =
          let m : Made (ℕ × List Record) = record { packet = p; call = went a ws v } in
          ih v ∙ one_more (on u.1) (on v.1) m (calls (within table_up) v ps) h
      go (stopped a) h ih = one_more (on u.1) (on u.1) (record { packet = p; call = stopped a }) [] h

  -- and each key is what they say of it
  runs : (room : ℕ) (t : List Record) (s : List ℕ) (key : ℕ) → key < 128
      → down (on (table_after (run_up room t s))) key ≡ said_of key (down (on t) key) (heard_on group channel room t s)
  unfolding heard_on
  runs room t s key h =
      rw (left-by-run room t s, told-run (cut s) (room, t))
      (all_say (on t) (map event (heard_on group channel room t s)) key h)

  called : (room : ℕ) (t : List Record) (s : List ℕ) (key : ℕ) → key < 128
      → down (on (table_after (one_up room t s))) key ≡ said_of key (down (on t) key) (heard_once group channel room t s)
  unfolding one_up heard_once messages_on after
  called room t s key h =
      let m : Made (ℕ × List Record) = record { packet = s; call = within table_up (room, t) s } in
      let l = on (left_of (room, t) m.call).1 in
      ap (λ (x : Keys). down x key) (one_more (on t) l m [] (told room t s))
      ∙ all_say (on t) (map event (heard_once group channel room t s)) key h

  -- in a fresh table no key is down
  each : (room : ℕ) (s : List ℕ) (key : ℕ) → key < 128
      → down (on (table_after (run_up room fresh s))) key ≡ pressed_by (heard_on group channel room fresh s) key
  each room s key h =
      runs room fresh s key h
      ∙ ap (λ (b : Bool). said_of key b (heard_on group channel room fresh s))
      (ap (λ (r : Record). down r.keys key) (all-empty whole_table (place_asked group channel)) ∙ empty_none key)

  asked : (room : ℕ) (s : List ℕ)
      → let pressed = pressed_by (heard_on group channel room fresh s) in
      keys_asked (table_after (run_up room fresh s)) group channel
      ≡ record { answer = answered; down = tally pressed 128; lowest = lowest_told (least pressed 128) }
  unfolding keys_asked keys_told
  asked room s =
      let t = table_after (run_up room fresh s) in
      let pressed = pressed_by (heard_on group channel room fresh s) in
      let l : length t ≡ whole_table =
      rw (left-by-run room fresh s) (stays-whole (cut s) room fresh (length-replicate whole_table empty)) in
      rw (
        eq-eqb (length t) whole_table l,
        le-leb group 15 hg,
        le-leb channel 15 hc,
        tally-ext (down (on t)) pressed 128 (each room s),
        least-ext (down (on t)) pressed 128 (each room s),
      )

pub proved-picture : Picture
unfolding one_up
proved-picture group channel hg hc =
    record {
      each = each group channel hg hc;
      asked = asked group channel hg hc;
      runs = runs group channel hg hc;
      called = called group channel hg hc;
      refused = λ room t s e.
          ap (λ (u : ℕ × List Record). keys_on group channel u.1)
          ((proved-refusals.after_up room t s).untouched (leb-false _ taken_in e)).1;
      others = λ room t s e.
          ap (λ (r : Record). r.keys)
          (proved-refusals.records room t s (place_asked group channel) (other_place group channel hg hc (first s) e));
    }

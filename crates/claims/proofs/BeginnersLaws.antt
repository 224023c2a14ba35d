-- The beginners' room: what is for it plays, and stays for it after going up and down; and playing leaves nothing to
-- remember. Assumes nothing.
use Prim.Native.Nat.{ℕ, ◌/◌, ◌%◌, ◌<◌}
use mathlib.Core.Path.{◌≡◌, refl, sym, ap, subst, ◌∙◌}
use mathlib.Core.Bool.{true, false}
use mathlib.Core.List.{List, [], ◌∷◌}
use native.Mathlib.Omega.{arith}
use lib.ListN.{length}
use lib.Dec.{eqb}
use borrow.Author.Tests.{eq-eqb, eqb-true}
use Rattle.ground.specs.Lists.{All}
use Rattle.ground.proofs.Cases.{by_bool, choose, not-both}
use Rattle.ump.specs.declared.Group.{Group}
use Rattle.ump.specs.declared.Channel.{Channel}
use Rattle.ump.specs.Word.{channel_of, group_of, message_type, place_of, status, voice1, voice2}
use Rattle.ump.specs.Packet.{cut, first, packet}
use Rattle.stream.specs.Call.{Call, left_of, sent_of, stopped, went}
use Rattle.stream.proofs.CallLaws.{refusal}
use Rattle.screen.specs.Screen.{beginners_controller, beginners_rule, for_beginners, goes_on, outside, screen_by}
use Rattle.screen.proofs.ScreenLaws.{for-room, not-for-room}
use Rattle.memory.specs.declared.Memory.{Memory}
use Rattle.memory.specs.Memory as Memory
use Rattle.channel.specs.declared.Record.{Record}
use Rattle.channel.specs.Record.{EmptyButMarks, sound, whole_table}
use Rattle.message.specs.Message.{Fits1, Midi1, Midi2, channel_pressure1, control_change1, note_off1, note_on1, part}
use Rattle.message.specs.Message.{pitch_bend1, poly_pressure1, program_change1, read1, write1}
use Rattle.message.proofs.MessageLaws.{place1, word1}
use Rattle.lift.specs.Lift.{control_of, controlled, lift}
use Rattle.lift.specs.Played.{record_after}
use Rattle.lift.proofs.LiftLaws.{IfSome, lift-upward, own-control, read1-fits}
use Rattle.lower.specs.Lower.{lower}
use Rattle.voice.specs.Packet.{call_by, packet_if}
use Rattle.table.specs.Table.{beginners_one_up, beginners_run_up, beginners_up, table_by}
use Rattle.table.proofs.KeptLaws.{Each, Keeps, calls-keep, one-keeps, run-keeps}
use Rattle.claims.specs.Beginners.{Beginners, Forgets, for_room}
use Rattle.claims.specs.RoundTrip.{Gated, StillPasses}
use Rattle.claims.proofs.PacketByPacket.{up-by-packets}
use Rattle.claims.proofs.RefusalLaws.{after_up, other-records, up-answer}
use Rattle.claims.proofs.RoomLaws.{up-roomy}
use Rattle.claims.proofs.RoundTrip.{marked-blank, proved-round-trip-gated}
use Rattle.claims.proofs.StepLaws.{table-cases}
use Rattle.claims.proofs.TakenBack.{lower-fits}

-- what holds of the six controllers holds of each that is one of them
listed : (P : ℕ → Type 0) (i : ℕ) → beginners_controller i ≡ true → P 1 → P 7 → P 64 → P 120 → P 121 → P 123 → P i
listed P i h a b c d e f =
    by_bool (eqb i 1) (λ k. subst P (sym (eqb-true i 1 k)) a)
    (λ k₁. by_bool (eqb i 7) (λ k. subst P (sym (eqb-true i 7 k)) b)
    (λ k₂. by_bool (eqb i 64) (λ k. subst P (sym (eqb-true i 64 k)) c)
    (λ k₃. by_bool (eqb i 120) (λ k. subst P (sym (eqb-true i 120 k)) d)
    (λ k₄. by_bool (eqb i 121) (λ k. subst P (sym (eqb-true i 121 k)) e)
    (λ k₅. by_bool (eqb i 123) (λ k. subst P (sym (eqb-true i 123 k)) f)
    (λ k₆. not-both (rw (k₁, k₂, k₃, k₄, k₅, k₆) at h)))))))

-- the messages that may play
abbrev Plays : Midi1 → Type 0
Plays (note_off1 n v) = Unit {0}
Plays (note_on1 n v) = Unit {0}
Plays (poly_pressure1 n v) = ⊥
Plays (control_change1 i v) = beginners_controller i ≡ true
Plays (program_change1 p) = ⊥
Plays (channel_pressure1 v) = ⊥
Plays (pitch_bend1 v) = Unit {0}

plays : (w : ℕ) → for_beginners w ≡ true → message_type w ≡ voice1 → Plays (read1 w)
unfolding read1 for_beginners
plays w h v =
    choose Plays (eqb (status w) 8) (λ _. tt)
    (λ _. choose Plays (eqb (status w) 9) (λ _. tt)
    (λ _. choose Plays (eqb (status w) 10) (λ e. not-both (rw (v, eqb-true (status w) 10 e) at h))
    (λ _. choose Plays (eqb (status w) 11) (λ e. rw (v, eqb-true (status w) 11 e) at h)
    (λ _. choose Plays (eqb (status w) 12) (λ e. not-both (rw (v, eqb-true (status w) 12 e) at h))
    (λ _. choose Plays (eqb (status w) 13) (λ e. not-both (rw (v, eqb-true (status w) 13 e) at h)) (λ _. tt))))))

-- written, they are for the room
for-written : (g : Group) (c : Channel) → g.0 < 16 → c.0 < 16 → (m : Midi1) → Fits1 m → Plays m
    → for_beginners (write1 g c m) ≡ true
unfolding for_beginners write1
for-written g c hg hc (note_off1 n v) f h =
    rw ((place1 g c hg hc (note_off1 n v) f).2, (word1 8 n v g c hg hc (omega arith) f.0 f.1).0)
for-written g c hg hc (note_on1 n v) f h =
    rw ((place1 g c hg hc (note_on1 n v) f).2, (word1 9 n v g c hg hc (omega arith) f.0 f.1).0)
for-written g c hg hc (poly_pressure1 n v) f h = absurd h
for-written g c hg hc (control_change1 i v) f h =
    let x = word1 11 i v g c hg hc (omega arith) f.0 f.1 in
    rw ((place1 g c hg hc (control_change1 i v) f).2, x.0, x.1) h
for-written g c hg hc (program_change1 p) f h = absurd h
for-written g c hg hc (channel_pressure1 v) f h = absurd h
for-written g c hg hc (pitch_bend1 v) f h =
    rw ((place1 g c hg hc (pitch_bend1 v) f).2, (word1 14 (v % 128) (v / 128) g c hg hc (omega arith) (omega arith) (omega arith)).0)

-- what is sent up of one, sent down again, may play
plays-again : (r : Memory) (m : Midi1) → Plays m → IfSome (λ (x : Midi2). All Plays (lower x)) (lift r m).sends
unfolding lift lower
plays-again r (note_off1 n v) h = (tt, tt)
plays-again r (note_on1 n v) h =
    choose (λ (x : Midi2). All Plays (lower x)) (eqb v 0) (λ _. (tt, tt)) (λ _. (tt, tt))
plays-again r (poly_pressure1 n v) h = absurd h
plays-again r (control_change1 i v) h =
    let own : part i ≡ false = listed (λ (k : ℕ). part k ≡ false) i h refl refl refl refl refl refl in
    rw ((own-control r i v own).0, own) (h, tt)
plays-again r (program_change1 p) h = absurd h
plays-again r (channel_pressure1 v) h = absurd h
plays-again r (pitch_bend1 v) h = (tt, tt)

both : {A : Type 0} (P Q R : A → Type 0) (xs : List A) → ((x : A) → P x → Q x → R x) → All P xs → All Q xs → All R xs
both P Q R [] f p q = tt
both P Q R (x ∷ xs) f p q = (f x p.0 q.0, both P Q R xs f p.1 q.1)

still : StillPasses for_room
still p r x h v ok says =
    let w = first p in
    let fits = lower-fits x (rw says at (lift-upward r.memory ok (read1 w) (read1-fits w))) in
    let again : All Plays (lower x) = rw says at (plays-again r.memory (read1 w) (plays w h v)) in
    both Fits1 Plays (λ (m : Midi1). for_room (write1 (group_of w) (channel_of w) m ∷ []) ≡ true) (lower x)
    (for-written (group_of w) (channel_of w) (omega arith) (omega arith)) fits again

-- the rule refuses what is not for the room, and does nothing else
abbrev Untouched : List Record → Call (List Record) → Type 0
Untouched t c = (sent_of c ≡ []) × (left_of t c ≡ t)

gate : Gated for_room beginners_up
unfolding table_by call_by packet_if
gate =
    record {
      as_before = λ t s l q. rw (for-room voice2 (packet s) q);
      held = λ t s l n.
          let no = not-for-room voice2 (packet s) n in
          table-cases (Untouched t) beginners_rule t s (λ _. (refl, refl)) (λ _. record {
            refuses = λ _. let z = refusal (screen_by beginners_rule voice2 (packet s)).answer t [] (λ _. refl) in (z.2, z.3);
            onward = λ f _. absurd (no f);
            unsound = λ f _ _. absurd (no f);
            takes = λ f _ _ _. absurd (no f);
            sends = λ f _ _ _ _. absurd (no f);
          });
    }

-- a memory that is empty but for its mark, and what a message that may play leaves of it
abbrev Blank : Memory → Type 0
Blank m = m ≡ Memory.with_mark Memory.empty m.coarse

plays-blank : (r : Memory) (m : Midi1) → Plays m → Blank r → Blank (lift r m).after
unfolding lift control_of controlled
plays-blank r (note_off1 n v) h b = b
plays-blank r (note_on1 n v) h b = b
plays-blank r (poly_pressure1 n v) h b = absurd h
plays-blank r (control_change1 i v) h b =
    let same : Memory.with_address_closed r ≡ r = ap Memory.with_address_closed b ∙ sym b in
    listed (λ (k : ℕ). Blank (controlled (control_of k) r k v).after) i h b b b b (subst Blank (sym same) b) b
plays-blank r (program_change1 p) h b = absurd h
plays-blank r (channel_pressure1 v) h b = absurd h
plays-blank r (pitch_bend1 v) h b = b

abbrev BlankAt : ℕ → Record → Type 0
BlankAt k r = Blank r.memory

kept : (k : ℕ) (r : Record) (s : List ℕ) → k ≡ place_of (first s)
    → (screen_by beginners_rule voice2 (packet s)).answer ≡ goes_on
    → eqb (message_type (first (packet s))) voice1 ≡ true
    → sound r ≡ true → BlankAt k r → BlankAt k (record_after r (read1 (first (packet s))))
kept k r s _ f v ok b =
    let p = packet s in
    by_bool (for_beginners (first p))
    (λ q. plays-blank r.memory (read1 (first p)) (plays (first p) q (eqb-true (message_type (first p)) voice1 v)) b)
    (λ n. absurd (not-for-room voice2 p n f))

forgets : (c : Call (ℕ × List Record)) → Keeps BlankAt (λ _. Unit {0}) c → Forgets c
forgets (went a ws u) d = d
forgets (stopped a) d = tt

blank-start : (t : List Record) → EmptyButMarks t → Each BlankAt t
blank-start t m k = ap (λ (r : Record). r.memory) (m.each k)

pub proved-beginners : Beginners
unfolding beginners_one_up beginners_run_up outside
proved-beginners =
    record {
      answers = up-answer beginners_rule;
      after = after_up beginners_rule;
      records = other-records beginners_rule;
      gate = gate;
      packets = up-by-packets beginners_rule;
      runs = λ room t s l. rw (eq-eqb (length t) whole_table l);
      roomy = up-roomy beginners_rule;
      packets_forget = λ t m room s.
          calls-keep beginners_rule BlankAt (λ _. Unit {0}) tt tt tt (λ _ _ _ _. tt) kept Forgets forgets (cut s) (room, t)
          (blank-start t m);
      call_forgets = λ t m room s.
          one-keeps beginners_rule BlankAt (λ _. Unit {0}) tt tt tt (λ _ _ _ _. tt) kept room t s (blank-start t m);
      run_forgets = λ t m room s.
          (run-keeps beginners_rule BlankAt (λ _. Unit {0}) tt tt tt (λ _ _ _ _. tt) kept tt room t s (blank-start t m)).0;
      returns = λ t m. proved-round-trip-gated for_room beginners_up gate still t (marked-blank t m);
    }

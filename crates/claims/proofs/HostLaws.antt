-- One host under one owner list: its fence is the rule of a gate, up and down, so what is known of gates holds of it.
-- Assumes nothing.
use Prim.Native.Nat.{ℕ}
use mathlib.Core.Path.{◌≡◌, refl, sym, ap, ◌∙◌}
use mathlib.Core.Bool.{Bool, true, false, true≢false, not, ◌&&◌}
use mathlib.Core.List.{List, [], ◌∷◌}
use native.Mathlib.Omega.{arith}
use lib.ListN.{get_or, length}
use lib.Dec.{eqb, leb, ltb}
use borrow.Author.Tests.{eq-eqb, leb-false, leb-true}
use Rattle.ground.specs.Lists.{All}
use Rattle.ground.proofs.Cases.{by_bool}
use Rattle.ump.specs.declared.Group.{Group}
use Rattle.ump.specs.Word.{channel_of, group_of, message_type, voice1, voice2}
use Rattle.ump.specs.Packet.{first, packet}
use Rattle.ump.proofs.PacketLaws.{at_none}
use Rattle.stream.specs.Call.{Call, answer_of, left_of, sent_of, within}
use Rattle.stream.proofs.CallLaws.{refusal}
use Rattle.screen.specs.Screen.{outside, screen_by}
use Rattle.screen.proofs.ScreenLaws.{behind-fence, outside-fence}
use Rattle.channel.specs.declared.Record.{Record}
use Rattle.channel.specs.Record.{empty, sound, whole_table}
use Rattle.message.specs.Message.{Midi1, first2, read1, write2}
use Rattle.message.proofs.MessageLaws.{place1, place2}
use Rattle.lift.proofs.LiftLaws.{lift-upward, read1-fits, upward-fits}
use Rattle.lower.specs.Lower.{lower}
use Rattle.voice.specs.Packet.{call_by, call_down, call_down_by, packet_down_by, packet_if, run_down_by}
use Rattle.table.specs.Table.{table_by, table_up}
use Rattle.question.specs.Question.{in_range, keys_told, place_asked}
use Rattle.mark.specs.Mark.{mark_answer}
use Rattle.handover.specs.Handover.{give_answer, owners_after}
use Rattle.handover.proofs.HandoverLaws.{given-empty, other-owner, others-stay, table-length, table_stays}
use Rattle.hosts.specs.Hosts.{groups_below, host_down, host_keys_asked, host_keys_told, host_mark_answer, host_rule, host_run_up, host_up, owns}
use Rattle.hosts.proofs.HostLaws.{fence}
use Rattle.claims.specs.RoundTrip.{Gated, GatedDown, StillPasses}
use Rattle.stream.specs.Cases.{numbered}
use Rattle.claims.specs.TwoHosts.{ChangeOfHands, OneHost, TwoHosts, cases_give, cases_host_down, cases_host_mark}
use Rattle.claims.specs.TwoHosts.{cases_host_up, cases_named, foreign}
use Rattle.claims.proofs.ApartLaws.{proved-apart}
use Rattle.claims.proofs.PacketByPacket.{down-by-packets, up-by-packets}
use Rattle.claims.proofs.RefusalLaws.{after_down, after_up, down-answer, other-records, up-answer}
use Rattle.claims.proofs.RoomLaws.{down-roomy, up-roomy}
use Rattle.claims.proofs.RoundTrip.{marked-blank, proved-round-trip-fenced}
use Rattle.claims.proofs.StepLaws.{table-cases}
use Rattle.stream.proofs.CutLaws.{standing}
use Rattle.claims.proofs.TakenBack.{lower-fits}

module _ (h : ℕ) (o : List ℕ) where
  abbrev passes : List ℕ → Bool
  passes p = not (foreign h o p)

  -- what is not foreign lies inside, and what is lies outside
  inside : (p : List ℕ) → passes p ≡ true → outside (host_rule h o) (first p) ≡ false
  inside p e = fence h o (first p) ∙ by_bool (foreign h o p) (λ f. absurd (true≢false (sym e ∙ ap not f))) (λ f. f)

  not-inside : (p : List ℕ) → passes p ≡ false → outside (host_rule h o) (first p) ≡ true
  not-inside p e = fence h o (first p) ∙ by_bool (foreign h o p) (λ f. f) (λ f. absurd (true≢false (sym (ap not f) ∙ e)))

  -- inside the fence a call is one without a rule, up and down
  as_before : (t : List Record) (s : List ℕ) → outside (host_rule h o) (first (packet s)) ≡ false
      → host_up h o t s ≡ table_up t s
  unfolding table_by call_by packet_if host_rule
  as_before t s e = rw (behind-fence (groups_below h o 16) voice2 (packet s) e)

  falls : (q : List ℕ) → outside (host_rule h o) (first q) ≡ false → call_down_by (host_rule h o) tt q ≡ call_down tt q
  unfolding call_down_by packet_down_by host_rule outside
  falls q e =
      by_bool (leb 1 (length (packet q)))
      (λ l. let x = standing q (leb-true 1 (length (packet q)) l) in
      rw (behind-fence (groups_below h o 16) voice1 (packet q) (rw x.1 at e)))
      (λ l. rw (at_none (packet q) (omega (arith, leb-false 1 (length (packet q)) l)))
      (rw (behind-fence (groups_below h o 16) voice1 [] refl)))

  abbrev Untouched : List Record → Call (List Record) → Type 0
  Untouched t c = (sent_of c ≡ []) × (left_of t c ≡ t)

  gate : Gated passes (host_up h o)
  gate =
      record {
        as_before = λ t s l q. as_before t s (inside (packet s) q);
        held = λ t s l n.
            let no = outside-fence (host_rule h o) voice2 (packet s) (not-inside (packet s) n) in
            table-cases (Untouched t) (host_rule h o) t s (λ _. (refl, refl)) (λ _. record {
              refuses = λ _.
                  let z = refusal (screen_by (host_rule h o) voice2 (packet s)).answer t [] (λ _. refl) in (z.2, z.3);
              onward = λ f _. absurd (no f);
              unsound = λ f _ _. absurd (no f);
              takes = λ f _ _ _. absurd (no f);
              sends = λ f _ _ _ _. absurd (no f);
            });
      }

  -- a voice message that passes is of the host's own group
  own-group : (p : List ℕ) → passes p ≡ true → message_type (first p) ≡ voice1 → owns h o (group_of (first p)).0 ≡ true
  own-group p q v =
      let e : not (not (owns h o (group_of (first p)).0)) ≡ true = rw v at q in
      by_bool (owns h o (group_of (first p)).0) (λ b. b) (λ b. absurd (true≢false (sym e ∙ ap (λ (x : Bool). not (not x)) b)))

  -- and so is all that becomes of it
  still : StillPasses passes
  still p r x q v ok says =
      let w = first p in
      let g = group_of w in
      let c = channel_of w in
      each (lower x) (lower-fits x (rw says at (lift-upward r.memory ok (read1 w) (read1-fits w)))) (λ m f.
      let y = place1 g c (omega arith) (omega arith) m f in
      rw (y.2, ap (λ (z : Group). z.0) y.0, own-group p q v))
    where
      each : {P Q : Midi1 → Type 0} (ms : List Midi1) → All P ms → ((m : Midi1) → P m → Q m) → All Q ms
      each [] a f = tt
      each (m ∷ ms) a f = (f m a.0, each ms a.1 f)

  down-gate : GatedDown passes (host_rule h o)
  down-gate =
      record {
        onward = λ p q. falls p (inside p q);
        spoken = λ p r x q v ok says.
            let w = first p in
            let g = group_of w in
            let c = channel_of w in
            let up = rw says at (lift-upward r.memory ok (read1 w) (read1-fits w)) in
            let y = place2 g c (omega arith) (omega arith) x (upward-fits x up) in
            falls (write2 g c x)
            (fence h o (first2 g c x) ∙ rw (y.2, ap (λ (z : Group). z.0) y.0, own-group p q v));
      }

  keys-answer : (t : List Record) (g c : ℕ) → (host_keys_asked h o t g c).answer ≡ numbered (cases_named h o t g c)
  unfolding host_keys_asked host_keys_told keys_told
  keys-answer t g c =
      by_bool (eqb (length t) whole_table)
      (λ w. by_bool (in_range g c) (λ i. by_bool (owns h o g) (λ m. rw (w, i, m)) (λ m. rw (w, i, m))) (λ i. rw (w, i)))
      (λ w. rw w)

  mark-answer : (t : List Record) (g c : ℕ) → host_mark_answer h o t g c ≡ numbered (cases_host_mark h o t g c)
  unfolding host_mark_answer mark_answer
  mark-answer t g c =
      by_bool (eqb (length t) whole_table)
      (λ w. by_bool (in_range g c)
      (λ i. by_bool (owns h o g)
      (λ m. by_bool (sound (get_or t (place_asked g c) empty)) (λ k. rw (w, i, m, k)) (λ k. rw (w, i, m, k)))
      (λ m. rw (w, i, m))) (λ i. rw (w, i)))
      (λ w. rw w)

  up-said : (room : ℕ) (t : List Record) (s : List ℕ)
      → answer_of (within (host_up h o) (room, t) s) ≡ numbered (cases_host_up h o room t s)
  unfolding host_rule
  up-said room t s = rw (fence h o (first (packet s))) at (up-answer (host_rule h o) room t s)

  down-said : (room : ℕ) (s : List ℕ)
      → answer_of (within (host_down h o) (room, tt) s) ≡ numbered (cases_host_down h o room s)
  unfolding host_rule
  down-said room s = rw (fence h o (first (packet s))) at (down-answer (host_rule h o) room s)

  one-host : OneHost h o
  unfolding host_run_up run_down_by
  one-host =
      record {
        up = up-said;
        down = down-said;
        after_up = after_up (host_rule h o);
        after_down = after_down (host_rule h o);
        records = other-records (host_rule h o);
        question = keys-answer;
        mark = mark-answer;
        gate = gate;
        up_packets = up-by-packets (host_rule h o);
        down_packets = down-by-packets (host_rule h o);
        up_runs = λ room t s l. rw (eq-eqb (length t) whole_table l);
        down_runs = λ room s. refl;
        up_room = up-roomy (host_rule h o);
        down_room = down-roomy (host_rule h o);
        returns = λ t m.
            proved-round-trip-fenced passes (host_up h o) (host_rule h o) gate still down-gate t (marked-blank t m);
      }

give-answer : (o : List ℕ) (t : List Record) (g k : ℕ) → give_answer o (length t) g k ≡ numbered (cases_give o t g k)
unfolding give_answer
give-answer o t g k =
    by_bool (eqb (length t) whole_table)
    (λ w. by_bool (leb g 15 && ltb g (length o) && leb k 2) (λ c. rw (w, c)) (λ c. rw (w, c))) (λ w. rw w)

hands : (o : List ℕ) (t : List Record) (g k : ℕ) → ChangeOfHands o t g k
unfolding owners_after
hands o t g k =
    record {
      fresh = given-empty o t g k;
      others = others-stay o t g k;
      owner = other-owner o (length t) g k;
      table = table-length o t g k;
      stays = λ c. (table_stays o t g k c, rw c);
    }

pub proved-two-hosts : TwoHosts
proved-two-hosts = record { apart = proved-apart; hands = hands; giving = give-answer; each = one-host }

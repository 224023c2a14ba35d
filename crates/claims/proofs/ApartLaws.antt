-- Two hosts stand apart: an event of a host touches records of its own groups alone, and sees nothing of any other.
-- Assumes nothing.
use Prim.Native.Nat.{ℕ, zero, suc, ◌-◌, ◌/◌, ◌≤◌}
use mathlib.Core.Path.{◌≡◌, refl, sym, ap, subst, ◌∙◌}
use mathlib.Core.Bool.{Bool, true, false, true≢false, cond, not, ◌&&◌}
use mathlib.Core.List.{List, [], ◌∷◌}
use native.Mathlib.Omega.{arith}
use lib.ListN.{get_or, length, length-set, set}
use lib.Seq.{get_or-set_other}
use lib.Dec.{eqb, leb}
use borrow.Author.Tests.{eq-eqb, eqb-false, eqb-true, leb-true, ne_eqb}
use Rattle.ground.proofs.Bools.{and_right}
use Rattle.ground.proofs.Cases.{by_bool, choose, not-both}
use Rattle.ump.specs.Word.{group_of, message_type, place_of, voice1, voice2}
use Rattle.ump.specs.Packet.{cut, first, packet}
use Rattle.stream.specs.Answers.{no_room, sent, stops_run}
use Rattle.stream.specs.Call.{Call, fit, refused, stopped, went, within}
use Rattle.stream.specs.Run.{Ran, called, run, then_run}
use Rattle.stream.proofs.RunLaws.{does-left, run-does, within-does}
use Rattle.screen.specs.declared.Rule.{Rule}
use Rattle.screen.specs.Screen.{goes_on, screen_by}
use Rattle.screen.proofs.ScreenLaws.{passed}
use Rattle.channel.specs.declared.Record.{Record}
use Rattle.channel.specs.Record.{empty, sound, whole_table}
use Rattle.message.specs.Message.{read1}
use Rattle.lift.specs.Played.{record_after}
use Rattle.voice.specs.Packet.{call_by}
use Rattle.table.specs.Table.{stored, table_after, table_by}
use Rattle.table.proofs.KeptLaws.{one-keeps, run-keeps}
use Rattle.question.specs.Question.{in_range, keys_told, place_asked}
use Rattle.mark.specs.Mark.{mark_answer, named, record_marked, record_of, table_marked}
use Rattle.handover.specs.Handover.{changes_hands, is_host, owners_after, table_given}
use Rattle.handover.proofs.HandoverLaws.{given-empty, other-owner, others-stay, table-length, table_stays}
use Rattle.hosts.specs.Hosts.{fenced, host_keys_asked, host_keys_told, host_mark_answer, host_one_up, host_rule, host_run_up}
use Rattle.hosts.specs.Hosts.{host_table_marked, owns}
use Rattle.hosts.proofs.HostLaws.{fence}
use Rattle.claims.specs.TwoHosts.{Agree, Apart, Box, Event, answered, asks, box_after, box_at, call_down}
use Rattle.claims.specs.TwoHosts.{call_up, counting, counts, gives, is_by, marks, run_down, run_up, seen, sees, shown}
use Rattle.claims.proofs.StepLaws.{has_words, table-cases, up-length}
use Rattle.stream.proofs.CutLaws.{standing}

-- ---- owners

-- a group has one owner
one-owner : (h k : ℕ) (o : List ℕ) (g : ℕ) → (k ≡ h → ⊥) → owns h o g ≡ true → owns k o g ≡ false
one-owner h k o g n e =
    let x = eqb-true (get_or o g 0) h (and_right (is_host h) (eqb (get_or o g 0) h) e) in
    by_bool (is_host k) (λ i. rw (i, x) (ne_eqb h k (λ z. n (sym z)))) (λ i. rw i)

-- the group of a packet's place in the table, and of a place that is asked for
place-group : (w : ℕ) → place_of w / 16 ≡ (group_of w).0
place-group w = omega arith

asked-group : (g c : ℕ) → in_range g c ≡ true → place_asked g c / 16 ≡ g
asked-group g c e =
    let l = leb-at c (and_right (leb g 15) (leb c 15) e) in omega (arith, l)
  where
    leb-at : (c : ℕ) → leb c 15 ≡ true → c ≤ 15
    leb-at c e = leb-true c 15 e

-- a voice message that a host's fence lets pass is of a group that the host owns
passed-owned : (h : ℕ) (o s : List ℕ) → (screen_by (host_rule h o) voice2 (packet s)).answer ≡ goes_on
    → eqb (message_type (first (packet s))) voice1 ≡ true → owns h o (place_of (first s) / 16) ≡ true
passed-owned h o s f v =
    let p = packet s in
    let w = first p in
    let x = standing s (has_words (host_rule h o) voice2 p f) in
    let e = sym (fence h o w) ∙ (passed (host_rule h o) voice2 p f).inside in
    let t = eqb-true (message_type w) voice1 v in
    let m : not (owns h o (group_of w).0) ≡ false = rw t at e in
    rw (x.1, place-group w) (by_bool (owns h o (group_of w).0) (λ b. b) (λ b. absurd (true≢false (sym (ap not b) ∙ m))))

-- ---- the other host

module _ (k : ℕ) (o : List ℕ) where
  abbrev rule : Rule
  rule = host_rule k o

  -- outside its groups a record stays
  abbrev Stays : List Record → ℕ → Record → Type 0
  Stays t j x = owns k o (j / 16) ≡ false → x ≡ get_or t j empty

  kept : (t : List Record) (j : ℕ) (r : Record) (s : List ℕ) → j ≡ place_of (first s)
      → (screen_by rule voice2 (packet s)).answer ≡ goes_on
      → eqb (message_type (first (packet s))) voice1 ≡ true
      → sound r ≡ true → Stays t j r → Stays t j (record_after r (read1 (first (packet s))))
  kept t j r s e f v ok h n =
      absurd (true≢false (sym (passed-owned k o s f v) ∙ ap (λ (i : ℕ). owns k o (i / 16)) (sym e) ∙ n))

  one-stays : (room : ℕ) (t : List Record) (s : List ℕ) (j : ℕ) → owns k o (j / 16) ≡ false
      → get_or (table_after (host_one_up k o room t s)) j empty ≡ get_or t j empty
  unfolding host_one_up
  one-stays room t s j =
      one-keeps rule (Stays t) (λ _. Unit {0}) tt tt tt (λ _ _ _ _. tt) (kept t) room t s (λ i _. refl) j

  run-stays : (room : ℕ) (t : List Record) (s : List ℕ) (j : ℕ) → owns k o (j / 16) ≡ false
      → get_or (table_after (host_run_up k o room t s)) j empty ≡ get_or t j empty
  unfolding host_run_up
  run-stays room t s j =
      (run-keeps rule (Stays t) (λ _. Unit {0}) tt tt tt (λ _ _ _ _. tt) (kept t) tt room t s (λ i _. refl)).0 j

  one-length : (room : ℕ) (t : List Record) (s : List ℕ) → length (table_after (host_one_up k o room t s)) ≡ length t
  unfolding host_one_up
  one-length room t s =
      does-left (λ (u : ℕ × List Record). length u.1 ≡ length t) (λ _. Unit {0}) (room, t)
      (within (table_by rule false) (room, t) s) refl
      (within-does (table_by rule false) (λ (v : List Record). length v ≡ length t) (λ _. Unit {0}) tt (room, t) s
      (up-length rule t s))

  run_length : (room : ℕ) (t : List Record) (s : List ℕ) → length (table_after (host_run_up k o room t s)) ≡ length t
  unfolding host_run_up
  run_length room t s =
      choose (λ (r : Ran (ℕ × List Record)). length (table_after r) ≡ length t) (eqb (length t) whole_table)
      (λ _. (run-does (within (table_by rule false)) (λ (u : ℕ × List Record). length u.1 ≡ length t) (λ _. Unit {0}) tt
      (λ u p l. within-does (table_by rule false) (λ (v : List Record). length v ≡ length t) (λ _. Unit {0}) tt u p
      (rw l at (up-length rule u.1 p)))
      (cut s) (room, t) refl).0)
      (λ _. refl)

  mark-stays : (t : List Record) (g c v j : ℕ) → owns k o (j / 16) ≡ false
      → get_or (host_table_marked k o t g c v) j empty ≡ get_or t j empty
  unfolding host_table_marked table_marked
  mark-stays t g c v j n =
      let Same : List Record → Type 0 = λ (u : List Record). get_or u j empty ≡ get_or t j empty in
      choose Same (fenced k o (length t) g c) (λ _. refl)
      (λ f. choose Same (named (length t) g c)
      (λ e.
      let own : not (owns k o g) ≡ false = rw e at f in
      get_or-set_other t (place_asked g c) j (record_marked (record_of t g c) v) empty
      (λ z.
      let q = asked-group g c (and_right (eqb (length t) whole_table) (in_range g c) e) in
      let m : owns k o g ≡ false = rw (z, q) at n in
      true≢false (sym (ap not m) ∙ own)))
      (λ _. refl))

  mark-length : (t : List Record) (g c v : ℕ) → length (host_table_marked k o t g c v) ≡ length t
  unfolding host_table_marked table_marked
  mark-length t g c v =
      choose (λ (u : List Record). length u ≡ length t) (fenced k o (length t) g c) (λ _. refl)
      (λ _. choose (λ (u : List Record). length u ≡ length t) (named (length t) g c)
      (λ _. length-set t (place_asked g c) (record_marked (record_of t g c) v)) (λ _. refl))

-- ---- the host's own events

-- two calls that answer and send the same, and leave what is related
abbrev SameCall : {T : Type 0} → (T → T → Type 0) → Call T → Call T → Type 0
SameCall R (went a ws t) (went b vs u) = (a ≡ b) × (ws ≡ vs) × R t u
SameCall R (went a ws t) (stopped b) = ⊥
SameCall R (stopped a) (went b vs u) = ⊥
SameCall R (stopped a) (stopped b) = a ≡ b

pub record SameRan {T : Type 0} (R : T → T → Type 0) (r q : Ran T) : Type 0 where
  pub answers : r.answer ≡ q.answer
  pub reads : r.read ≡ q.read
  pub words : r.sends ≡ q.sends
  pub lefts : R r.left q.left

module _ {T : Type 0} (step : T → List ℕ → Call T) (R : T → T → Type 0)
    (same : (t u : T) → R t u → (p : List ℕ) → SameCall R (step t p) (step u p)) where
  run-same : (ps : List (List ℕ)) (t u : T) → R t u → SameRan R (run step t ps) (run step u ps)
  unfolding run
  run-same [] t u r = record { answers = refl; reads = refl; words = refl; lefts = r }
  run-same (p ∷ ps) t u r = go (step t p) (step u p) (same t u r p) (λ v w. run-same ps v w)
    where
      go : (c d : Call T) → SameCall R c d
          → ((v w : T) → R v w → SameRan R (run step v ps) (run step w ps))
          → SameRan R (then_run p t c (λ v. run step v ps)) (then_run p u d (λ v. run step v ps))
      go (went a ws v) (went b vs w) e ih =
          let x = ih v w e.2 in
          record {
            answers = x.answers;
            reads = rw x.reads;
            words = rw (e.1, x.words);
            lefts = x.lefts;
          }
      go (went a ws v) (stopped b) e ih = absurd e
      go (stopped a) (went b vs w) e ih = absurd e
      go (stopped a) (stopped b) e ih = record { answers = e; reads = refl; words = refl; lefts = r }

-- with the room
abbrev Roomed : {T : Type 0} → (T → T → Type 0) → ℕ × T → ℕ × T → Type 0
Roomed R x y = (x.0 ≡ y.0) × R x.1 y.1

same-fit : {T : Type 0} (R : T → T → Type 0) (m : ℕ) (c d : Call T) → SameCall R c d
    → SameCall (Roomed R) (fit m c) (fit m d)
same-fit R m (went a ws t) (went b vs u) e =
    rw (e.0, e.1)
    (choose₂ (leb (length vs) m) (refl, refl, (refl, e.2)) refl)
  where
    choose₂ : (x : Bool) → SameCall (Roomed R) (went b vs (m - length vs, t)) (went b vs (m - length vs, u))
        → no_room ≡ no_room
        → SameCall (Roomed R) (cond x (went b vs (m - length vs, t)) (stopped no_room)) (cond x (went b vs (m - length vs, u)) (stopped no_room))
    choose₂ true p q = p
    choose₂ false p q = q
same-fit R m (went a ws t) (stopped b) e = absurd e
same-fit R m (stopped a) (went b vs u) e = absurd e
same-fit R m (stopped a) (stopped b) e = e

-- the same record, stored into both of two lists that agree at a place
set-agree : (t u : List Record) (k j : ℕ) (r : Record) → length t ≡ length u → get_or t j empty ≡ get_or u j empty
    → get_or (set t k r) j empty ≡ get_or (set u k r) j empty
set-agree [] [] k j r l e = e
set-agree [] (y ∷ u) k j r l e = absurd (omega (arith, l))
set-agree (x ∷ t) [] k j r l e = absurd (omega (arith, l))
set-agree (x ∷ t) (y ∷ u) zero zero r l e = refl
set-agree (x ∷ t) (y ∷ u) zero (suc j) r l e = e
set-agree (x ∷ t) (y ∷ u) (suc k) zero r l e = e
set-agree (x ∷ t) (y ∷ u) (suc k) (suc j) r l e = set-agree t u k j r (omega (arith, l)) e

module _ (h : ℕ) (o : List ℕ) where
  abbrev fencing : Rule
  fencing = host_rule h o

  abbrev step : List Record → List ℕ → Call (List Record)
  step = table_by fencing false

  -- tables that agree on the host's groups
  abbrev Same : List Record → List Record → Type 0
  Same t u = (length t ≡ length u) × ((k : ℕ) → owns h o (k / 16) ≡ true → get_or t k empty ≡ get_or u k empty)

  refused-call : (t : List Record) (s : List ℕ) → length t ≡ whole_table
      → ((screen_by fencing voice2 (packet s)).answer ≡ goes_on → ⊥)
      → step t s ≡ refused (screen_by fencing voice2 (packet s)).answer t
  refused-call t s l n =
      table-cases (λ (c : Call (List Record)). c ≡ refused (screen_by fencing voice2 (packet s)).answer t) fencing t s
      (λ e. absurd (true≢false (sym (eq-eqb (length t) whole_table l) ∙ e))) (λ _. record {
        refuses = λ _. refl;
        onward = λ f _. absurd (n f);
        unsound = λ f _ _. absurd (n f);
        takes = λ f _ _ _. absurd (n f);
        sends = λ f _ _ _ _. absurd (n f);
      })

  onward-call : (t : List Record) (s : List ℕ) → length t ≡ whole_table
      → (screen_by fencing voice2 (packet s)).answer ≡ goes_on → eqb (message_type (first (packet s))) voice1 ≡ false
      → step t s ≡ went sent (packet s) t
  onward-call t s l f n =
      table-cases (λ (c : Call (List Record)). c ≡ went sent (packet s) t) fencing t s
      (λ e. absurd (true≢false (sym (eq-eqb (length t) whole_table l) ∙ e))) (λ _. record {
        refuses = λ z. absurd (z f);
        onward = λ _ _. refl;
        unsound = λ _ v _. absurd (true≢false (sym v ∙ n));
        takes = λ _ v _ _. absurd (true≢false (sym v ∙ n));
        sends = λ _ v _ _ _. absurd (true≢false (sym v ∙ n));
      })

  same-refused : (a : ℕ) (t u : List Record) → Same t u → SameCall Same (refused a t) (refused a u)
  unfolding refused
  same-refused a t u r = go (stops_run a)
    where
      go : (b : Bool) → SameCall Same (cond b (stopped a) (went a [] t)) (cond b (stopped a) (went a [] u))
      go true = refl
      go false = (refl, refl, r)

  same-stored : (t u : List Record) (k : ℕ) (c : Call Record) → Same t u → SameCall Same (stored t k c) (stored u k c)
  same-stored t u k (went a ws r) e = (
    refl,
    refl,
    (length-set t k r ∙ e.0 ∙ sym (length-set u k r), λ j own. set-agree t u k j r e.0 (e.1 j own)),
  )
  same-stored t u k (stopped a) e = refl

  same_step : (t u : List Record) → Same t u → (s : List ℕ) → SameCall Same (step t s) (step u s)
  unfolding table_by
  same_step t u r s =
      by_bool (eqb (length t) whole_table) (λ e. full (eqb-true (length t) whole_table e))
      (λ e. rw (e, ap (λ (n : ℕ). eqb n whole_table) (sym r.0) ∙ e) refl)
    where
      p : List ℕ
      p = packet s

      k : ℕ
      k = place_of (first s)

      full : length t ≡ whole_table → SameCall Same (step t s) (step u s)
      full l =
          let m = sym r.0 ∙ l in
          by_bool (eqb (screen_by fencing voice2 p).answer goes_on)
          (λ a. let f = eqb-true (screen_by fencing voice2 p).answer goes_on a in
          by_bool (eqb (message_type (first p)) voice1)
          (λ v. let own = r.1 k (passed-owned h o s f v) in
          rw (eq-eqb (length t) whole_table l, eq-eqb (length u) whole_table m, own)
          (same-stored t u k (call_by fencing false (get_or u k empty) s) r))
          (λ v. rw (onward-call t s l f v, onward-call u s m f v) (refl, refl, r)))
          (λ a. let n = eqb-false (screen_by fencing voice2 p).answer goes_on a in
          rw (refused-call t s l n, refused-call u s m n) (same-refused (screen_by fencing voice2 p).answer t u r))

  abbrev Both : ℕ × List Record → ℕ × List Record → Type 0
  Both = Roomed Same

  same-within : (x y : ℕ × List Record) → Both x y → (s : List ℕ) → SameCall Both (within step x s) (within step y s)
  unfolding within
  same-within x y e s =
      subst (λ (n : ℕ). SameCall Both (fit x.0 (step x.1 s)) (fit n (step y.1 s))) e.0
      (same-fit Same x.0 (step x.1 s) (step y.1 s) (same_step x.1 y.1 e.1 s))

  same-one : (room : ℕ) (t u : List Record) → Same t u → (s : List ℕ)
      → SameRan Both (host_one_up h o room t s) (host_one_up h o room u s)
  unfolding host_one_up
  same-one room t u r s =
      go (within step (room, t) s) (within step (room, u) s) (same-within (room, t) (room, u) (refl, r) s)
    where
      go : (c d : Call (ℕ × List Record)) → SameCall Both c d
          → SameRan Both (called (packet s) (room, t) c) (called (packet s) (room, u) d)
      go (went a ws v) (went b vs w) e = record { answers = e.0; reads = refl; words = e.1; lefts = e.2 }
      go (went a ws v) (stopped b) e = absurd e
      go (stopped a) (went b vs w) e = absurd e
      go (stopped a) (stopped b) e = record { answers = e; reads = refl; words = refl; lefts = (refl, r) }

  same-run : (room : ℕ) (t u : List Record) → Same t u → (s : List ℕ)
      → SameRan Both (host_run_up h o room t s) (host_run_up h o room u s)
  unfolding host_run_up
  same-run room t u r s =
      by_bool (eqb (length t) whole_table)
      (λ e. rw (e, ap (λ (n : ℕ). eqb n whole_table) (sym r.0) ∙ e)
      (run-same (within step) Both same-within (cut s) (room, t) (room, u) (refl, r)))
      (λ e. rw (e, ap (λ (n : ℕ). eqb n whole_table) (sym r.0) ∙ e)
      (record { answers = refl; reads = refl; words = refl; lefts = (refl, r) }))

  -- a record that is named and the host's own is the same in both
  own-record : (t u : List Record) (g c : ℕ) → Same t u → named (length t) g c ≡ true
      → fenced h o (length t) g c ≡ false → record_of t g c ≡ record_of u g c
  own-record t u g c r e f =
      let own : not (owns h o g) ≡ false = rw e at f in
      let q = asked-group g c (and_right (eqb (length t) whole_table) (in_range g c) e) in
      r.1 (place_asked g c)
      (rw q (by_bool (owns h o g) (λ b. b) (λ b. absurd (true≢false (sym (ap not b) ∙ own)))))

  unnamed_told : (n g c : ℕ) (r q : Record) → named n g c ≡ false → keys_told n g c r ≡ keys_told n g c q
  unfolding keys_told
  unnamed_told n g c r q e =
      by_bool (eqb n whole_table) (λ w. let i : in_range g c ≡ false = rw w at e in rw (w, i)) (λ w. rw w)

  same_keys : (t u : List Record) (g c : ℕ) → Same t u → host_keys_asked h o t g c ≡ host_keys_asked h o u g c
  unfolding host_keys_asked host_keys_told
  same_keys t u g c r =
      rw (← r.0)
      (by_bool (fenced h o (length t) g c) (λ f. rw f)
      (λ f. rw f
      (by_bool (named (length t) g c) (λ e. ap (keys_told (length t) g c) (own-record t u g c r e f))
      (λ e. unnamed_told (length t) g c (record_of t g c) (record_of u g c) e))))

  same-mark : (t u : List Record) (g c v : ℕ) → Same t u
      → (host_mark_answer h o t g c ≡ host_mark_answer h o u g c) × Same (host_table_marked h o t g c v) (host_table_marked h o u g c v)
  unfolding host_mark_answer host_table_marked mark_answer table_marked
  same-mark t u g c v r =
      rw (← r.0)
      (by_bool (fenced h o (length t) g c) (λ f. rw f (refl, r))
      (λ f. rw f
      (by_bool (named (length t) g c)
      (λ e. rw (e, own-record t u g c r e f)
      (refl, (same-stored t u (place_asked g c) (went 0 [] (record_marked (record_of u g c) v)) r).2))
      (λ e. rw e (refl, r)))))

-- ---- histories

module _ (h : ℕ) where
  -- Agree, said of the tables
  tables : (b c : Box) → Agree h b c → Same h b.owners b.table c.table
  tables b c a = (a.same_length, a.same_records)

  agreed : (o : List ℕ) (t u : List Record) → Same h o t u
      → Agree h (record { owners = o; table = t }) (record { owners = o; table = u })
  agreed o t u r = record { same_owners = refl; same_length = r.0; same_records = r.1 }

  same-box : (b : Box) → Agree h b b
  same-box b = record { same_owners = refl; same_length = refl; same_records = λ k _. refl }

  other_way : (b c : Box) → Agree h b c → Agree h c b
  other_way b c a =
      record {
        same_owners = sym a.same_owners;
        same_length = sym a.same_length;
        same_records = λ k e. sym (a.same_records k (ap (λ (o : List ℕ). owns h o (k / 16)) a.same_owners ∙ e));
      }

  and-on : (b c d : Box) → Agree h b c → Agree h c d → Agree h b d
  and-on b c d x y =
      record {
        same_owners = x.same_owners ∙ y.same_owners;
        same_length = x.same_length ∙ y.same_length;
        same_records = λ k e.
            x.same_records k e
            ∙ y.same_records k (ap (λ (o : List ℕ). owns h o (k / 16)) (sym x.same_owners) ∙ e);
      }

  -- an event of another host leaves the host's groups
  left_alone : (o : List ℕ) (t u : List Record) → length u ≡ length t
      → ((j : ℕ) → owns h o (j / 16) ≡ true → get_or u j empty ≡ get_or t j empty)
      → Agree h (record { owners = o; table = u }) (record { owners = o; table = t })
  left_alone o t u l e = record { same_owners = refl; same_length = l; same_records = e }

  uncounted : (e : Event) (b : Box) → counts h e ≡ false → Agree h (box_after b e) b × (is_by h e ≡ false)
  uncounted (call_up k room s) b n =
      let o = b.owners in (
        left_alone o b.table _ (one-length k o room b.table s) (λ j own.
            one-stays k o room b.table s j (one-owner h k o (j / 16) (eqb-false k h n) own)),
        n,
      )
  uncounted (run_up k room s) b n =
      let o = b.owners in (
        left_alone o b.table _ (run_length k o room b.table s) (λ j own.
            run-stays k o room b.table s j (one-owner h k o (j / 16) (eqb-false k h n) own)),
        n,
      )
  uncounted (call_down k room s) b n = (same-box b, n)
  uncounted (run_down k room s) b n = (same-box b, n)
  uncounted (asks k g c) b n = (same-box b, n)
  uncounted (marks k g c v) b n =
      let o = b.owners in (
        left_alone o b.table _ (mark-length k o b.table g c v) (λ j own.
            mark-stays k o b.table g c v j (one-owner h k o (j / 16) (eqb-false k h n) own)),
        n,
      )
  uncounted (gives g k) b n = absurd (true≢false n)

  -- a group that is given leaves boxes that agree in agreement
  same_gives : (o : List ℕ) (t u : List Record) (g k : ℕ) → Same h o t u
      → Agree h (box_after (record { owners = o; table = t }) (gives g k)) (box_after (record { owners = o; table = u }) (gives g k))
  unfolding owners_after
  same_gives o t u g k r =
      record {
        same_owners = ap (λ (n : ℕ). owners_after o n g k) r.0;
        same_length = table-length o t g k ∙ r.0 ∙ sym (table-length o u g k);
        same_records = λ j own.
            by_bool (eqb (j / 16) g) (λ e. inside j own (eqb-true (j / 16) g e)) (λ e. outside-it j own (eqb-false (j / 16) g e));
      }
    where
      inside : (j : ℕ) → owns h (owners_after o (length t) g k) (j / 16) ≡ true → j / 16 ≡ g
          → get_or (table_given o t g k) j empty ≡ get_or (table_given o u g k) j empty
      inside j own e =
          by_bool (changes_hands o (length t) g k)
          (λ c. given-empty o t g k c j e ∙ sym (given-empty o u g k (ap (λ (n : ℕ). changes_hands o n g k) (sym r.0) ∙ c) j e))
          (λ c. ap (λ (l : List Record). get_or l j empty) (table_stays o t g k c) ∙ r.1 j (rw c at own)
          ∙ ap (λ (l : List Record). get_or l j empty)
          (sym (table_stays o u g k (ap (λ (n : ℕ). changes_hands o n g k) (sym r.0) ∙ c))))

      outside-it : (j : ℕ) → owns h (owners_after o (length t) g k) (j / 16) ≡ true → (j / 16 ≡ g → ⊥)
          → get_or (table_given o t g k) j empty ≡ get_or (table_given o u g k) j empty
      outside-it j own n =
          others-stay o t g k j n
          ∙ r.1 j (ap (λ (x : ℕ). is_host h && eqb x h) (sym (other-owner o (length t) g k (j / 16) n)) ∙ own)
          ∙ sym (others-stay o u g k j n)

  -- what counts for the host does the same to both
  abbrev Counted : Event → List ℕ → List Record → List Record → Type 0
  Counted e o t u =
      let b : Box = record { owners = o; table = t } in
      let c : Box = record { owners = o; table = u } in
      Agree h (box_after b e) (box_after c e) × (is_by h e ≡ true → seen b e ≡ seen c e)

  counted : (e : Event) (o : List ℕ) (t u : List Record) → Same h o t u → counts h e ≡ true → Counted e o t u
  counted (call_up k room s) o t u r n =
      subst (λ (i : ℕ). Counted (call_up i room s) o t u) (sym (eqb-true k h n))
      (let x = same-one h o room t u r s in
      (agreed o _ _ x.lefts.1, λ _. rw (x.answers, x.reads, x.words)))
  counted (run_up k room s) o t u r n =
      subst (λ (i : ℕ). Counted (run_up i room s) o t u) (sym (eqb-true k h n))
      (let x = same-run h o room t u r s in
      (agreed o _ _ x.lefts.1, λ _. rw (x.answers, x.reads, x.words)))
  counted (call_down k room s) o t u r n = (agreed o t u r, λ _. refl)
  counted (run_down k room s) o t u r n = (agreed o t u r, λ _. refl)
  counted (asks k g c) o t u r n =
      subst (λ (i : ℕ). Counted (asks i g c) o t u) (sym (eqb-true k h n))
      (agreed o t u r, λ _. ap shown (same_keys h o t u g c r))
  counted (marks k g c v) o t u r n =
      subst (λ (i : ℕ). Counted (marks i g c v) o t u) (sym (eqb-true k h n))
      (let x = same-mark h o t u g c v r in (agreed o _ _ x.1, λ _. ap answered x.0))
  counted (gives g k) o t u r n = (same_gives o t u g k r, λ z. not-both z)

  counted-box : (e : Event) (b c : Box) → Agree h b c → counts h e ≡ true
      → Agree h (box_after b e) (box_after c e) × (is_by h e ≡ true → seen b e ≡ seen c e)
  counted-box e b c a n =
      subst (λ (d : Box). Agree h (box_after b e) (box_after d e) × (is_by h e ≡ true → seen b e ≡ seen d e))
      (ap (λ (o : List ℕ). record { owners = o; table = c.table }) a.same_owners)
      (counted e b.owners b.table c.table (tables b c a) n)

  -- of a history only what counts for the host matters to it
  alone : (es : List Event) (b c : Box) → Agree h b c
      → (sees h b es ≡ sees h c (counting h es)) × Agree h (box_at b es) (box_at c (counting h es))
  unfolding sees box_at counting
  alone [] b c a = (refl, a)
  alone (e ∷ es) b c a =
      by_bool (counts h e)
      (λ n. let x = counted-box e b c a n in
      let y = alone es (box_after b e) (box_after c e) x.0 in
      rw n (by_bool (is_by h e) (λ m. rw (m, x.1 m, y.0)) (λ m. rw (m, y.0)), y.1))
      (λ n. let x = uncounted e b n in
      let y = alone es (box_after b e) c (and-on (box_after b e) b c x.0 a) in
      rw (n, x.1) y)

pub proved-apart : Apart
proved-apart h b c a es fs e =
    let x = alone h es b c a in
    let y = alone h fs c c (same-box h c) in (
      x.0 ∙ ap (sees h c) e ∙ sym y.0,
      and-on h (box_at b es) (box_at c (counting h fs)) (box_at c fs)
          (subst (λ (gs : List Event). Agree h (box_at b es) (box_at c gs)) e x.1)
          (other_way h (box_at c fs) (box_at c (counting h fs)) y.1),
    )

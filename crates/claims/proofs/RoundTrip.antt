-- Demand 3: up, down and up again, with any rule about which packets may pass, and so with none. Assumes nothing.
use Prim.Native.Nat.{ℕ, ◌<◌}
use mathlib.Core.Path.{◌≡◌, refl, ap, ap₂, ◌∙◌}
use mathlib.Core.Bool.{Bool, true, false, true≢false, not}
use mathlib.Core.Option.{Option, none, some}
use mathlib.Core.List.{List, [], ◌∷◌, ◌++◌, append-nil, map, nil≢cons}
use native.Mathlib.Omega.{arith}
use lib.ListN.{get_or, length, length-set, set}
use lib.Seq.{get_or-set_same, set-get_or, set-set}
use lib.Dec.{eqb}
use borrow.Author.Tests.{eq-eqb, eqb-true}
use Rattle.ground.specs.Lists.{All, joined}
use Rattle.ground.proofs.Cases.{by_bool, choose}
use Rattle.ump.specs.declared.Group.{Group}
use Rattle.ump.specs.declared.Channel.{Channel}
use Rattle.ump.specs.Word.{channel_of, group_of, message_type, place_of, record_number, voice1, voice2}
use Rattle.ump.specs.Packet.{Whole, cut, first, packet, size}
use Rattle.ump.proofs.PacketLaws.{packet-whole}
use Rattle.stream.specs.Answers.{sent, stops_run}
use Rattle.stream.specs.Call.{Call, left_of, refused, sent_of, stopped, went, within}
use Rattle.stream.specs.Run.{run}
use Rattle.stream.proofs.RunLaws.{roomed-sends}
use Rattle.screen.specs.declared.Rule.{Rule}
use Rattle.screen.specs.Screen.{admitted, goes_on, open_rule, outside, screen, screen_by, screened}
use Rattle.screen.proofs.ScreenLaws.{passed}
use Rattle.memory.specs.declared.Memory.{Memory}
use Rattle.memory.specs.Memory.{marked, unmarked}
use Rattle.channel.specs.declared.Record.{Record}
use Rattle.channel.specs.Record.{EmptyButMarks, empty, fresh, sound, whole_table}
use Rattle.message.specs.Message.{Fits1, Midi1, Midi2, no_bank, read1, write1, write2}
use Rattle.message.proofs.MessageLaws.{place1, place2, read1-write1, read2-write2}
use Rattle.lift.specs.Lift.{banked2, lift}
use Rattle.lift.specs.Played.{record_after}
use Rattle.lift.proofs.LiftLaws.{Upward, lift-marks, lift-sound, lift-upward, read1-fits, upward-fits}
use Rattle.lower.specs.Lower.{lower}
use Rattle.voice.specs.Packet.{call_by, call_down, call_down_by, packet_down_by, packet_if, run_down_by, sending, sending_down, speak_down, speak_if}
use Rattle.table.specs.Table.{run_up, stored, table_by, table_up}
use Rattle.table.proofs.KeptLaws.{at_set, fresh_unmarked, marked-sound}
use Rattle.claims.specs.Marks.{mark_on}
use Rattle.claims.specs.RoundTrip.{Blank, Gated, GatedDown, RoundTrip, RoundTripFenced, RoundTripGated}
use Rattle.claims.specs.RoundTrip.{StillPasses}
use Rattle.claims.proofs.RoundLaws.{Again, Came, Fit, Undone, came-none, came-packet, nothing}
use Rattle.claims.proofs.RoundLaws.{packet as a-packet, round}
use Rattle.claims.proofs.StepLaws.{has_words, table-cases}
use Rattle.stream.proofs.CutLaws.{standing}
use Rattle.claims.proofs.TakenBack.{lift_all, lift_all-marks, lift_all-sound, as_list, lower-fits, taken_back}
use Rattle.claims.proofs.WordLaws.{good1, good2}

module _ (g : Group) (c : Channel) (hg : g.0 < 16) (hc : c.0 < 16) where
  -- the packets of a message are whole
  whole1 : (m : Midi1) → Fits1 m → Whole (write1 g c m ∷ [])
  unfolding Whole size
  whole1 m f = rw (place1 g c hg hc m f).2

  whole2 : {coarse : Bool} (m : Midi2) → Upward coarse m → Whole (write2 g c m)
  unfolding Whole size
  whole2 m h = rw (place2 g c hg hc m (upward-fits m h)).2

  -- down at a message that going up can send
  down-spoken : (r : Memory) (m : Midi2) → banked2 r ≡ no_bank → Upward (marked r) m
      → call_down tt (write2 g c m) ≡ went sent (map (write1 g c) (lower m)) tt
  unfolding call_down_by packet_down_by screened speak_down
  down-spoken r m w h =
      let p = place2 g c hg hc m (upward-fits m h) in
      rw (
        packet-whole (write2 g c m) (whole2 m h),
        good2 g c hg hc m h,
        p.2,
        read2-write2 g c hg hc m (upward-fits m h),
        p.0,
        p.1,
      )
      (go (lower m) (taken_back r m w h).0)
    where
      go : (ms : List Midi1) → (lift_all r ms).sends ≡ m ∷ []
          → sending_down g c ms ≡ went sent (map (write1 g c) ms) tt
      go [] e = absurd (nil≢cons e)
      go (x ∷ ms) e = refl

  -- up at a message that is written
  up-written : (t : List Record) (m : Midi1) → Fits1 m → length t ≡ whole_table
      → sound (get_or t (record_number g c) empty) ≡ true
      → let r = get_or t (record_number g c) empty in
      table_up t (write1 g c m ∷ []) ≡ stored t (record_number g c) (sending g c (record_after r m) (lift r.memory m).sends)
  unfolding table_by call_by packet_if screened speak_if
  up-written t m f l h =
      let p = place1 g c hg hc m f in
      let k : place_of (write1 g c m) ≡ record_number g c = ap₂ record_number p.0 p.1 in
      rw (
        eq-eqb (length t) whole_table l,
        packet-whole (write1 g c m ∷ []) (whole1 m f),
        good1 g c hg hc m f,
        p.2,
        read1-write1 g c hg hc m f,
        p.0,
        p.1,
        k,
        h,
      )

-- messages into one record, in a row, and what is then remembered
record_all : Record → List Midi1 → Record
record_all r [] = r
record_all r (m ∷ ms) = record_all (record_after r m) ms

memory-all : (ms : List Midi1) (r : Record) → (record_all r ms).memory ≡ (lift_all r.memory ms).after
unfolding record_all
memory-all [] r = refl
memory-all (m ∷ ms) r = memory-all ms (record_after r m)

-- a packet that is sent on, either way
up-onward : (t : List Record) (p : List ℕ) → length t ≡ whole_table → Whole p → (screen voice2 p).answer ≡ goes_on
    → eqb (message_type (first p)) voice1 ≡ false → table_up t p ≡ went sent p t
unfolding table_by call_by packet_if screened
up-onward t p l w f e =
    rw (eq-eqb (length t) whole_table l, packet-whole p w, f, e, set-get_or t (place_of (first p)) empty)

down-onward : (p : List ℕ) → Whole p → (screen voice2 p).answer ≡ goes_on → eqb (message_type (first p)) voice1 ≡ false
    → call_down tt p ≡ went sent p tt
unfolding call_down_by packet_down_by screened screen_by outside admitted
down-onward p w f e =
    let x = passed open_rule voice2 p f in
    rw (packet-whole p w, x.some, x.free, e, x.status, x.data_fields, x.right)

-- the packets that up can send with such marks, which pass going down, and of which all that comes down passes
data Emit (passes : List ℕ → Bool) (rule : Rule) (marks : ℕ → ℕ) : List ℕ → Type 0 where
  onward : {p : List ℕ} → Whole p → (screen voice2 p).answer ≡ goes_on → eqb (message_type (first p)) voice1 ≡ false
      → passes p ≡ true → call_down_by rule tt p ≡ call_down tt p
      → Emit passes rule marks p
  spoken : (g : Group) (c : Channel) (m : Midi2) → g.0 < 16 → c.0 < 16
      → Upward (not (eqb (marks (record_number g c)) unmarked)) m
      → All (λ (x : Midi1). passes (write1 g c x ∷ []) ≡ true) (lower m)
      → call_down_by rule tt (write2 g c m) ≡ call_down tt (write2 g c m) → Emit passes rule marks (write2 g c m)

-- the marks of a table, place by place; a whole table with such marks, and one to start from
abbrev Carries : (ℕ → ℕ) → List Record → Type 0
Carries marks t = (k : ℕ) → mark_on t k ≡ marks k

abbrev Full : (ℕ → ℕ) → List Record → Type 0
Full marks t = (length t ≡ whole_table) × Carries marks t

abbrev Start : (ℕ → ℕ) → List Record → Type 0
Start marks t = Blank t × Carries marks t

-- what is sent of messages of one channel
words : Group → Channel → List Midi2 → List ℕ
words g c ms = joined (map (write2 g c) ms)

module _
    (passes : List ℕ → Bool)
    (up : List Record → List ℕ → Call (List Record))
    (gate : Gated passes up)
    (rule : Rule)
    (marks : ℕ → ℕ)
  where
    -- messages of one channel in a row, that all pass
    voices : (g : Group) (c : Channel) → g.0 < 16 → c.0 < 16 → (ms : List Midi1) (t : List Record) → All Fits1 ms
        → All (λ (x : Midi1). passes (write1 g c x ∷ []) ≡ true) ms
        → length t ≡ whole_table → let k = record_number g c in
        let r = get_or t k empty in
        sound r ≡ true
        → Came up t (set t k (record_all r ms)) (map (write1 g c) ms) (words g c (lift_all r.memory ms).sends)
    unfolding words record_all
    voices g c hg hc [] t f q l h = rw (set-get_or t (record_number g c) empty) (came-none up t)
    voices g c hg hc (m ∷ ms) t f q l h =
        go (lift r.memory m).sends refl
        (rw (same, set-set t k (record_after r m) _) at
        (voices g c hg hc ms u f.1 q.1 (length-set t k (record_after r m) ∙ l) (rw same (lift-sound r.memory h m f.0))))
      where
        k : ℕ
        k = record_number g c

        r : Record
        r = get_or t k empty

        u : List Record
        u = set t k (record_after r m)

        w : ℕ
        w = write1 g c m

        same : get_or u k empty ≡ record_after r m
        same = get_or-set_same t k (record_after r m) empty (omega arith)

        v : List Record
        v = set t k (record_all (record_after r m) ms)

        call : (o : Option Midi2) → (lift r.memory m).sends ≡ o → up t (w ∷ []) ≡ stored t k (sending g c (record_after r m) o)
        call o e =
            gate.as_before t (w ∷ []) l (rw (packet-whole (w ∷ []) (whole1 g c hg hc m f.0)) q.0)
            ∙ up-written g c hg hc t m f.0 l h ∙ rw e

        go : (o : Option Midi2) → (lift r.memory m).sends ≡ o
            → Came up u v (map (write1 g c) ms) (words g c (lift_all (lift r.memory m).after ms).sends)
            → Came up t v (w ∷ map (write1 g c) ms) (words g c (as_list o ++ (lift_all (lift r.memory m).after ms).sends))
        go none e ih =
            came-packet up t u v (w ∷ []) [] (map (write1 g c) ms) _ 1 (whole1 g c hg hc m f.0) (call none e)
            (omega arith) ih
        go (some x) e ih =
            came-packet up t u v (w ∷ []) (write2 g c x) (map (write1 g c) ms) _ 0 (whole1 g c hg hc m f.0)
            (call (some x) e) (omega arith) ih

    -- such a packet goes down, and what comes up of it again is the packet
    undone : (t : List Record) (u : Unit {0}) (p : List ℕ) → Start marks t → Emit passes rule marks p
        → Undone up (call_down_by rule) (Start marks) t u p
    unfolding words
    undone t u _ (y, carries) (onward {p} whole f e q same-down) =
        let call = gate.as_before t p y.whole (rw (packet-whole p whole) q) ∙ up-onward t p y.whole whole f e in
        record {
          answer = 0;
          words = p;
          left = tt;
          goes = same-down ∙ down-onward p whole f e;
          end = t;
          good = (y, carries);
          back = rw append-nil at (came-packet up t t t p p [] [] 0 whole call (omega arith) (came-none up t));
        }
    undone t u _ (y, carries) (spoken g c m hg hc h q same-down) =
        let k = record_number g c in
        let r = get_or t k empty in
        let after = record_all r (lower m) in
        let fits = lower-fits m h in
        let own : Upward (marked r.memory) m = rw (← carries k) at h in
        let x = taken_back r.memory m (y.bankless k) own in
        let same : after.memory ≡ (lift_all r.memory (lower m)).after = memory-all (lower m) r in
        record {
          answer = 0;
          words = map (write1 g c) (lower m);
          left = tt;
          goes = same-down ∙ down-spoken g c hg hc r.memory m (y.bankless k) own;
          end = set t k after;
          good = (
            record {
              whole = length-set t k after ∙ y.whole;
              sounds =
                  at_set (λ _ (r : Record). sound r ≡ true) t k after
                  (rw same (lift_all-sound (lower m) r.memory fits (y.sounds k))) y.sounds;
              bankless =
                  at_set (λ _ (r : Record). banked2 r.memory ≡ no_bank) t k after (rw same x.1) y.bankless;
            },
            at_set (λ j (r : Record). r.memory.coarse ≡ marks j) t k after
                (rw same (lift_all-marks (lower m) r.memory ∙ carries k)) carries,
          );
          back = rw x.0 at (voices g c hg hc (lower m) t fits q y.whole (y.sounds k));
        }

    -- each call sends nothing or one such packet, and keeps the table whole and its marks
    sends : StillPasses passes → GatedDown passes rule → (t : List Record) (s : List ℕ) → Full marks t
        → Fit (Full marks) (Emit passes rule marks) (up t s)
    unfolding refused
    sends still falls t s full =
        by_bool (passes p) (λ q. rw (gate.as_before t s l q) (passing q)) (λ q. quietly (up t s) (gate.held t s l q))
      where
        l : length t ≡ whole_table
        l = full.0

        p : List ℕ
        p = packet s

        w : ℕ
        w = first p

        k : ℕ
        k = place_of (first s)

        r : Record
        r = get_or t k empty

        quietly : (c : Call (List Record)) → (sent_of c ≡ []) × (left_of t c ≡ t) → Fit (Full marks) (Emit passes rule marks) c
        quietly (went a ws u) e = rw (e.0, e.1) (nothing, full)
        quietly (stopped a) e = tt

        after : Full marks (set t k (record_after r (read1 w)))
        after = (
          length-set t k (record_after r (read1 w)) ∙ l,
          at_set (λ j (x : Record). x.memory.coarse ≡ marks j) t k (record_after r (read1 w))
              (lift-marks r.memory (read1 w) ∙ full.1 k) full.1,
        )

        passing : passes p ≡ true → Fit (Full marks) (Emit passes rule marks) (table_up t s)
        passing q =
            table-cases (Fit (Full marks) (Emit passes rule marks)) open_rule t s (λ _. tt) (λ _. record {
              refuses = λ _.
                  choose (Fit (Full marks) (Emit passes rule marks)) (stops_run (screen voice2 p).answer) (λ _. tt)
                  (λ _. (nothing, full));
              onward = λ f n.
                  let whole = (standing s (has_words open_rule voice2 p f)).0 in
                  (a-packet whole (onward whole f n q (falls.onward p q)), full);
              unsound = λ _ _ _. tt;
              takes = λ _ _ _ _. (nothing, after);
              sends = λ f e h m says.
                  let x : Upward (marked r.memory) m = rw says at (lift-upward r.memory h (read1 w) (read1-fits w)) in
                  let own = ap place_of (standing s (has_words open_rule voice2 p f)).1 in
                  let y = rw (full.1 k, own) at x in (
                    a-packet (whole2 (group_of w) (channel_of w) (omega arith) (omega arith) m x)
                        (spoken (group_of w) (channel_of w) m (omega arith) (omega arith) y
                        (still p r m q (eqb-true (message_type w) voice1 e) h says)
                        (falls.spoken p r m q (eqb-true (message_type w) voice1 e) h says)),
                    after,
                  );
            })

-- a table that is empty but for marks is one to start from
pub marked-blank : (t : List Record) → EmptyButMarks t → Blank t
unfolding banked2
marked-blank t m =
    record { whole = m.whole; sounds = marked-sound t m; bankless = λ k. rw (m.each k) }

-- with unlimited room; and no packet of the second pass up is refused
returns-by : (passes : List ℕ → Bool) (up : List Record → List ℕ → Call (List Record)) (rule : Rule) → Gated passes up
    → StillPasses passes → GatedDown passes rule
    → (t : List Record) → Blank t → (s : List ℕ) → Again up (call_down_by rule) t tt (run up t (cut s)).sends
returns-by passes up rule gate still falls t y s =
    let marks = mark_on t in
    round up (call_down_by rule) (Full marks) (Start marks) (Emit passes rule marks) (sends passes up gate rule marks still falls)
    (undone passes up gate rule marks) (cut s) t t tt (y.whole, λ k. refl) (y, λ k. refl)

-- without a rule going down everything falls
falls-free : (passes : List ℕ → Bool) → GatedDown passes open_rule
falls-free passes = record { onward = λ p q. refl; spoken = λ p r x q e h says. refl }

pub returns : (passes : List ℕ → Bool) (up : List Record → List ℕ → Call (List Record)) → Gated passes up
    → StillPasses passes
    → (t : List Record) → Blank t → (s : List ℕ) → Again up call_down t tt (run up t (cut s)).sends
returns passes up gate still = returns-by passes up open_rule gate still (falls-free passes)

pub proved-round-trip-fenced : RoundTripFenced
unfolding run_down_by
proved-round-trip-fenced passes up rule gate still falls t y s a b c =
    rw (eq-eqb (length t) whole_table y.whole) (λ hx hy hz.
    let u = run (within up) (a, t) (cut s) in
    let d = run (within (call_down_by rule)) (b, tt) (cut u.sends) in
    rw (
      roomed-sends up (cut d.sends) t c hz,
      roomed-sends (call_down_by rule) (cut u.sends) tt b hy,
      roomed-sends up (cut s) t a hx,
    )
    (returns-by passes up rule gate still falls t y s).0)

pub proved-round-trip-gated : RoundTripGated
proved-round-trip-gated passes up gate still = proved-round-trip-fenced passes up open_rule gate still (falls-free passes)

-- the rule that lets all pass
pub all_pass : List ℕ → Bool
all_pass p = true

pub open-gate : Gated all_pass table_up
unfolding all_pass
open-gate = record { as_before = λ t p l e. refl; held = λ t p l e. absurd (true≢false e) }

pub still-all : StillPasses all_pass
unfolding all_pass
still-all p r x _ _ _ _ = go (lower x)
  where
    go : (ms : List Midi1) → All (λ (m : Midi1). true ≡ true) ms
    go [] = tt
    go (m ∷ ms) = (refl, go ms)

pub proved-round-trip : RoundTrip
unfolding run_up
proved-round-trip =
    let r = proved-round-trip-gated all_pass table_up open-gate still-all in
    record { blank = r; marked = λ t m. r t (marked-blank t m); at_fresh = r fresh (marked-blank fresh fresh_unmarked) }

-- One pupil at a time: a call at a packet of the channel goes by the channel's record alone, and a call at any other
-- leaves that record and lets the run go on. So a run and the run over the channel's own packets keep step. Assumes
-- nothing.
use Prim.Native.Nat.{ℕ, ◌*◌, ◌-◌, ◌≤◌, ◌<◌}
use mathlib.Core.Path.{◌≡◌, refl, sym, ap, ◌∙◌}
use mathlib.Core.Bool.{Bool, true, false, cond}
use mathlib.Core.Logic.{inl, inr}
use mathlib.Core.List.{List, [], ◌∷◌, ◌++◌}
use native.Mathlib.Omega.{arith}
use lib.Dec.{eqb, leb}
use lib.ListN.{get_or, length, set}
use lib.Seq.{get_or-set_other, get_or-set_same}
use borrow.Author.Tests.{eqb-false, eqb-true, le-leb, ne_eqb}
use Rattle.ground.specs.Lists.{All, joined}
use Rattle.ground.proofs.Bools.{and_left, and_right}
use Rattle.ground.proofs.Cases.{by_bool, choose, not-both}
use Rattle.ump.specs.Word.{message_type, place_of, voice1, voice2}
use Rattle.ump.specs.Packet.{Whole, cut, first, packet}
use Rattle.ump.proofs.PacketLaws.{at_none, cut-whole, packet-length, packet-whole}
use Rattle.stream.specs.Answers.{no_room, sent, stops_run, taken_in}
use Rattle.stream.specs.Call.{Call, left_of, refused, sent_of, stopped, went, within}
use Rattle.stream.specs.Run.{Ran, run}
use Rattle.stream.specs.Claims.{calls, roomed}
use Rattle.stream.proofs.CallLaws.{refusal}
use Rattle.stream.proofs.RunLaws.{Does, ample, bounded, cut-size, roomed-sends, roomy, run-does}
use Rattle.stream.proofs.RunLoop.{Inside}
use Rattle.screen.specs.Screen.{open_rule, screen}
use Rattle.screen.proofs.ScreenLaws.{cut-only}
use Rattle.channel.specs.declared.Record.{Record}
use Rattle.channel.specs.Record.{empty, whole_table}
use Rattle.voice.specs.Packet.{call_up}
use Rattle.table.specs.Table.{SoundTable, one_up, run_up, stored, table_after, table_up}
use Rattle.table.proofs.TableLaws.{table_at, table-inside}
use Rattle.question.specs.Question.{place_asked}
use Rattle.pupil.specs.Only.{is_on, only, pick, voice_on}
use Rattle.pupil.specs.Picking.{pick-inside}
use Rattle.pupil.proofs.PickLaws.{voice-size}
use Rattle.mark.specs.Mark.{record_of}
use Rattle.claims.specs.OnePupil.{Apart, Fair, OnePupil, Outcome, Roomed, outcome_on, packets_on, words_on}
use Rattle.claims.proofs.PacketByPacket.{proved-packet-by-packet}
use Rattle.stream.proofs.Pieces.{Short, Tidy, cut-tidy}
use Rattle.claims.proofs.PictureLaws.{other_place, own-place}
use Rattle.claims.proofs.SoundnessLaws.{proved-soundness}
use Rattle.claims.proofs.StepLaws.{has_words, table-cases, up-length}
use Rattle.stream.proofs.CutLaws.{cut_all, cut-joined, standing}

-- a whole table of sound records
record Fine (t : List Record) : Type 0 where
  whole : length t ≡ whole_table
  sounds : SoundTable t

-- a short piece stops a call, whatever the step that goes on only with a whole packet
abbrev Stops : {T : Type 0} → Call T → Type 0
Stops = Does (λ _. ⊥) (λ _. Unit {0})

-- a whole packet lets it go on
abbrev Goes : {T : Type 0} → Call T → Type 0
Goes = Does (λ _. Unit {0}) (λ _. ⊥)

short-stops : {T : Type 0} (act : List ℕ → Call T) → ((w : ℕ) (s : List ℕ) → Inside (w ∷ s) (act (w ∷ s)))
    → (p : List ℕ) → Short p → Stops (act p)
short-stops act inside [] h = absurd h
short-stops {T} act inside (w ∷ s) h = go (act (w ∷ s)) (inside w s)
  where
    go : (c : Call T) → Inside (w ∷ s) c → Stops c
    go (went a ws u) i = absurd (omega (arith, h, i.1))
    go (stopped a) i = tt

not-empty : (p : List ℕ) → Whole p → packet p ≡ [] → ⊥
unfolding Whole
not-empty [] h e = h
not-empty (w ∷ s) h e = absurd (omega (arith, ap length (sym (packet-whole (w ∷ s) h) ∙ e)))

whole-goes : (t : List Record) (p : List ℕ) → Fine t → Whole p → Goes (table_up t p)
unfolding refused
whole-goes t p f h =
    table-cases Goes open_rule t p (λ e. absurd (eqb-false (length t) whole_table e f.whole)) (λ _. record {
      refuses = λ _.
          choose Goes (stops_run (screen voice2 (packet p)).answer) (λ e. not-empty p h (cut-only open_rule voice2 (packet p) e))
          (λ _. tt);
      onward = λ _ _. tt;
      unsound = λ _ _ e. not-both (sym e ∙ f.sounds (place_of (first p)));
      takes = λ _ _ _ _. tt;
      sends = λ _ _ _ _ _. tt;
    })

-- what a call leaves is fine again
stays-fine : (t u : List Record) (p : List ℕ) (a : ℕ) (ws : List ℕ) → Fine t → table_up t p ≡ went a ws u → Fine u
unfolding one_up within
stays-fine t u p a ws f e =
    record {
      whole = let l : length u ≡ length t = rw e at (up-length open_rule t p) in l ∙ f.whole;
      sounds = rw (e, le-leb (length ws) (length ws) (omega arith))
          at ((proved-soundness.sounds t f.sounds).call_leaves (length ws) p);
    }

module _ (group channel : ℕ) (hg : group ≤ 15) (hc : channel ≤ 15) where
  abbrev mine : List ℕ → Bool
  mine p = voice_on group channel (first p)

  abbrev k : ℕ
  k = place_asked group channel

  abbrev on : List Record → Record
  on t = get_or t k empty

  abbrev own : List (List ℕ) → List (List ℕ)
  own ps = packets_on group channel ps

  -- a packet that is not the channel's leaves its record
  others : (t : List Record) (p : List ℕ) → mine p ≡ false → on (left_of t (table_up t p)) ≡ on t
  others t p m =
      table-cases (λ (c : Call (List Record)). on (left_of t c) ≡ on t) open_rule t p (λ _. refl) (λ _. record {
        refuses = λ _. ap on (refusal (screen voice2 (packet p)).answer t [] (λ _. refl)).3;
        onward = λ _ _. refl;
        unsound = λ _ _ _. refl;
        takes = λ f e _ _. away f e _;
        sends = λ f e _ _ _. away f e _;
      })
    where
      w : ℕ
      w = first (packet p)

      away : (screen voice2 (packet p)).answer ≡ 0 → eqb (message_type w) voice1 ≡ true → (r : Record)
          → on (set t (place_of (first p)) r) ≡ on t
      away f e r =
          let same : first p ≡ w = (standing p (has_words open_rule voice2 (packet p) f)).1 in
          let voice : eqb (message_type (first p)) voice1 ≡ true = rw same e in
          let off : is_on group channel (first p) ≡ false = rw voice at m in
          get_or-set_other t (place_of (first p)) k r empty (other_place group channel hg hc (first p) off)

  -- the channel's own packet goes by its record alone
  by-own : (t : List Record) (p : List ℕ) (r : Record) → Fine t → mine p ≡ true → on t ≡ r
      → table_up t p ≡ stored t k (call_up r p)
  by-own t p r f m e =
      let here = own-place group channel hg hc (first p) (and_right (eqb (message_type (first p)) voice1) _ m) in
      table_at open_rule false p t 0 f.whole ∙ rw (← here, e)

  -- the two runs: the words sent for the channel, and its record
  abbrev Together : List (List ℕ) → List Record → List Record → Type 0
  Together ps t u =
      (words_on group channel (calls table_up t ps) ≡ (run table_up u (own ps)).sends)
      × (on (run table_up t ps).left ≡ on (run table_up u (own ps)).left)

  -- a piece of the channel is not short
  mine-long : (p : List ℕ) → mine p ≡ true → Short p → ⊥
  mine-long [] m h = h
  mine-long (w ∷ s) m h =
      let e = eqb-true (message_type w) voice1 (and_left (eqb (message_type w) voice1) (is_on group channel w) m) in
      omega (arith, h, voice-size w e)

  together : (ps : List (List ℕ)) (t u : List Record) → Tidy ps → Fine t → Fine u → on t ≡ on u → Together ps t u
  unfolding run calls words_on packets_on
  together [] t u d f g e = (refl, e)
  together (p ∷ ps) t u (inr d) f g e =
      rw d.1 (go (table_up t p) refl (short-stops (table_up t) (table-inside open_rule false t) p d.0))
    where
      go : (c : Call (List Record)) → table_up t p ≡ c → Stops c → Together (p ∷ []) t u
      go (went a ws v) z h = absurd h
      go (stopped a) z h = by_bool (mine p) (λ m. absurd (mine-long p m d.0)) (λ m. rw (m, z) (refl, e))
  together (p ∷ ps) t u (inl d) f g e =
      by_bool (mine p) (is (λ v x. together ps v x d.1)) (is-not (λ v x. together ps v x d.1))
    where
      Next : Type 0
      Next = (v x : List Record) → Fine v → Fine x → on v ≡ on x → Together ps v x

      is : Next → mine p ≡ true → Together (p ∷ ps) t u
      is next m = go (call_up (on u) p) (by-own t p (on u) f m e) (by-own u p (on u) g m refl)
        where
          go : (c : Call Record) → table_up t p ≡ stored t k c → table_up u p ≡ stored u k c → Together (p ∷ ps) t u
          go (went a ws r) y z =
              let low : k < whole_table = omega (arith, hg, hc) in
              let both : on (set t k r) ≡ on (set u k r) =
              get_or-set_same t k r empty (rw f.whole low) ∙ sym (get_or-set_same u k r empty (rw g.whole low)) in
              let i = next (set t k r) (set u k r) (stays-fine t (set t k r) p a ws f y)
              (stays-fine u (set u k r) p a ws g z) both in
              rw (m, y, z) (ap (◌++◌ ws) i.0, i.1)
          go (stopped a) y z = rw (m, y, z) (refl, e)

      is-not : Next → mine p ≡ false → Together (p ∷ ps) t u
      is-not next m = go (table_up t p) refl (whole-goes t p f d.0)
        where
          go : (c : Call (List Record)) → table_up t p ≡ c → Goes c → Together (p ∷ ps) t u
          go (went a ws v) z h =
              let i = next v u (stays-fine t v p a ws f z) g (rw z at (others t p m) ∙ e) in
              rw (m, z) i
          go (stopped a) z h = absurd h

  -- the channel's pieces are whole, so that joined they are cut as they were
  own-whole : (ps : List (List ℕ)) → Tidy ps → All Whole (own ps)
  unfolding packets_on
  own-whole [] d = tt
  own-whole (p ∷ ps) (inl d) =
      choose (All Whole) (mine p) (λ _. (d.0, own-whole ps d.1)) (λ _. own-whole ps d.1)
  own-whole (p ∷ ps) (inr d) =
      rw d.1 (choose (All Whole) (mine p) (λ m. absurd (mine-long p m d.0)) (λ _. tt))

  -- `only` hands them back
  abbrev picks : Unit {0} → List ℕ → Call (Unit {0})
  picks = pick group channel

  only-run : (room : ℕ) (s : List ℕ) → only group channel room s ≡ run (within picks) (room, tt) (cut s)
  unfolding only
  only-run room s = rw (le-leb group 15 hg, le-leb channel 15 hc)

  picked-whole : (p : List ℕ) → Whole p → picks tt p ≡ cond (mine p) (went sent p tt) (went taken_in [] tt)
  unfolding pick
  picked-whole p h = rw (packet-whole p h, ne_eqb (length p) 0 (λ e. not-empty p h (packet-whole p h ∙ at_none p e)))

  hands : (ps : List (List ℕ)) → Tidy ps → (run picks tt ps).sends ≡ joined (own ps)
  unfolding run packets_on
  hands [] d = refl
  hands (p ∷ ps) (inr d) =
      rw d.1 (go (picks tt p) refl (short-stops (picks tt) (pick-inside group channel tt) p d.0))
    where
      go : (c : Call (Unit {0})) → picks tt p ≡ c → Stops c → (run picks tt (p ∷ [])).sends ≡ joined (own (p ∷ []))
      go (went a ws v) z h = absurd h
      go (stopped a) z h = by_bool (mine p) (λ m. absurd (mine-long p m d.0)) (λ m. rw (m, z))
  hands (p ∷ ps) (inl d) =
      by_bool (mine p) (λ m. rw (picked-whole p d.0, m) (ap (◌++◌ p) (hands ps d.1)))
      (λ m. rw (picked-whole p d.0, m) (hands ps d.1))

  packets : (s : List ℕ) (room : ℕ) → Roomed (only group channel room s)
      → (only group channel room s).sends ≡ joined (own (cut s))
  packets s room h =
      let e = only-run room s in
      ap (λ (r : Ran (ℕ × Unit {0})). r.sends) e
      ∙ roomed-sends picks (cut s) tt room (λ z. h (ap (λ (r : Ran (ℕ × Unit {0})). r.answer) e ∙ z))
      ∙ hands (cut s) (cut-tidy s)

  -- at most as many words as are read, and no step stops for want of room
  few : (t : Unit {0}) (p : List ℕ) → length (sent_of (picks t p)) ≤ 1 * length p
  unfolding pick
  few t p =
      let l = packet-length p in
      choose (λ (c : Call (Unit {0})). length (sent_of c) ≤ 1 * length p) (eqb (length (packet p)) 0) (λ _. omega arith)
      (λ _. choose (λ (c : Call (Unit {0})). length (sent_of c) ≤ 1 * length p) (mine (packet p)) (λ _. omega arith)
      (λ _. omega arith))

  never : (t : Unit {0}) (p : List ℕ) → Does (λ _. Unit {0}) (λ a. a ≡ no_room → ⊥) (picks t p)
  unfolding pick
  never t p =
      choose (Does (λ _. Unit {0}) (λ a. a ≡ no_room → ⊥)) (eqb (length (packet p)) 0) (λ _ e. omega arith)
      (λ _. choose (Does (λ _. Unit {0}) (λ a. a ≡ no_room → ⊥)) (mine (packet p)) (λ _. tt) (λ _. tt))

  enough : (s : List ℕ) (room : ℕ) → length s ≤ room → Roomed (only group channel room s)
  enough s room h e =
      let l = bounded picks 1 few (cut s) tt in
      let same = ample picks (cut s) tt room (omega (arith, l, cut-size s)) in
      (run-does picks (λ _. Unit {0}) (λ a. a ≡ no_room → ⊥) (λ e. omega arith) (λ u p _. never u p) (cut s) tt tt).1
      (sym (ap (λ (r : Ran (ℕ × Unit {0})). r.answer) (only-run room s ∙ same)) ∙ e)

  -- the words for the channel with room for all
  heard : {T : Type 0} (step : T → List ℕ → Call T) (ps : List (List ℕ)) (t : T) (room : ℕ)
      → Roomed (run (within step) (room, t) ps)
      → words_on group channel (calls (within step) (room, t) ps) ≡ words_on group channel (calls step t ps)
  unfolding run calls words_on within
  heard step [] t room h = refl
  heard {T} step (p ∷ ps) t room h = go (step t p) refl (λ n u. heard step ps u n)
    where
      go : (c : Call T) → step t p ≡ c
          → ((n : ℕ) (u : T) → Roomed (run (within step) (n, u) ps)
          → words_on group channel (calls (within step) (n, u) ps) ≡ words_on group channel (calls step u ps))
          → words_on group channel (calls (within step) (room, t) (p ∷ ps))
          ≡ words_on group channel (calls step t (p ∷ ps))
      go (stopped a) e ih = rw e
      go (went a ws u) e ih =
          by_bool (leb (length ws) room)
          (λ l.
          let i = ih (room - length ws) u (rw (e, l) at h) in
          rw (e, l) (ap (λ (x : List ℕ). cond (mine p) (ws ++ x) x) i))
          (λ l. absurd ((rw (e, l) at h) refl))

  -- from a fine table
  module _ (t : List Record) (f : Fine t) where
    roomed-up : (room : ℕ) (s : List ℕ) → Roomed (run_up room t s) → run_up room t s ≡ roomed room (run table_up t (cut s))
    roomed-up room s h =
        let e = proved-packet-by-packet.run_up_lem room t s f.whole in
        e ∙ ample table_up (cut s) t room
        (roomy table_up (cut s) t room (λ z. h (ap (λ (r : Ran (ℕ × List Record)). r.answer) e ∙ z)))

    -- what the run over some packets of the channel comes to
    abbrev outcome : List (List ℕ) → Outcome
    outcome ps = record { words = (run table_up t ps).sends; left = on (run table_up t ps).left }

    of-own : (room : ℕ) (s : List ℕ) → Roomed (run_up room t s)
        → outcome_on group channel room t s ≡ outcome (own (cut s))
    of-own room s h =
        let e = proved-packet-by-packet.run_up_lem room t s f.whole in
        let z = together (cut s) t t (cut-tidy s) f f refl in
        rw (
          heard table_up (cut s) t room (λ x. h (ap (λ (r : Ran (ℕ × List Record)). r.answer) e ∙ x)),
          roomed-up room s h,
          z.0,
          z.1,
        )

    own-cut : (s : List ℕ) → cut (joined (own (cut s))) ≡ own (cut s)
    own-cut s = cut_all (own (cut s)) (own-whole (cut s) (cut-tidy s))

    alone : (s : List ℕ) (a b c : ℕ)
        → let y = only group channel b s in
        let z = run_up c t y.sends in
        Roomed (run_up a t s) → Roomed y → Roomed z
        → outcome_on group channel a t s ≡ record { words = z.sends; left = record_of (table_after z) group channel }
    alone s a b c hx hy hz =
        let y = (only group channel b s).sends in
        let pieces : cut y ≡ own (cut s) = ap cut (packets s b hy) ∙ own-cut s in
        of-own a s hx
        ∙ sym (ap (λ (r : Ran (ℕ × List Record)).
        record { words = r.sends; left = record_of (table_after r) group channel })
        (roomed-up c y hz) ∙ ap outcome pieces)

    -- the same packets of the channel, the same outcome
    by-packets : (s s' : List ℕ) (a a' : ℕ) → Roomed (run_up a t s) → Roomed (run_up a' t s') → own (cut s) ≡ own (cut s')
        → outcome_on group channel a t s ≡ outcome_on group channel a' t s'
    by-packets s s' a a' h h' e = of-own a s h ∙ ap outcome e ∙ sym (of-own a' s' h')

    same : (s s' : List ℕ) (a a' b b' : ℕ) → Roomed (run_up a t s) → Roomed (run_up a' t s')
        → Roomed (only group channel b s) → Roomed (only group channel b' s')
        → (only group channel b s).sends ≡ (only group channel b' s').sends
        → outcome_on group channel a t s ≡ outcome_on group channel a' t s'
    same s s' a a' b b' h h' i i' e =
        by-packets s s' a a' h h'
        (sym (own-cut s) ∙ ap cut (sym (packets s b i) ∙ e ∙ packets s' b' i') ∙ own-cut s')

  -- of two packets that are apart the channel has one at most
  swapped : (ps xs : List (List ℕ)) (p q : List ℕ) → Apart p q → own (ps ++ (p ∷ q ∷ xs)) ≡ own (ps ++ (q ∷ p ∷ xs))
  unfolding packets_on
  swapped [] xs p q h =
      by_bool (mine p)
      (λ m. by_bool (mine q) (λ n. not-both (sym (h group channel) ∙ rw (m, n))) (λ n. rw (m, n)))
      (λ m. rw m)
  swapped (r ∷ ps) xs p q h =
      ap (λ (qs : List (List ℕ)). cond (mine r) (r ∷ qs) qs) (swapped ps xs p q h)

  cut-two : (ps : List (List ℕ)) (p q rest : List ℕ) → All Whole ps → Whole p → Whole q
      → cut (joined ps ++ (p ++ (q ++ rest))) ≡ ps ++ (p ∷ q ∷ cut rest)
  cut-two ps p q rest h i j =
      cut-joined ps (p ++ (q ++ rest)) h
      ∙ ap (◌++◌ ps) (cut-whole p (q ++ rest) i ∙ ap (λ (x : List (List ℕ)). p ∷ x) (cut-whole q rest j))

  fair : (t : List Record) → Fine t → Fair group channel t
  fair t f =
      record {
        alone = alone t f;
        same = same t f;
        places = λ ps p q rest a a' h i j z x x'.
            by-packets t f (joined ps ++ (p ++ (q ++ rest))) (joined ps ++ (q ++ (p ++ rest))) a a' x x'
            (ap own (cut-two ps p q rest h i j) ∙ swapped ps (cut rest) p q z
            ∙ sym (ap own (cut-two ps q p rest h j i)));
      }

pub proved-one-pupil : OnePupil
proved-one-pupil =
    record {
      fair = λ group channel hg hc t l h. fair group channel hg hc t (record { whole = l; sounds = h });
      hands_back = λ group channel hg hc.
          record { packets = packets group channel hg hc; room = enough group channel hg hc };
    }

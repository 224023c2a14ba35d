-- What a call in the middle of a stream comes to: a refusal, a stop, words sent, and a message with its record. Assumes
-- nothing.
use mathlib.Core.Path.{◌≡◌, refl, sym, ap, ◌∙◌}
use mathlib.Core.Bool.{Bool, true, false, cond}
use mathlib.Core.Logic.{⊎_elim}
use mathlib.Core.Option.{Option, none, some}
use Rattle.std.specs.Prelude.{Some, None}
use mathlib.Core.List.{List, [], ◌∷◌}
use Prim.Native.Nat.{ℕ, zero, suc, ◌+◌, ◌-◌, ◌<◌, ◌≤◌, ◌^◌}
use native.Mathlib.Omega.{arith}
use native.Mathlib.Nat.{add-zero}
use lib.Dec.{eqb, leb, ltb}
use lib.ListN.{get_or-eq_default, drop, drop_of_length-le, get_or, length, length-drop, length-take, take}
use lib.Seq.{drop-cons, sets, sets-eq}
use borrow.Author.Tests.{eqb-false, eqb-true, le-leb, ltb-false, ltb-true, ne_eqb}
use Rattle.ground.specs.Store.{written}
use Rattle.ground.proofs.Cases.{by_bool}
use Rattle.ground.proofs.StoreLaws.{written_none}
use Rattle.ump.specs.Word.{channel_of, group_of, message_type, voice1, voice2}
use Rattle.ump.specs.Packet.{first, packet, size}
use Rattle.ump.proofs.PacketLaws.{packet-length, packet-size, size-range}
use Rattle.stream.specs.declared.Done.{Done}
use Rattle.stream.specs.Answers.{no_room, not_sound, sent, stops_run, taken_in}
use Rattle.stream.specs.Call.{Call, answer_of, left_of, read_of, refused, sent_of, stopped, went}
use Rattle.stream.specs.Report.{counting, place_told, placing}
use Rattle.stream.proofs.CallLaws.{refusal, refused-fits}
use Rattle.screen.specs.declared.Rule.{Rule}
use Rattle.screen.specs.Screen.{Screened}
use Rattle.screen.specs.Screen.{goes_on, screen_by, screen_voice1, screened}
use Rattle.screen.proofs.ScreenLaws.{cut-only, refused-above, screen-place, screen-word}
use Rattle.channel.specs.declared.Record.{Record}
use Rattle.message.specs.Message.{Midi2, first2, read1, second2}
use Rattle.lift.specs.declared.TwoWords.{TwoWords}
use Rattle.lift.specs.declared.UpwardMessage.{UpwardMessage}
use Rattle.effect.specs.declared.Effect.{Effect}
use Rattle.effect.specs.declared.Effect.TheVariants.{Leaves}
use Rattle.lift.specs.Lift.{effect_of, lift}
use Rattle.lift.specs.Played.{record_after}
use Rattle.lift.specs.Values.{message_in, sending_in}
use Rattle.lower.specs.declared.UpToFourWords.{UpToFourWords}
use Rattle.lower.specs.Values.{packed}
use Rattle.voice.specs.declared.EffectAndReport.{EffectAndReport}
use Rattle.voice.specs.Output.{sent_words}
use Rattle.voice.specs.Packet.{effect_at, onward_of, packet_if, sending, speak_if, spoken}
use Rattle.voice.specs.Turn.{effect_by, in_room, next, output_after, output_of, report_after, report_of, turned}
use Rattle.voice.proofs.PacketLaws.{packet-voice1}

-- up to four words come back from their values
pub packed-words : (ws : List ℕ) → length ws ≤ 4 → sent_words (packed ws) ≡ ws
unfolding sent_words
packed-words [] h = refl
packed-words (a ∷ []) h = refl
packed-words (a ∷ b ∷ []) h = refl
packed-words (a ∷ b ∷ c ∷ []) h = refl
packed-words (a ∷ b ∷ c ∷ d ∷ []) h = refl
packed-words (a ∷ b ∷ c ∷ d ∷ e ∷ ws) h = absurd (omega arith)

module _ {T : Type 0} (d : Done) (p out : List ℕ) (t : T) where
  -- a refusal
  module _ (a : ℕ) (no-packet : stops_run a ≡ true → p ≡ []) where
    pub refused-report : report_of d p out (refused a t) ≡ placing a (place_told a p) (d.read + length p) d.written
    refused-report =
        let z = refusal {T = ℕ × T} a (length out - d.written, t) p no-packet in
        rw (refused-fits (length out - d.written) a t, z.0, z.1, z.2, add-zero d.written)

    pub refused-output : out ≡ output_of d out (refused a t)
    refused-output =
        let z = refusal {T = ℕ × T} a (length out - d.written, t) p no-packet in
        rw (refused-fits (length out - d.written) a t, z.2) (sym (written_none d.written out))

  -- words sent, if there is room for them
  module _ (ws : List ℕ) where
    abbrev Sent : Call (ℕ × T) → Bool → Type 0
    Sent c b =
        (◌≡◌ {A = Done} (cond b (counting sent (d.read + length p) (d.written + length ws))
        (counting no_room d.read d.written))
        (placing (answer_of c) (place_told (answer_of c) p) (d.read + read_of p c) (d.written + length (sent_of c))))
        × (cond b (written d.written ws out) out ≡ written d.written (sent_of c) out)

    pub sent-words : (report_after d (length p) out ws ≡ report_of d p out (went sent ws t))
        × (output_after d out ws ≡ output_of d out (went sent ws t))
    sent-words = go (leb (length ws) (length out - d.written))
      where
        go : (b : Bool) → Sent (cond b (went sent ws (length out - d.written - length ws, t)) (stopped no_room)) b
        go true = (refl, refl)
        go false = (rw (add-zero d.read, add-zero d.written), sym (written_none d.written out))

-- a packet that passes the screening acts, and one that does not is refused
pub passes : {T : Type 0} (s : Screened) (t : T) (act : Call T) → s.answer ≡ goes_on → screened s t act ≡ act
unfolding screened
passes s t act e = rw e

pub refuses : {T : Type 0} (s : Screened) (t : T) (act : Call T) → (s.answer ≡ goes_on → ⊥)
    → screened s t act ≡ refused s.answer t
unfolding screened
refuses s t act n = rw (ne_eqb s.answer goes_on n)

-- a record that stays beside a refusal
pub refused-turn : (d : Done) (p out : List ℕ) (r : Record) (may : Effect) (a : ℕ) → (stops_run a ≡ true → p ≡ [])
    → leb a taken_in ≡ false
    → record { after = r.memory; effect = Leaves; done = placing a (place_told a p) (d.read + length p) d.written }
    ≡ turned d p out r may (refused a r)
refused-turn d p out r may a no-packet above =
    let z = refusal {T = ℕ × Record} a (length out - d.written, r) p no-packet in
    rw (refused-fits (length out - d.written) a r, z.0, z.1, z.2, z.3, above, add-zero d.written)

-- a message with its record that sends two words
module _ (d : Done) (w : ℕ) (r : Record) (out : List ℕ) (m : UpwardMessage)
    (e : m ≡ message_in w r.memory (read1 w)) where
  abbrev Spoken : EffectAndReport → List ℕ → Type 0
  Spoken x o = (x ≡ turned d (w ∷ []) out r (effect_of (read1 w)) (spoken r w)) × (o ≡ output_of d out (spoken r w))

  abbrev As : Option Midi2 → EffectAndReport → List ℕ → Type 0
  As o x after =
      let c = sending (group_of w) (channel_of w) (record_after r (read1 w)) o in
      (x ≡ turned d (w ∷ []) out r (effect_of (read1 w)) c) × (after ≡ output_of d out c)

  abbrev as_words : Midi2 → TwoWords
  as_words y = record { first = first2 (group_of w) (channel_of w) y; second = second2 y }

  pub message-sent : (x : TwoWords) → m.sends ≡ Some x → 2 ≤ length out - d.written → d.written < length out
      → Spoken (record { after = m.after; effect = m.effect; done = counting sent (d.read + 1) (d.written + 2) })
      (sets out d.written (x.first ∷ x.second ∷ []))
  message-sent x s h i = go (lift r.memory (read1 w)).sends e
    where
      go : (o : Option Midi2) → m ≡ sending_in (group_of w) (channel_of w) (lift r.memory (read1 w)).after
          (effect_of (read1 w)) o
          → As o (record { after = m.after; effect = m.effect; done = counting sent (d.read + 1) (d.written + 2) })
          (sets out d.written (x.first ∷ x.second ∷ []))
      go none f = let k : m.sends ≡ None = ap (λ (z : UpwardMessage). z.sends) f in absurd (cc)
      go (some y) f =
          let k : m.sends ≡ Some (as_words y) = ap (λ (z : UpwardMessage). z.sends) f in
          let z : x ≡ as_words y = cc in
          rw (le-leb 2 (length out - d.written) h)
          (rw f, sets-eq (x.first ∷ x.second ∷ []) out d.written (omega arith) ∙ rw z)

-- the packet at a place where a MIDI 1.0 voice message stands is that one word
module _ (ws : List ℕ) (i : ℕ) where
  pub voice-inside : message_type (get_or ws i 0) ≡ voice1 → i < length ws
  voice-inside h = by_bool (ltb i (length ws)) (λ e. ltb-true i (length ws) e)
      (λ e. absurd (omega (arith, h, get_or-eq_default ws 0 (ltb-false i (length ws) e))))

  pub voice-packet : message_type (get_or ws i 0) ≡ voice1 → packet (drop i ws) ≡ get_or ws i 0 ∷ []
  unfolding packet size
  voice-packet h = rw (
    drop-cons ws i 0 (voice-inside h),
    h,
    le-leb 1 (length (get_or ws i 0 ∷ drop (suc i) ws))
        (omega arith),
  )

  -- and at any other place the packet is of another type
  pub other-packet : (message_type (get_or ws i 0) ≡ voice1 → ⊥)
      → eqb (message_type (first (packet (drop i ws)))) voice1 ≡ false
  unfolding packet
  other-packet n = by_bool (ltb i (length ws)) (λ e. rw (drop-cons ws i 0 (ltb-true i (length ws) e)) (found
      (get_or ws i 0) (drop (suc i) ws) n))
      (λ e. rw (drop_of_length-le ws (ltb-false i (length ws) e)) refl)
    where
      found : (w : ℕ) (s : List ℕ) → (message_type w ≡ voice1 → ⊥)
          → eqb (message_type (first (packet (w ∷ s)))) voice1 ≡ false
      found w s n = ⊎_elim (λ z. rw z) (λ h. rw h.0 (taken (size w) (size-range w))) (packet-size w s)
        where
          taken : (k : ℕ) → (1 ≤ k) × (k ≤ 4) → eqb (message_type (first (take k (w ∷ s)))) voice1 ≡ false
          taken zero h = absurd (omega arith)
          taken (suc k) h = ne_eqb (message_type w) voice1 n

same-either : (b : Bool) → cond b Leaves Leaves ≡ Leaves
same-either true = refl
same-either false = refl

-- what is sent on, going up, leaves the record
module _ (d : Done) (p out : List ℕ) (r : Record) where
  abbrev room : ℕ
  room = length out - d.written

  abbrev Same : Call (ℕ × Unit {0}) → Call (ℕ × Record) → Type 0
  Same c k =
      (◌≡◌ {A = EffectAndReport}
      (record {
        after = r.memory;
        effect = Leaves;
        done = placing (answer_of c) (place_told (answer_of c) p)
            (d.read + read_of p c) (d.written + length (sent_of c));
      })
      (record {
        after = (left_of (room, r) k).1.memory;
        effect = effect_by Leaves k;
        done = placing (answer_of k) (place_told (answer_of k) p) (d.read + read_of p k)
            (d.written + length (sent_of k));
      }))
      × (written d.written (sent_of c) out ≡ written d.written (sent_of k) out)

  same_sent : (l : Bool) → Same (cond l (went sent p (room - length p, tt)) (stopped no_room))
      (cond l (went sent p (room - length p, r)) (stopped no_room))
  same_sent true = (refl, refl)
  same_sent false = (refl, refl)

  same-refused : (a : ℕ) → Same (refused a (room, tt)) (refused a (room, r))
  unfolding refused
  same-refused a = go (stops_run a)
    where
      go : (s : Bool) → Same (cond s (stopped a) (went a [] (room, tt))) (cond s (stopped a) (went a [] (room, r)))
      go true = rw (same-either (leb a taken_in)) (refl, refl)
      go false = rw (same-either (leb a taken_in)) (refl, refl)

  pub onward-turn : (rule : Rule) (ok : Bool) → eqb (message_type (first p)) voice1 ≡ false
      → (record { after = r.memory; effect = Leaves; done = report_of d p out (onward_of rule voice2 p) }
      ≡ turned d p out r (effect_at p) (packet_if rule ok r p))
      × (output_of d out (onward_of rule voice2 p) ≡ output_of d out (packet_if rule ok r p))
  unfolding packet_if
  onward-turn rule ok n = rw n (go (eqb s.answer goes_on) refl)
    where
      s : Screened
      s = screen_by rule voice2 p

      go : (b : Bool) → eqb s.answer goes_on ≡ b → Same (in_room d out (screened s tt (went sent p tt)))
          (in_room d out (screened s r (went sent p r)))
      go true e =
          rw (
            passes {T = Unit {0}} s tt (went sent p tt) (eqb-true s.answer goes_on e),
            passes s r (went sent p r)
                (eqb-true s.answer goes_on e),
          )
          (same_sent (leb (length p) room))
      go false e =
          let f = eqb-false s.answer goes_on e in
          rw (
            refuses {T = Unit {0}} s tt (went sent p tt) f,
            refuses s r (went sent p r) f,
            refused-fits
                {T = Unit {0}} room s.answer tt,
            refused-fits room s.answer r,
          )
          (same-refused s.answer)

-- What the functions report of a packet, from what they were told of it. `r` is the report, and `o` the output after.
module _ (d : Done) (p out : List ℕ) (r : Done) (o : List ℕ) where
  abbrev Comes : Call (Unit {0}) → Type 0
  Comes c = (r ≡ report_of d p out c) × (o ≡ output_of d out c)

  -- up to four words that were sent
  pub sent-comes : (x : UpToFourWords) (ws : List ℕ) → x ≡ packed ws → length ws ≤ 4
      → r ≡ report_after d (length p) out (sent_words x)
      → o ≡ output_after d out (sent_words x) → Comes (went sent ws tt)
  sent-comes x ws e few f g =
      let k : sent_words x ≡ ws = ap sent_words e ∙ packed-words ws few in
      let z = sent-words {T = Unit {0}} d p out tt ws in
      (f ∙ ap (report_after d (length p) out) k ∙ z.0, g ∙ ap (output_after d out) k ∙ z.1)

  module _ (rule : Rule) (wrong : ℕ) (s : Screened) (e : s ≡ screen_by rule wrong p) (act : Call (Unit {0})) where
    pub passed-comes : s.answer ≡ goes_on → Comes act → Comes (screened (screen_by rule wrong p) tt act)
    passed-comes a h = rw (passes {T = Unit {0}} (screen_by rule wrong p) tt act
        (sym (ap (λ (x : Screened). x.answer) e) ∙ a)) h

    pub refused-comes : (s.answer ≡ goes_on → ⊥) → r ≡ placing s.answer s.place (d.read + length p) d.written → o ≡ out
        → Comes (screened (screen_by rule wrong p) tt act)
    refused-comes n f g =
        let no-packet : stops_run s.answer ≡ true → p ≡ [] = λ k. cut-only rule wrong p (ap (λ
        (x : Screened). stops_run x.answer) (sym e) ∙ k) in
        let k : screened (screen_by rule wrong p) tt act ≡ refused s.answer tt =
        rw (← e) (refuses {T = Unit {0}} s tt act n) in
        let told : s.place ≡ place_told s.answer p = rw (← e) at (screen-place rule wrong p) in
        rw k (
          f ∙ ap (λ (x : ℕ). placing s.answer x (d.read + length p) d.written) told
              ∙ sym (refused-report {T = Unit {0}} d p out tt s.answer no-packet),
          g
              ∙ refused-output {T = Unit {0}} d p out tt s.answer no-packet,
        )

-- at most as many words as are left, and at most four
pub next_fits : (ws : List ℕ) (i : ℕ) → length ws < 2 ^ 64 → i < 2 ^ 64 → i + length (packet (drop i ws)) < 2 ^ 64
next_fits ws i h k = omega (arith, packet-length (drop i ws), length-drop i ws, h, k)

pub next-few : (s : List ℕ) → length (packet s) ≤ 4
unfolding packet
next-few [] = omega arith
next-few (w ∷ s) =
    ⊎_elim (λ z. rw z (omega arith)) (λ h. rw h.0 (omega (arith, length-take (size w) (w ∷ s), size-range w)))
    (packet-size w s)

-- a message whose record is sound, and one whose record is not
pub speaks-sound : (ok : Bool) (r : Record) (w : ℕ) → ok ≡ true → speak_if ok r w ≡ spoken r w
unfolding speak_if
speaks-sound ok r w h = rw h

pub speaks-unsound : (ok : Bool) (d : Done) (w : ℕ) (r : Record) (out : List ℕ) → ok ≡ false
    → (record { after = r.memory; effect = Leaves; done = counting not_sound d.read d.written }
    ≡ turned d (w ∷ []) out r (effect_of (read1 w)) (speak_if ok r w))
    × (out ≡ output_of d out (speak_if ok r w))
unfolding speak_if
speaks-unsound ok d w r out h = (rw (h, add-zero d.read, add-zero d.written), rw h (sym (written_none d.written out)))

-- a MIDI 1.0 voice message that the screening refuses
pub check-refused : (rule : Rule) (ok : Bool) (d : Done) (w : ℕ) (r : Record) (out : List ℕ) (s : Screened)
    → message_type w ≡ voice1 → s ≡ screen_voice1 rule w
    → (s.answer ≡ goes_on → ⊥)
    → let x = screen_by rule voice2 (w ∷ []) in
    (record { after = r.memory; effect = Leaves; done = placing s.answer s.place (d.read + 1) d.written }
    ≡ turned d (w ∷ []) out r (effect_of (read1 w)) (screened x r (speak_if ok r w)))
    × (out ≡ output_of d out (screened x r (speak_if ok r w)))
check-refused rule ok d w r out s v e n =
    let x : Screened = screen_by rule voice2 (w ∷ []) in
    let g : s ≡ x = e ∙ screen-word rule w v in
    let f : x.answer ≡ goes_on → ⊥ = λ z. n (ap (λ (y : Screened). y.answer) g ∙ z) in
    let no-packet : stops_run x.answer ≡ true → (w ∷ []) ≡ [] = cut-only rule voice2 (w ∷ []) in
    rw (g, refuses x r (speak_if ok r w) f, screen-place rule voice2 (w ∷ [])) (
      refused-turn d (w ∷ []) out r (effect_of (read1 w)) x.answer no-packet (refused-above rule voice2 (w ∷ []) f),
      refused-output d (w ∷ []) out r x.answer no-packet,
    )

-- one that the screening lets go on: it speaks where its record is sound, and else it stops
module _ (rule : Rule) (ok : Bool) (d : Done) (w : ℕ) (r : Record) (out : List ℕ) (s : Screened)
    (v : message_type w ≡ voice1) (e : s ≡ screen_voice1 rule w) (g : s.answer ≡ goes_on) where
  abbrev Acted : Call Record
  Acted = screened (screen_by rule voice2 (w ∷ [])) r (speak_if ok r w)

  passes-word : Acted ≡ speak_if ok r w
  passes-word =
      passes (screen_by rule voice2 (w ∷ [])) r (speak_if ok r w)
      (sym (ap (λ (x : Screened). x.answer) (e ∙ screen-word rule w v)) ∙ g)

  pub may-speak : ok ≡ true → Acted ≡ spoken r w
  may-speak h = passes-word ∙ speaks-sound ok r w h

  pub may-not-speak : ok ≡ false
      → (record { after = r.memory; effect = Leaves; done = counting not_sound d.read d.written }
      ≡ turned d (w ∷ []) out r (effect_of (read1 w)) Acted)
      × (out ≡ output_of d out Acted)
  may-not-speak h = rw passes-word (speaks-unsound ok d w r out h)

-- and the packet that is one
pub voice-turn : (rule : Rule) (ok : Bool) (d : Done) (ws out : List ℕ) (r : Record) (x : EffectAndReport)
    (o : List ℕ) → message_type (get_or ws d.read 0) ≡ voice1
    → let w = get_or ws d.read 0 in
    let c = screened (screen_by rule voice2 (w ∷ [])) r (speak_if ok r w) in
    (x ≡ turned d (w ∷ []) out r (effect_of (read1 w)) c) × (o ≡ output_of d out c)
    → let p = next ws d in (x ≡ turned d p out r (effect_at p) (packet_if rule ok r p))
    × (o ≡ output_of d out (packet_if rule ok r p))
voice-turn rule ok d ws out r x o e h = rw (
  voice-packet ws d.read e,
  packet-voice1 rule ok r
      (get_or ws d.read 0) e,
  e,
) h

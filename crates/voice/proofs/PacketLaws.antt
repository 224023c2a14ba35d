-- Laws of one packet: a call looks at its own packet alone, and goes on only with a whole one; what it comes to;
-- and it sends at most four words. Assumes nothing.
use Prim.Native.Nat.{ℕ, zero, suc, ◌≤◌}
use mathlib.Core.Path.{◌≡◌, refl, sym, ap, subst}
use mathlib.Core.Bool.{Bool, true, false, ◌||◌}
use mathlib.Core.Logic.{◌⊎◌, inl, inr, ⊎_elim}
use mathlib.Core.Option.{Option, none, some}
use mathlib.Core.List.{List, [], ◌∷◌, map}
use native.Mathlib.Omega.{arith}
use lib.Dec.{eqb, leb, leb-zero, ltb}
use lib.ListN.{drop, drop_of_length-le, get_or, length, length-map, take}
use lib.Seq.{drop-cons}
use borrow.Author.Tests.{ltb-false, ltb-true}
use Rattle.ground.proofs.Cases.{by_bool, choose}
use Rattle.effect.specs.Effect.{effected}
use Rattle.ump.specs.Word.{channel_of, data1, group_of, message_type, voice1, voice2}
use Rattle.ump.specs.Packet.{first, packet, second, size}
use Rattle.ump.proofs.PacketLaws.{packet-near, packet-size, size-range}
use Rattle.stream.specs.Answers.{cut_packet, no_form, not_sound, sent, stops_run, taken_in}
use Rattle.stream.specs.Call.{Call, answer_of, fit, left_of, refused, sent_of, stopped, went}
use Rattle.stream.proofs.CallLaws.{refusal, refused-fits}
use Rattle.stream.proofs.RunLaws.{Does}
use Rattle.stream.proofs.RunLoop.{Inside, packet-inside}
use Rattle.screen.specs.declared.Rule.{Rule}
use Rattle.screen.specs.Screen.{goes_on, screen_by, screened}
use Rattle.screen.proofs.ScreenLaws.{cut-only, refused-above, screened-cases}
use Rattle.channel.specs.declared.Record.{Record}
use Rattle.channel.specs.Record.{sound}
use Rattle.message.specs.Message.{Midi1, Midi2, read1, read2, write1, write2}
use Rattle.lift.specs.Lift.{lift}
use Rattle.lift.specs.Played.{record_after}
use Rattle.lift.proofs.EffectLaws.{effect-does}
use Rattle.lower.specs.Lower.{lower}
use Rattle.lower.proofs.LowerLaws.{lower-few}
use Rattle.voice.specs.Packet.{act_down, act_if, call_by, call_down_by, packet_down_by, packet_if, sending}
use Rattle.voice.specs.Packet.{effect_at, sending_down, speak_down, speak_if}
use Rattle.voice.specs.Turn.{effect_by}

pub down-near : (rule : Rule) (t : Unit {0}) (w : ℕ) (s : List ℕ)
    → call_down_by rule t (take (size w) (w ∷ s)) ≡ call_down_by rule t (w ∷ s)
unfolding call_down_by
down-near rule t w s = rw (packet-near w s)

pub up-inside : (rule : Rule) (known : Bool) (r : Record) (w : ℕ) (s : List ℕ)
    → Inside (w ∷ s) (call_by rule known r (w ∷ s))
unfolding call_by packet_if screen_by screened refused
up-inside rule known r w s = packet-inside (packet_if rule (known || sound r) r) refl w s

pub down-inside : (rule : Rule) (t : Unit {0}) (w : ℕ) (s : List ℕ) → Inside (w ∷ s) (call_down_by rule t (w ∷ s))
unfolding call_down_by packet_down_by screen_by screened refused
down-inside rule t w s = packet-inside (packet_down_by rule) refl w s

-- What a call up comes to under a rule at the packet p, whose first word is w, with the record r, of which `ok` says
-- that
-- it is sound: refused, sent on, or a voice message. In a state t, where `put` puts a record back.
pub record UpCases {T : Type 0} (P : Call T → Type 0) (t : T) (put : Record → T) (rule : Rule) (ok : Bool) (r : Record)
    (p : List ℕ) (w : ℕ) : Type 0 where
  pub refuses : ((screen_by rule voice2 p).answer ≡ goes_on → ⊥) → P (refused (screen_by rule voice2 p).answer t)
  pub onward : (screen_by rule voice2 p).answer ≡ goes_on → eqb (message_type w) voice1 ≡ false → P (went sent p t)
  pub unsound : (screen_by rule voice2 p).answer ≡ goes_on → eqb (message_type w) voice1 ≡ true → ok ≡ false
      → P (stopped not_sound)
  pub takes : (screen_by rule voice2 p).answer ≡ goes_on → eqb (message_type w) voice1 ≡ true → ok ≡ true
      → (lift r.memory (read1 w)).sends ≡ none → P (went taken_in [] (put (record_after r (read1 w))))
  pub sends : (screen_by rule voice2 p).answer ≡ goes_on → eqb (message_type w) voice1 ≡ true → ok ≡ true → (m : Midi2)
      → (lift r.memory (read1 w)).sends ≡ some m
      → P (went sent (write2 (group_of w) (channel_of w) m) (put (record_after r (read1 w))))

abbrev itself : Record → Record
itself r = r

pub up-cases : (P : Call Record → Type 0) (rule : Rule) (ok : Bool) (r : Record) (p : List ℕ)
    → UpCases P r itself rule ok r p (first p)
    → P (packet_if rule ok r p)
unfolding packet_if speak_if
up-cases P rule ok r p u =
    screened-cases P (screen_by rule voice2 p) r (act_if ok r p)
    (λ f. choose P (eqb (message_type w) voice1)
    (λ e. choose P ok (λ h. go f e h (lift r.memory (read1 w)).sends refl) (u.unsound f e)) (u.onward f))
    u.refuses
  where
    w : ℕ
    w = first p

    go : (screen_by rule voice2 p).answer ≡ goes_on → eqb (message_type w) voice1 ≡ true → ok ≡ true
        → (o : Option Midi2)
        → (lift r.memory (read1 w)).sends ≡ o → P (sending (group_of w) (channel_of w) (record_after r (read1 w)) o)
    go f e h none k = u.takes f e h k
    go f e h (some m) k = u.sends f e h m k

-- and what a call down comes to
pub record DownCases (P : Call (Unit {0}) → Type 0) (rule : Rule) (p : List ℕ) : Type 0 where
  pub refuses : ((screen_by rule voice1 p).answer ≡ goes_on → ⊥) → P (refused (screen_by rule voice1 p).answer tt)
  pub onward : (screen_by rule voice1 p).answer ≡ goes_on → eqb (message_type (first p)) voice2 ≡ false
      → P (went sent p tt)
  pub formless : (screen_by rule voice1 p).answer ≡ goes_on → eqb (message_type (first p)) voice2 ≡ true
      → lower (read2 (first p) (second p)) ≡ [] → P (went no_form [] tt)
  pub sends : (screen_by rule voice1 p).answer ≡ goes_on → eqb (message_type (first p)) voice2 ≡ true
      → (m : Midi1) (ms : List Midi1)
      → lower (read2 (first p) (second p)) ≡ m ∷ ms
      → P (went sent (map (write1 (group_of (first p)) (channel_of (first p))) (m ∷ ms)) tt)

pub down-cases : (P : Call (Unit {0}) → Type 0) (rule : Rule) (p : List ℕ) → DownCases P rule p
    → P (packet_down_by rule p)
unfolding packet_down_by speak_down
down-cases P rule p d =
    screened-cases P (screen_by rule voice1 p) tt (act_down p)
    (λ f. choose P (eqb (message_type (first p)) voice2) (λ e. go f e (lower (read2 (first p) (second p))) refl)
    (d.onward f))
    d.refuses
  where
    go : (screen_by rule voice1 p).answer ≡ goes_on → eqb (message_type (first p)) voice2 ≡ true → (ms : List Midi1)
        → lower (read2 (first p) (second p)) ≡ ms → P (sending_down (group_of (first p)) (channel_of (first p)) ms)
    go f e [] k = d.formless f e k
    go f e (m ∷ ms) k = d.sends f e m ms k

-- what is left, if a call goes on, and what it stops with
refused-does : {T : Type 0} (I : T → Type 0) (A : ℕ → Type 0) (rule : Rule) (wrong : ℕ) (p : List ℕ) (t : T) → I t
    → A cut_packet
    → Does I A (refused (screen_by rule wrong p).answer t)
unfolding refused screen_by
refused-does I A rule wrong p t h three =
    choose (Does I A) (stops_run (screen_by rule wrong p).answer)
    (λ e. subst (λ (q : List ℕ). A (screen_by rule wrong q).answer) (sym (cut-only rule wrong p e)) three) (λ _. h)

pub up-does : (I : Record → Type 0) (A : ℕ → Type 0) (rule : Rule) (r : Record) (p : List ℕ) → I r → A cut_packet
    → (sound r ≡ false → A not_sound)
    → ((screen_by rule voice2 p).answer ≡ goes_on → eqb (message_type (first p)) voice1 ≡ true → sound r ≡ true
    → I (record_after r (read1 (first p))))
    → Does I A (packet_if rule (sound r) r p)
up-does I A rule r p h three eight after =
    up-cases (Does I A) rule (sound r) r p
    (record {
      refuses = λ _. refused-does I A rule voice2 p r h three;
      onward = λ _ _. h;
      unsound = λ _ _. eight;
      takes = λ f v e _. after f v e;
      sends = λ f v e _ _. after f v e;
    })

pub down-does : (A : ℕ → Type 0) (rule : Rule) (p : List ℕ) → A cut_packet
    → Does (λ _. Unit {0}) A (packet_down_by rule p)
down-does A rule p three =
    down-cases (Does (λ _. Unit {0}) A) rule p
    (record {
      refuses = λ _. refused-does (λ _. Unit {0}) A rule voice1 p tt tt three;
      onward = λ _ _. tt;
      formless = λ _ _ _. tt;
      sends = λ _ _ _ _ _. tt;
    })

-- at most four words are sent
abbrev UpToFour : {T : Type 0} → Call T → Type 0
UpToFour c = length (sent_of c) ≤ 4

refused-four : {T : Type 0} (a : ℕ) (t : T) → UpToFour (refused a t)
refused-four a t = rw (refusal a t [] (λ _. refl)).2 (omega arith)

pub few-up : (rule : Rule) (r : Record) (p : List ℕ) → length p ≤ 4
    → length (sent_of (packet_if rule (sound r) r p)) ≤ 4
few-up rule r p h =
    up-cases UpToFour rule (sound r) r p
    (record {
      refuses = λ _. refused-four (screen_by rule voice2 p).answer r;
      onward = λ _ _. h;
      unsound = λ _ _ _. omega arith;
      takes = λ _ _ _ _. omega arith;
      sends = λ _ _ _ _ _. omega arith;
    })

pub few-down : (rule : Rule) (p : List ℕ) → length p ≤ 4 → length (sent_of (packet_down_by rule p)) ≤ 4
few-down rule p h =
    down-cases UpToFour rule p
    (record {
      refuses = λ _. refused-four (screen_by rule voice1 p).answer tt;
      onward = λ _ _. h;
      formless = λ _ _ _. omega arith;
      sends = λ _ _ m ms k.
          let l : suc (length ms) ≤ 4 = rw k at (lower-few (read2 (first p) (second p))) in
          omega (arith, length-map ms (write1 (group_of (first p)) (channel_of (first p))));
    })

-- without a packet nothing happens
pub up-cut : (rule : Rule) (ok : Bool) (r : Record) → packet_if rule ok r [] ≡ stopped cut_packet
unfolding packet_if screen_by screened refused
up-cut rule ok r = refl

-- a MIDI 1.0 voice message by its one word
pub packet-voice1 : (rule : Rule) (ok : Bool) (r : Record) (w : ℕ) → message_type w ≡ 2
    → packet_if rule ok r (w ∷ []) ≡ screened (screen_by rule voice2 (w ∷ [])) r (speak_if ok r w)
unfolding packet_if
packet-voice1 rule ok r w h = rw h

-- The effect that is told is what becomes of the record, in an output of so much room.
module _ (rule : Rule) (room : ℕ) (ok : Bool) (r : Record) (p : List ℕ) where
  abbrev key : ℕ
  key = data1 (first p)

  abbrev Made : Call (ℕ × Record) → Type 0
  Made c =
      effected r (effect_by (effect_at p) c) (left_of (room, r) c).1.memory key ≡ (left_of (room, r) c).1

  stays : (a : ℕ) → leb a taken_in ≡ false → (c : Call (ℕ × Record)) → answer_of c ≡ a → (left_of (room, r) c).1 ≡ r
      → Made c
  unfolding effected
  stays a h c e l = rw (e, h, l)

  pub effect-made : Made (fit room (packet_if rule ok r p))
  unfolding effected
  effect-made =
      up-cases (λ (c : Call Record). Made (fit room c)) rule ok r p
      (record {
        refuses = λ n.
            let a = (screen_by rule voice2 p).answer in
            let z = refusal {T = ℕ × Record} a (room, r) [] (λ _. refl) in
            rw (refused-fits room a r)
            (stays a (refused-above rule voice2 p n) (refused a (room, r)) z.0 (ap (λ (x : ℕ × Record). x.1) z.3));
        onward = λ _ e. choose Made (leb (length p) room) (λ _. rw e) (λ _. refl);
        unsound = λ _ _ _. refl;
        takes = λ _ e _ _. rw (leb-zero room, e) (effect-does r (first p));
        sends = λ _ e _ m _.
            choose Made (leb (length (write2 (group_of (first p)) (channel_of (first p)) m)) room)
            (λ _. rw e (effect-does r (first p))) (λ _. refl);
      })

-- a packet that is there has its first word from the words
first_of : (ws : List ℕ) (i : ℕ) → (packet (drop i ws) ≡ []) ⊎ (first (packet (drop i ws)) ≡ get_or ws i 0)
unfolding packet
first_of ws i =
    by_bool (ltb i (length ws))
    (λ e. rw (drop-cons ws i 0 (ltb-true i (length ws) e)) (go (get_or ws i 0) (drop (suc i) ws)))
    (λ e. inl (rw (drop_of_length-le ws (ltb-false i (length ws) e)) refl))
  where
    taken : (w : ℕ) (s : List ℕ) (k : ℕ) → (1 ≤ k) × (k ≤ 4) → first (take k (w ∷ s)) ≡ w
    taken w s zero h = absurd (omega arith)
    taken w s (suc k) h = refl

    go : (w : ℕ) (s : List ℕ) → (packet (w ∷ s) ≡ []) ⊎ (first (packet (w ∷ s)) ≡ w)
    go w s = ⊎_elim (λ z. inl z) (λ h. inr (rw h.0 (taken w s (size w) (size-range w)))) (packet-size w s)

-- the effect of a packet, with its own key, is the record that its call leaves; where there is no packet, any key will
-- do
effect-left : (rule : Rule) (room : ℕ) (ok : Bool) (r : Record) (p : List ℕ) (k : ℕ) → (p ≡ []) ⊎ (data1 (first p) ≡ k)
    → effected r (effect_by (effect_at p) (fit room (packet_if rule ok r p)))
    (left_of (room, r) (fit room (packet_if rule ok r p))).1.memory k
    ≡ (left_of (room, r) (fit room (packet_if rule ok r p))).1
unfolding effected
effect-left rule room ok r p k (inl z) = subst Leaves (sym z) none
  where
    Leaves : List ℕ → Type 0
    Leaves p =
        effected r (effect_by (effect_at p) (fit room (packet_if rule ok r p)))
        (left_of (room, r) (fit room (packet_if rule ok r p))).1.memory k
        ≡ (left_of (room, r) (fit room (packet_if rule ok r p))).1

    none : Leaves []
    none = rw (up-cut rule ok r) refl
effect-left rule room ok r p k (inr e) = rw (← e) (effect-made rule room ok r p)

-- so it is with the key that stands in the words
pub effect-at : (rule : Rule) (room : ℕ) (ok : Bool) (r : Record) (ws : List ℕ) (i : ℕ) → let p = packet (drop i ws) in
    effected r (effect_by (effect_at p) (fit room (packet_if rule ok r p)))
    (left_of (room, r) (fit room (packet_if rule ok r p))).1.memory
    (data1 (get_or ws i 0))
    ≡ (left_of (room, r) (fit room (packet_if rule ok r p))).1
effect-at rule room ok r ws i =
    effect-left rule room ok r (packet (drop i ws)) (data1 (get_or ws i 0))
    (⊎_elim (λ z. inl z) (λ e. inr (ap data1 e)) (first_of ws i))

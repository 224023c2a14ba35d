-- `pupil::Pupil::pick_next`: a cut packet stops, a MIDI 1.0 voice message is its one word, and any other packet is
-- passed over by its size. Assumes nothing.
use Prim.Native.Nat.{ℕ, ◌-◌, ◌≤◌, ◌<◌}
use mathlib.Core.Path.{◌≡◌, ap, sym, ◌∙◌}
use mathlib.Core.List.{List, [], ◌∷◌}
use native.Mathlib.Omega.{arith}
use lib.ListN.{drop, get_or, length}
use Rattle.ump.specs.Word.{message_type, voice1}
use Rattle.ump.specs.Packet.{first, packet, size}
use Rattle.ump.proofs.PacketLaws.{one_word, packet-end, packet-short, size-range, whole_words}
use Rattle.stream.specs.Call.{within}
use Rattle.pupil.specs.Only.{pick}
use Rattle.pupil.proofs.PickLaws.{at_cut, at_other, at_own, no-voice, voice-size}
use Rattle.pupil.proofs.Pupil.pick_next.Goals as goal

-- the packet that is next, where its first word is a MIDI 1.0 voice message
voice : (ws : List ℕ) (i : ℕ) → i < length ws → message_type (get_or ws i 0) ≡ voice1
    → packet (drop i ws) ≡ get_or ws i 0 ∷ []
voice ws i h m = one_word ws i h (voice-size (get_or ws i 0) m)

pub returns-then-words-read : goal.returns-then-words-read
unfolding pick within
returns-then-words-read c =
    let a = c.args in
    let e = packet-end a.words.now a.past.read c.if-words-read.true in
    let z = at_cut a.self.group a.self.channel a.past (packet (drop a.past.read a.words.now)) a.out.now e in
    record {
      report = c.report.ensures ∙ z.0;
      output = z.1;
    }

pub returns-then-is_voice : goal.returns-then-is_voice
unfolding pick within
returns-then-is_voice c =
    let a = c.args in
    let w = get_or a.words.now a.past.read 0 in
    let one = voice a.words.now a.past.read c.if-words-read.false
    (sym c.message_type.ensures ∙ c.if-message_type-eq-MIDI1_VOICE.true) in
    let v = sym c.is_voice.ensures ∙ c.if-is_voice.true in
    let z = at_own a.self.group a.self.channel a.past (packet (drop a.past.read a.words.now)) a.out.now w _ _ one v
    (c.hand_back.ensures.report, c.hand_back.ensures.output) in
    record { report = z.0; output = z.1 }

pub returns-then-message_type-eq-MIDI1_VOICE : goal.returns-then-message_type-eq-MIDI1_VOICE
unfolding pick within
returns-then-message_type-eq-MIDI1_VOICE c =
    let a = c.args in
    let w = get_or a.words.now a.past.read 0 in
    let one = voice a.words.now a.past.read c.if-words-read.false
    (sym c.message_type.ensures ∙ c.if-message_type-eq-MIDI1_VOICE.true) in
    let v = sym c.is_voice.ensures ∙ c.if-is_voice.false in
    let z = at_other a.self.group a.self.channel a.past (packet (drop a.past.read a.words.now)) a.out.now w 1
    (ap first one) (ap length one) (λ (e : ◌≡◌ {A = ℕ} 1 0). omega (arith, e)) v in
    record {
      report = c.report-then-message_type-eq-MIDI1_VOICE.ensures ∙ z.0;
      output = z.1;
    }

pub returns-then-words-read-2 : goal.returns-then-words-read-2
unfolding pick within
returns-then-words-read-2 c =
    let a = c.args in
    let n = c.size-n.ensures in
    let e = packet-short a.words.now a.past.read c.if-words-read.false
    (rw n at c.if-words-read-2.true) in
    let z = at_cut a.self.group a.self.channel a.past (packet (drop a.past.read a.words.now)) a.out.now e in
    record {
      report = c.report-then-words-read-2.ensures ∙ z.0;
      output = z.1;
    }

pub returns-else-words-read-2 : goal.returns-else-words-read-2
unfolding pick within
returns-else-words-read-2 c =
    let a = c.args in
    let w = get_or a.words.now a.past.read 0 in
    let n = c.size-n.ensures in
    let h : size w ≤ length a.words.now - a.past.read = omega (arith, n, c.if-words-read-2.false) in
    let l = whole_words a.words.now a.past.read c.if-words-read.false h in
    let m : message_type w ≡ voice1 → ⊥ = λ e. c.if-message_type-eq-MIDI1_VOICE.false
    (c.message_type.ensures ∙ e) in
    let z = at_other a.self.group a.self.channel a.past (packet (drop a.past.read a.words.now)) a.out.now w
    (size w) l.0 l.1 (λ (e : ◌≡◌ {A = ℕ} (size w) 0). omega (arith, e, (size-range w).0))
    (no-voice a.self.group a.self.channel w m) in
    record {
      report = c.report-else-words-read-2.ensures ∙ rw n z.0;
      output = z.1;
    }

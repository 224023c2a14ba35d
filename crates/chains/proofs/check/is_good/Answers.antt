-- `chains::check::is_good`: voice messages of each protocol by their own check, and all others by that of what passes
-- unchanged.
use mathlib.Core.Path.{◌≡◌, sym, ◌∙◌}
use mathlib.Core.Logic.{inr}
use native.Mathlib.Omega.{arith}
use lib.ListN.{length}
use Rattle.ump.specs.Packet.{packet}
use Rattle.fields.specs.Check.{checked_fields, good_status}
use Rattle.chains.proofs.StandLaws.{double-at, single-at, size-two, voice1-at, voice2-at, whole-at, words-of}
use Rattle.chains.proofs.check.is_good.Goals as goal

pub bounds-words-0 : goal.bounds-words-0
bounds-words-0 c = let a = c.args in
    let q = c.requires in
    let some : length (packet a.words.now) ≡ 0 → ⊥ = λ z. q.1 (q.0 ∙ z) in
    omega (arith, (whole-at a.words.now 0 some).inside)

pub returns-then-t-eq-MIDI1_VOICE : goal.returns-then-t-eq-MIDI1_VOICE
returns-then-t-eq-MIDI1_VOICE c = let a = c.args in
    let q = c.requires in
    let some : length (packet a.words.now) ≡ 0 → ⊥ = λ z. q.1 (q.0 ∙ z) in
    let e = sym c.message_type-t.ensures ∙ c.if-t-eq-MIDI1_VOICE.true in
    rw (c.is_good_voice1.ensures, c.is_voice1_status.ensures) (voice1-at a.words.now 0 some e)

pub bounds-words-1 : goal.bounds-words-1
bounds-words-1 c = let a = c.args in
    let q = c.requires in
    let some : length (packet a.words.now) ≡ 0 → ⊥ = λ z. q.1 (q.0 ∙ z) in
    let e = sym c.message_type-t.ensures ∙ c.if-t-eq-MIDI2_VOICE.true in
    omega (arith, (whole-at a.words.now 0 some).fits, size-two _ (inr e))

pub returns-then-t-eq-MIDI2_VOICE : goal.returns-then-t-eq-MIDI2_VOICE
unfolding good_status checked_fields
returns-then-t-eq-MIDI2_VOICE c = let a = c.args in
    let q = c.requires in
    let some : length (packet a.words.now) ≡ 0 → ⊥ = λ z. q.1 (q.0 ∙ z) in
    let e = sym c.message_type-t.ensures
    ∙ c.if-t-eq-MIDI2_VOICE.true in
    c.is_good_voice2.ensures ∙ rw e at (voice2-at a.words.now 0 some e)

pub returns-then-n-lt2 : goal.returns-then-n-lt2
returns-then-n-lt2 c = let a = c.args in
    let q = c.requires in
    let some : length (packet a.words.now) ≡ 0 → ⊥ = λ z. q.1 (q.0 ∙ z) in
    let m = c.message_type-t.ensures in
    c.is_good_unchanged.ensures ∙ single-at a.words.now 0 some (λ e. c.if-t-eq-MIDI1_VOICE.false (m ∙
    e))
    (λ e. c.if-t-eq-MIDI2_VOICE.false (m ∙ e)) (omega (arith, q.0))

pub bounds-words-1-2 : goal.bounds-words-1-2
bounds-words-1-2 c = let a = c.args in
    let q = c.requires in
    let some : length (packet a.words.now) ≡ 0 → ⊥ = λ z. q.1 (q.0 ∙ z) in
    let w = whole-at a.words.now 0 some in
    omega (arith, q.0, w.fits, words-of a.words.now 0 w)

pub returns : goal.returns
returns c = let a = c.args in
    let q = c.requires in
    let some : length (packet a.words.now) ≡ 0 → ⊥ = λ z. q.1 (q.0 ∙ z) in
    let m = c.message_type-t.ensures in
    c.is_good_unchanged-2.ensures ∙ double-at a.words.now 0 some (λ e. c.if-t-eq-MIDI1_VOICE.false (m ∙ e))
    (λ e. c.if-t-eq-MIDI2_VOICE.false (m ∙ e)) (omega (arith, q.0))

-- Laws of picking one channel's packets: each is one word; a step looks at its own packet alone and goes on only with a
-- whole one; and what the code reports of a packet is what the definition says. Assumes nothing.
use Prim.Native.Nat.{ℕ, ◌+◌, ◌-◌, ◌≤◌, ◌<◌}
use mathlib.Core.Path.{◌≡◌, refl, ap, sym, ◌∙◌}
use mathlib.Core.Bool.{true, false}
use mathlib.Core.List.{List, [], ◌∷◌}
use native.Mathlib.Omega.{arith}
use native.Mathlib.Nat.{add-zero}
use lib.Dec.{leb-zero}
use lib.ListN.{length, set}
use lib.Seq.{sets-eq}
use borrow.Author.Tests.{le-leb, lt-leb, ne_eqb}
use Rattle.ground.specs.Store.{written}
use Rattle.ground.proofs.StoreLaws.{written_none}
use Rattle.ump.specs.Word.{message_type, voice1}
use Rattle.ump.specs.Packet.{first, size}
use Rattle.ump.proofs.PacketLaws.{size-by}
use Rattle.stream.specs.declared.Done.{Done}
use Rattle.stream.specs.Answers.{cut_packet, no_room, sent, taken_in}
use Rattle.stream.specs.Call.{fit, sent_of}
use Rattle.stream.specs.Report.{counting, further}
use Rattle.pupil.specs.Only.{handed_at, picked, voice_on}

-- a MIDI 1.0 voice message has one word
pub voice-size : (w : ℕ) → message_type w ≡ voice1 → size w ≡ 1
voice-size w e = size-by w voice1 e

-- what is no MIDI 1.0 voice message is none of a channel
pub no-voice : (group channel w : ℕ) → (message_type w ≡ voice1 → ⊥) → voice_on group channel w ≡ false
no-voice group channel w n = rw (ne_eqb (message_type w) voice1 n)

-- a word that is handed back, and one that has no room
module _ (d : Done) (w : ℕ) (out : List ℕ) where
  abbrev Handed : Done → List ℕ → Type 0
  Handed r after =
      let c = handed_at w d out in
      (r ≡ further d (w ∷ []) c) × (after ≡ written d.written (sent_of c) out)

  pub handed : d.written < length out → Handed (counting sent (d.read + 1) (d.written + 1)) (set out d.written w)
  handed h =
      rw (le-leb 1 (length out - d.written) (omega arith)) (refl, sets-eq (w ∷ []) out d.written (omega arith))

  pub no_room_lem : length out ≤ d.written → Handed (counting no_room d.read d.written) out
  no_room_lem h =
      rw (lt-leb 1 (length out - d.written) (omega arith))
      (rw (add-zero d.read, add-zero d.written), sym (written_none d.written out))

-- what the packet p, which is next, comes to
module _ (group channel : ℕ) (d : Done) (p out : List ℕ) where
  abbrev At : Done → List ℕ → Type 0
  At r after =
      let c = fit (length out - d.written) (picked group channel p) in
      (r ≡ further d p c) × (after ≡ written d.written (sent_of c) out)

  pub at_cut : p ≡ [] → At (counting cut_packet d.read d.written) out
  at_cut e = rw e (rw (add-zero d.read, add-zero d.written), sym (written_none d.written out))

  pub at_own : (w : ℕ) (r : Done) (after : List ℕ) → p ≡ w ∷ [] → voice_on group channel w ≡ true
      → Handed d w out r after → At r after
  at_own w r after e v h = rw (e, v) h

  passed_over : (length p ≡ 0 → ⊥) → voice_on group channel (first p) ≡ false
      → At (counting taken_in (d.read + length p) d.written) out
  passed_over some v =
      rw (ne_eqb (length p) 0 some, v, leb-zero (length out - d.written))
      (rw (add-zero d.written), sym (written_none d.written out))

  pub at_other : (w n : ℕ) → first p ≡ w → length p ≡ n → (n ≡ 0 → ⊥) → voice_on group channel w ≡ false
      → At (counting taken_in (d.read + n) d.written) out
  at_other w n f l some v =
      let z = passed_over (λ (e : length p ≡ 0). some (sym l ∙ e)) (ap (voice_on group channel) f ∙ v) in
      (ap (λ (k : ℕ). counting taken_in (d.read + k) d.written) (sym l) ∙ z.0, z.1)

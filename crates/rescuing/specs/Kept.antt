-- The calls of the two runs of a rescue, over what the code keeps: nothing, and what went before.
use Rattle.std.specs.Prelude.{ℕ, ◌≡◌, List, ◌∷◌, refl, take}
use mathlib.Core.Path.{ap}
use Rattle.ump.specs.Packet.{size}
use Rattle.ump.proofs.PacketLaws.{packet-near}
use Rattle.stream.specs.Call.{Call}
use Rattle.stream.specs.Calls.{Inside, OwnPacket, seen}
use Rattle.stream.proofs.RunLoop.{packet-inside}
use Rattle.stream.proofs.SeenLaws.{inside-seen}
use Rattle.recording.specs.declared.Past.{Past}
use Rattle.recording.specs.Recording.{kept_of, line_of, past_after, text_of}
use Rattle.rescuing.specs.declared.keep.Keeping.{Keeping}
use Rattle.rescuing.specs.declared.tell.Telling.{Telling}
use Rattle.rescuing.specs.Rescue.{keep, rowed, tell}

abbrev pub keeping : Keeping → List ℕ → Call Keeping
keeping x s = seen (λ _. x) (keep tt s)

abbrev pub after : Past → Telling
after past = record { past = past }

abbrev pub telling : Telling → List ℕ → Call Telling
telling x s = seen after (tell x.past s)

-- each looks at its own packet alone, and goes on only with a whole one
keep-near : (t : Unit {0}) (w : ℕ) (s : List ℕ) → keep t (take (size w) (w ∷ s)) ≡ keep t (w ∷ s)
unfolding keep
keep-near t w s = rw (packet-near w s)

keep-inside : (t : Unit {0}) (w : ℕ) (s : List ℕ) → Inside (w ∷ s) (keep t (w ∷ s))
unfolding keep
keep-inside t w s = packet-inside (λ p. rowed p (kept_of p) tt) refl w s

tell-near : (t : Past) (w : ℕ) (s : List ℕ) → tell t (take (size w) (w ∷ s)) ≡ tell t (w ∷ s)
unfolding tell
tell-near t w s = rw (packet-near w s)

tell-inside : (t : Past) (w : ℕ) (s : List ℕ) → Inside (w ∷ s) (tell t (w ∷ s))
unfolding tell
tell-inside t w s = packet-inside (λ p. rowed p (text_of (line_of t p)) (past_after t p)) refl w s

pub keeping-own : OwnPacket keeping
keeping-own =
    record {
      alone = λ x w s. ap (seen (λ _. x)) (keep-near tt w s);
      whole = λ x w s. inside-seen (λ _. x) (w ∷ s) (keep tt (w ∷ s)) (keep-inside tt w s);
    }

pub telling-own : OwnPacket telling
telling-own =
    record {
      alone = λ x w s. ap (seen after) (tell-near x.past w s);
      whole = λ x w s. inside-seen after (w ∷ s) (tell x.past (w ∷ s)) (tell-inside x.past w s);
    }

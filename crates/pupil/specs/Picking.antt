-- The calls of a run that picks one channel's packets, over what the code keeps: which channel that is.
use Rattle.std.specs.Prelude.{ℕ, ◌≡◌, List, ◌∷◌, refl, take}
use mathlib.Core.Path.{ap}
use Rattle.ump.specs.Packet.{size}
use Rattle.ump.proofs.PacketLaws.{packet-near}
use Rattle.stream.specs.Call.{Call}
use Rattle.stream.specs.Calls.{Inside, OwnPacket, seen}
use Rattle.stream.proofs.RunLoop.{packet-inside}
use Rattle.stream.proofs.SeenLaws.{inside-seen}
use Rattle.pupil.specs.declared.Pupil.{Pupil}
use Rattle.pupil.specs.Only.{pick, picked}

abbrev pub picking : Pupil → List ℕ → Call Pupil
picking x s = seen (λ _. x) (pick x.group x.channel tt s)

-- a pick looks at its own packet alone, and goes on only with a whole one
module _ (group channel : ℕ) where
  pub pick-near : (t : Unit {0}) (w : ℕ) (s : List ℕ)
      → pick group channel t (take (size w) (w ∷ s)) ≡ pick group channel t (w ∷ s)
  unfolding pick
  pick-near t w s = rw (packet-near w s)

  pub pick-inside : (t : Unit {0}) (w : ℕ) (s : List ℕ) → Inside (w ∷ s) (pick group channel t (w ∷ s))
  unfolding pick
  pick-inside t w s = packet-inside (picked group channel) refl w s

pub picking-own : OwnPacket picking
picking-own =
    record {
      alone = λ x w s. ap (seen (λ _. x)) (pick-near x.group x.channel tt w s);
      whole = λ x w s. inside-seen (λ _. x) (w ∷ s) (pick x.group x.channel tt (w ∷ s))
          (pick-inside x.group x.channel tt w s);
    }

-- The calls of a run of the desk, over what the code keeps: the desk, and the units of its range.
use Rattle.std.specs.Prelude.{ℕ, ◌≡◌, List, ◌∷◌, refl, take}
use mathlib.Core.Path.{ap}
use Rattle.ump.specs.Packet.{size}
use Rattle.ump.proofs.PacketLaws.{packet-near}
use Rattle.stream.specs.Call.{Call, refused}
use Rattle.stream.specs.Calls.{Inside, OwnPacket, seen}
use Rattle.stream.proofs.RunLoop.{packet-inside}
use Rattle.stream.proofs.SeenLaws.{inside-seen}
use Rattle.screen.specs.Screen.{screen_by, screened}
use Rattle.tuning.specs.declared.Desk.{Desk}
use Rattle.display.specs.declared.run.Showing.{Showing}
use Rattle.display.specs.Run.{show, shown_of}

-- what is kept of a desk
abbrev pub kept : ℕ → Desk → Showing
kept units d = record { desk = d; units = units }

abbrev pub showing : Showing → List ℕ → Call Showing
showing x s = seen (kept x.units) (show x.units x.desk s)

-- a call looks at its own packet alone, and goes on only with a whole one
module _ (units : ℕ) where
  pub show-near : (d : Desk) (w : ℕ) (s : List ℕ) → show units d (take (size w) (w ∷ s)) ≡ show units d (w ∷ s)
  unfolding show
  show-near d w s = rw (packet-near w s)

  pub show-inside : (d : Desk) (w : ℕ) (s : List ℕ) → Inside (w ∷ s) (show units d (w ∷ s))
  unfolding show screened screen_by refused
  show-inside d w s = packet-inside (shown_of units d) refl w s

pub showing-own : OwnPacket showing
showing-own =
    record {
      alone = λ x w s. ap (seen (kept x.units)) (show-near x.units x.desk w s);
      whole = λ x w s. inside-seen (kept x.units) (w ∷ s) (show x.units x.desk (w ∷ s)) (show-inside x.units x.desk w s);
    }

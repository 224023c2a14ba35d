-- `desk_claims::examples` meets its contract: the list computes.
use mathlib.Core.Path.{refl}
use lib.Ieee.{round}
use Rattle.ump.specs.Packet as Packet
use Rattle.fields.specs.Check as Check
use Rattle.screen.specs.Screen as Screen
use Rattle.pitch.specs.Dyadic as Dyadic
use Rattle.tuning.specs.Desk as Desk
use Rattle.desk_claims.specs.History.{heard_all}
use Rattle.desk_claims.specs.Examples as Examples
use Rattle.desk_claims.proofs.examples.Goals as goal

pub returns : goal.returns
unfolding Packet.size Packet.packet Check.good_status Check.voice2_fields Check.checked_fields Check.bad_place
    Screen.outside Screen.admitted Screen.screen_by Dyadic.nearest round Desk.message_of Desk.said Desk.fresh
    Desk.acted Desk.heard Desk.asked_at Desk.answer_as heard_all
    Examples.examples Examples.Examples
returns c = refl

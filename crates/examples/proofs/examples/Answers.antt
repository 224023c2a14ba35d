-- `examples::examples` meets its contract: both sides of each example compute to the same words. Assumes nothing.
use mathlib.Core.Path.{refl}
use Rattle.scale.specs.Scale.{fill, up}
use Rattle.ump.specs.Packet.{packet, size}
use Rattle.fields.specs.Check.{bad_place, checked_fields, good_status, voice1_fields, voice2_fields}
use Rattle.screen.specs.Screen.{admitted, outside, screen_by, screened}
use Rattle.memory.specs.Memory.{kept, sound, with_data_high}
use Rattle.message.specs.Message.{bank_of, first2, read1, read2, second2, write1}
use Rattle.lift.specs.Lift.{addressed2, banked2, control_of, controlled, data_high, data_low, lift}
use Rattle.lower.specs.Lower.{lower, sounding}
use Rattle.voice.specs.Packet.{call_by, call_down_by, packet_down_by, packet_if, speak_down, speak_if}
use Rattle.examples.specs.Examples.{Examples, examples, going_down, going_up}
use Rattle.examples.proofs.examples.Goals as goal

pub returns : goal.returns
unfolding fill up packet size checked_fields bad_place good_status voice1_fields voice2_fields admitted outside
    screen_by screened kept sound with_data_high bank_of first2 read1 read2 second2 write1 addressed2 banked2 control_of
    controlled data_high data_low lift lower sounding call_down_by call_by packet_down_by packet_if speak_down speak_if
    Examples examples going_down going_up
returns c = refl

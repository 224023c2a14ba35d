-- What the functions of this crate hand back.
use Rattle.std.specs.Prelude.{ℕ, ◌*◌, ◌%◌, ◌^◌, Some, None}
use Rattle.std.proofs.Math.Option.{Option, none, some}
use Rattle.scale.specs.Scale.{up}
use Rattle.ump.specs.declared.Group.{Group}
use Rattle.ump.specs.declared.Channel.{Channel}
use Rattle.ump.specs.Word.{channel_of, data1, data2, group_of, voice2}
use Rattle.memory.specs.declared.Memory.{Memory}
use Rattle.effect.specs.declared.Effect.{Effect}
use Rattle.lift.specs.declared.UpwardMessage.{UpwardMessage}
use Rattle.message.specs.Message.{Midi1, Midi2, first2, second2, voice_word}
use Rattle.lift.specs.Lift.{Lifted, effect_of, key_effect, lift, shown_status}

-- nothing to send, or two words
abbrev pub silent : Memory → Effect → UpwardMessage
silent r e = record { after = r; effect = e; sends = None }

abbrev pub saying : Memory → Effect → ℕ → ℕ → UpwardMessage
saying r e a b = record { after = r; effect = e; sends = Some (record { first = a; second = b }) }

abbrev pub sending_in : Group → Channel → Memory → Effect → Option Midi2 → UpwardMessage
sending_in g c r e none = silent r e
sending_in g c r e (some m) = saying r e (first2 g c m) (second2 m)

-- what was lifted, in the group and channel of the word w
abbrev pub control_in : ℕ → Effect → Lifted → UpwardMessage
control_in w e l = sending_in (group_of w) (channel_of w) l.after e l.sends

-- what a message with its memory becomes there
abbrev pub message_in : ℕ → Memory → Midi1 → UpwardMessage
message_in w r m = control_in w (effect_of m) (lift r m)

-- a note of the status s by one row
abbrev pub note_in : ℕ → Memory → ℕ → UpwardMessage
note_in w r s =
    saying r (key_effect (shown_status s (data2 w)))
    (voice_word voice2 (group_of w) (shown_status s (data2 w) % 2 ^ 4) (channel_of w) (data1 w) 0)
    (up 7 16 (data2 w) * 2 ^ 16)

-- What a message does to its channel's record (RULES 5.7): one of five things.
use Rattle.std.specs.Prelude.{ℕ, cond, eqb}
use Rattle.keys.specs.Keys.{empty_keys, pressed, released}
use Rattle.memory.specs.declared.Memory.{Memory}
use Rattle.channel.specs.declared.Record.{Record}
use Rattle.effect.specs.declared.Effect.{Effect}
use Rattle.effect.specs.declared.Effect.TheVariants.{Leaves, Presses, Releases, ReleasesAll, Remembers}

-- each by its number: a note's effect has the number of its status, and every other number releases the key as a Note
-- Off does
unfoldable pub numbered : ℕ → Effect
numbered n =
    cond (eqb n 0) Leaves
    (cond (eqb n 1) Remembers (cond (eqb n 2) ReleasesAll (cond (eqb n 9) Presses Releases)))

-- the record after an effect: `after` is what is then remembered, and `key` the message's key
unfoldable pub effected : Record → Effect → Memory → ℕ → Record
effected r Leaves after key = r
effected r Remembers after key = record { keys = r.keys; memory = after }
effected r ReleasesAll after key = record { keys = empty_keys; memory = r.memory }
effected r Releases after key = record { keys = released r.keys key; memory = r.memory }
effected r Presses after key = record { keys = pressed r.keys key; memory = r.memory }

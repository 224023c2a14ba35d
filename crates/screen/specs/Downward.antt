-- What a rule asks of a packet that goes down. That the screening asks the same is a law beside it.
use Rattle.std.specs.Prelude.{ℕ, Bool, not, ◌&&◌, ◌||◌, eqb}
use Rattle.ump.specs.Word.{message_type}
use Rattle.screen.specs.declared.Rule.{Rule}
use Rattle.screen.specs.Screen.{outside}

-- it lies behind the fence, and is for the beginners' room, for which of what goes down only MT 0 is
unfoldable pub lets_down : Rule → ℕ → Bool
lets_down rule w = not (outside rule w) && (not rule.beginners || eqb (message_type w) 0)

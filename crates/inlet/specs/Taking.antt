-- What is asked before a byte (RULES 12.3): the group, and then the cable.
use Rattle.std.specs.Prelude.{ℕ, Option, Some, None, ltb}
use Rattle.stream.specs.Answers.{not_sound, out_of_range}
use Rattle.cable.specs.declared.Cable.{Cable}
use Rattle.cable.specs.State.{pick, sound}

-- the answer that refuses a call or a run, if any
unfoldable pub refusal : ℕ → Cable → Option ℕ
refusal g s = pick (ltb 15 g) (Some out_of_range) (pick (sound s) None (Some not_sound))

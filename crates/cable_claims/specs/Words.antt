-- Words for what is claimed of the sockets: a run in with room enough, and the packets of an exclusive.
use Rattle.std.specs.Prelude.{ℕ, ◌≤◌, List, [], ◌∷◌}
use Rattle.ground.specs.Lists.{All}
use Rattle.stream.specs.Answers.{sent, taken_in}
use Rattle.stream.specs.Run.{Ran}
use Rattle.cable.specs.declared.Cable.{Cable}
use Rattle.inlet.specs.Inlet.{Made, before_rest, calls_in, nothing_done}

-- what calls come to where there is always room
unfoldable pub all_in : Cable → List Made → Ran Cable
all_in s [] = nothing_done sent s
all_in s (m ∷ ms) = before_rest m.call (all_in m.call.after ms)

abbrev pub whole_in : ℕ → Cable → List ℕ → Ran Cable
whole_in g s bs = all_in s (calls_in g s bs)

-- no call of the run refuses anything: each answers 0 or 1
abbrev pub Fine : ℕ → Cable → List ℕ → Type 0
Fine g s bs = All (λ (m : Made). m.call.answer ≤ taken_in) (calls_in g s bs)

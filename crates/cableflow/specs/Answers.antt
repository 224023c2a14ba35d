-- The answers of the calls that an import makes (RULES 12.3; 02 M-100), for counting them.
use Rattle.std.specs.Prelude.{ℕ, ◌-◌, List, [], ◌∷◌, leb, ltb, length}
use Rattle.cable.specs.declared.Cable.{Cable}
use Rattle.cable.specs.State.{pick, sound}
use Rattle.inlet.specs.Inlet.{Made, calls_in}

-- of these calls, in an output of so many words: up to one that has no room
unfoldable pub answers_in : ℕ → List Made → List ℕ
answers_in room [] = []
answers_in room (m ∷ ms) =
    let c = m.call in
    pick (leb (length c.sends) room) (c.answer ∷ answers_in (room - length c.sends) ms) []

-- of a run, which makes no call where its group or its cable is refused
unfoldable pub answers_of : ℕ → ℕ → Cable → List ℕ → List ℕ
answers_of g room s bs = pick (ltb 15 g) [] (pick (sound s) (answers_in room (calls_in g s bs)) [])

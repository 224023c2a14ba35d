-- Bytes into packets (RULES 12.3; 02 M-100): one call at the bytes left, and a run, in an output of so many words.
use Rattle.std.specs.Prelude.{ℕ, ◌+◌, ◌-◌, List, [], ◌∷◌, ◌++◌, eqb, leb, ltb, length}
use Rattle.stream.specs.Answers.{cut_packet, no_room, not_sound, out_of_range, sent}
use Rattle.stream.specs.Run.{Ran}
use Rattle.cable.specs.declared.Cable.{Cable}
use Rattle.cable.specs.State.{pick, sound}
use Rattle.cable.specs.Hearing.{Call, byte_in, unread}
use Rattle.inlet.specs.declared.Imported.{Imported}

-- the byte that stands first in those left, or 3
unfoldable pub next_in : Cable → ℕ → List ℕ → Call
next_in s g [] = unread cut_packet [] s
next_in s g (b ∷ bs) = byte_in s g b

-- 24 and 8 first, and then the byte
unfoldable pub call_in : Cable → ℕ → List ℕ → Call
call_in s g bs = pick (ltb 15 g) (unread out_of_range [] s) (pick (sound s) (next_in s g bs) (unread not_sound [] s))

-- the same call where the output has so many free words: 9 last, and then nothing changes
unfoldable pub fit_in : ℕ → Cable → Call → Call
fit_in room s c = pick (leb (length c.sends) room) c (unread no_room [] s)

unfoldable pub one_in : ℕ → ℕ → Cable → List ℕ → Call
one_in g room s bs = fit_in room s (call_in s g bs)

-- A call of a run: the cable before it, the byte that it stood at, and what it came to.
pub record Made : Type 0 where
  pub before : Cable
  pub byte : ℕ
  pub call : Call

abbrev pub made : ℕ → Cable → ℕ → Made
made g s b = record { before = s; byte = b; call = byte_in s g b }

-- The calls of a run over bytes, where there is always room: one for each byte, and a second one where the first did
-- not read it.
unfoldable pub calls_in : ℕ → Cable → List ℕ → List Made
calls_in g s [] = []
calls_in g s (b ∷ bs) =
    let c = byte_in s g b in
    let d = byte_in c.after g b in
    made g s b ∷ pick (eqb c.read 1) (calls_in g c.after bs) (made g c.after b ∷ calls_in g d.after bs)

-- a call, and then the rest of the run
abbrev pub before_rest : Call → Ran Cable → Ran Cable
before_rest c r =
    record { answer = r.answer; read = c.read + r.read; sends = c.sends ++ r.sends; left = r.left }

-- nothing was done in the state s
abbrev pub nothing_done : ℕ → Cable → Ran Cable
nothing_done answer s = record { answer = answer; read = 0; sends = []; left = s }

-- What these calls come to in an output of so many words, from the state s: up to one that has no room.
unfoldable pub ran_in : ℕ → Cable → List Made → Ran Cable
ran_in room s [] = nothing_done sent s
ran_in room s (m ∷ ms) =
    let c = m.call in
    pick (leb (length c.sends) room) (before_rest c (ran_in (room - length c.sends) c.after ms))
    (nothing_done no_room s)

-- a run: 24 and 8 first, also where no byte is left
unfoldable pub run_in : ℕ → ℕ → Cable → List ℕ → Ran Cable
run_in g room s bs =
    pick (ltb 15 g) (nothing_done out_of_range s)
    (pick (sound s) (ran_in room s (calls_in g s bs)) (nothing_done not_sound s))

-- what is reported of a call, and of a run
abbrev pub took : Call → Imported
took c = record { answer = c.answer; read = c.read; written = length c.sends; after = c.after }

abbrev pub reported : Ran Cable → Imported
reported r = record { answer = r.answer; read = r.read; written = length r.sends; after = r.left }

-- What is reported of a call and of a run (RULES 3.1 and 4).
use Rattle.std.specs.Prelude.{ℕ, ◌+◌, cond, List, length, eqb}
use Rattle.stream.specs.declared.Done.{Done}
use Rattle.fields.specs.Check.{bad_place_of}
use Rattle.stream.specs.Answers.{bad_data, sent}
use Rattle.stream.specs.Call.{Call, answer_of, read_of, sent_of}
use Rattle.stream.specs.Run.{Ran}

abbrev pub placing : ℕ → ℕ → ℕ → ℕ → Done
placing answer place read written = record { answer = answer; place = place; read = read; written = written }

-- without a place
abbrev pub counting : ℕ → ℕ → ℕ → Done
counting answer read written = placing answer 0 read written

-- before the first packet
abbrev pub nothing_yet : Done
nothing_yet = counting sent 0 0

-- the place that goes with an answer at the packet p: of the first bad field with 7, and 0 with every other (02 M-102)
abbrev pub place_told : ℕ → List ℕ → ℕ
place_told a p = cond (eqb a bad_data) (bad_place_of p) 0

-- of a call at the packet p, on top of what was reported so far
abbrev pub further : {T : Type 0} → Done → List ℕ → Call T → Done
further d p c =
    placing (answer_of c) (place_told (answer_of c) p) (d.read + read_of p c) (d.written + length (sent_of c))

-- of a run, which no bad field stops
abbrev pub reported : {T : Type 0} → Ran T → Done
reported r = counting r.answer r.read (length r.sends)

-- of a call alone at the packet p, told as a run is
abbrev pub reported_call : {T : Type 0} → List ℕ → Ran T → Done
reported_call p r = placing r.answer (place_told r.answer p) r.read (length r.sends)

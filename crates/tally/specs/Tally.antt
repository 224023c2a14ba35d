-- How often each answer came among some calls, and bad data by place (RULES 10.3 and 10.6).
use Rattle.std.specs.Prelude.{ℕ, zero, suc, ◌+◌, ◌%◌, ◌^◌, cond, List, [], ◌∷◌, map, ◌==◌, slice_index, slice_set, Result, Ok, Err}
use Rattle.ump.specs.Packet.{cut, packet}
use Rattle.ump.specs.Word.{voice2}
use Rattle.stream.specs.Answers.{not_for_cable, sent}
use Rattle.stream.specs.Call.{answer_of}
use Rattle.stream.specs.Report.{place_told}
use Rattle.screen.specs.declared.Refusal.{Refusal}
use Rattle.screen.specs.Screen.{neither_type, screen}
use Rattle.voice.specs.Packet.{call_down}
use Rattle.outlet.specs.Outlet.{screen_out}

-- The sort of a call: its answer, 0 to 25; and 26 to 32 are bad data at the places 1 to 7.
abbrev pub sort_of : ℕ → ℕ → ℕ
sort_of answer place = cond (place == 0) answer (not_for_cable + place)

-- the sort of a packet by its screening: 0 where that lets it go on
abbrev pub sort_found : Result (Unit {0}) Refusal → ℕ
sort_found (Ok _) = sort_of sent 0
sort_found (Err r) = sort_of r.answer r.place

-- The sort of the packet that stands first in some words. Going up and out to a cable only the screening refuses, and 0
-- stands for all else.
abbrev pub sort_up : List ℕ → ℕ
sort_up s = sort_of (screen voice2 (packet s)).answer (screen voice2 (packet s)).place

abbrev pub sort_down : List ℕ → ℕ
sort_down s = sort_of (answer_of (call_down tt s)) (place_told (answer_of (call_down tt s)) (packet s))

abbrev pub sort_out : ℕ → List ℕ → ℕ
sort_out g s = sort_of (screen_out g (packet s)).answer (screen_out g (packet s)).place

-- where it is only heard, no type is a wrong one
abbrev pub sort_heard : List ℕ → ℕ
sort_heard s = sort_of (screen neither_type (packet s)).answer (screen neither_type (packet s)).place

-- how many times a number occurs
unfoldable pub times : ℕ → List ℕ → ℕ
times n [] = 0
times n (a ∷ more) = cond (a == n) 1 0 + times n more

-- so many numbers one after another
unfoldable pub from : ℕ → ℕ → List ℕ
from k zero = []
from k (suc n) = k ∷ from (suc k) n

-- how many times each sort occurs
abbrev pub all_sorts : ℕ
all_sorts = 33

unfoldable pub tally : List ℕ → List ℕ
tally xs = map (λ n. times n xs) (from 0 all_sorts)

-- one more of a sort, in a count of 64 bits
abbrev pub counted : List ℕ → ℕ → List ℕ
counted counts sort = slice_set counts sort ((slice_index counts sort + 1) % 2 ^ 64)

-- the same among the sorts of the packets
unfoldable pub tally_by : (List ℕ → ℕ) → List ℕ → List ℕ
tally_by sort ws = tally (map sort (cut ws))

abbrev pub tally_up : List ℕ → List ℕ
tally_up ws = tally_by sort_up ws

abbrev pub tally_down : List ℕ → List ℕ
tally_down ws = tally_by sort_down ws

abbrev pub tally_out : ℕ → List ℕ → List ℕ
tally_out g ws = tally_by (sort_out g) ws

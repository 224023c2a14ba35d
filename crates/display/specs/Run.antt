-- A run of the desk (02 M-110; RULES 16): every packet is heard, and one that changes what is shown has a line.
use Rattle.std.specs.Prelude.{ℕ, ◌-◌, cond, List, [], drop, length}
use Rattle.ump.specs.Packet.{cut, packet}
use Rattle.stream.specs.declared.Done.{Done}
use Rattle.stream.specs.Answers.{sent}
use Rattle.stream.specs.Call.{Call, left_of, went, within}
use Rattle.stream.specs.Report.{further}
use Rattle.stream.specs.Run.{Ran, run}
use Rattle.screen.specs.Screen.{neither_type, screen, screened}
use Rattle.tuning.specs.declared.Desk.{Desk}
use Rattle.tuning.specs.Desk.{heard}
use Rattle.display.specs.declared.DeskAndReport.{DeskAndReport}
use Rattle.display.specs.Line.{line_of, same_below}

-- the line of the desk e, where it shows something else than d
abbrev pub new_line : ℕ → Desk → Desk → List ℕ
new_line units d e = cond (same_below d e units 128) [] (line_of e units)

-- A packet, or the empty part where none is whole: a refused one leaves the desk as it is.
abbrev pub shown_of : ℕ → Desk → List ℕ → Call Desk
shown_of units d p = screened (screen neither_type p) d (went sent (new_line units d (heard d p)) (heard d p))

-- the same of the packet that stands first in the words left
unfoldable pub show : ℕ → Desk → List ℕ → Call Desk
show units d s = shown_of units d (packet s)

-- and at the packet that is next, after what was reported so far, with the room that the text still has
abbrev pub show_at : ℕ → Desk → List ℕ → Done → List ℕ → Call (ℕ × Desk)
show_at units d ws past text = within (show units) (length text - past.written, d) (drop past.read ws)

-- the desk after such a call, and what is reported of it
abbrev pub turned : Done → Desk → List ℕ → Call (ℕ × Desk) → DeskAndReport
turned past d ws c = record { desk = (left_of (0, d) c).1; done = further past (packet (drop past.read ws)) c }

-- a run over the words s, in a text of so many bytes
unfoldable pub run_shown : ℕ → ℕ → Desk → List ℕ → Ran (ℕ × Desk)
run_shown units room d s = run (within (show units)) (room, d) (cut s)

-- Recordings (RULES 15; 02 M-109): what stands before the words, what is kept of them, and what is said.
use Rattle.std.specs.Prelude.{ℕ, ◌+◌, ◌-◌, ◌/◌, ◌%◌, ◌^◌, Bool, cond, ◌&&◌, List, [], ◌∷◌, ◌++◌, length, ◌==◌, eqb, Option, None, Some, Result, Ok, Err}
use Rattle.std.specs.List.{starts_with}
use Rattle.ump.specs.Packet.{first}
use Rattle.ump.specs.Word.{bits, message_type, status}
use Rattle.stream.specs.Answers.{cut_packet, wrong_mark, wrong_version}
use Rattle.screen.specs.Screen.{Screened}
use Rattle.screen.specs.Screen.{goes_on, neither_type, screen}
use Rattle.text.specs.Rescue.{bytes_line, drop_line, number_line, ticks_line}
use Rattle.recording.specs.declared.HeaderError.{HeaderError}
use Rattle.recording.specs.declared.HeaderError.TheVariants.{WrongMark, WrongVersion}
use Rattle.recording.specs.declared.Past.{Past}
use Rattle.recording.specs.declared.Line.{Line}
use Rattle.recording.specs.declared.Line.TheVariants.{Drop, Ticks, Bytes, Answer}

-- the mark of a recording: UPK
abbrev pub mark : List ℕ
mark = 85 ∷ 80 ∷ 75 ∷ []

-- the header: the mark, and version 1 in two bytes
abbrev pub header : List ℕ
header = mark ++ (0 ∷ 1 ∷ [])

-- whether a file begins with these bytes
abbrev pub begins : List ℕ → List ℕ → Bool
begins bytes front = starts_with eqb bytes front

-- what a file that begins with these bytes is answered with: the mark is asked for first
unfoldable pub header_answer : List ℕ → Result (Unit {0}) HeaderError
header_answer bytes =
    cond (begins bytes mark) (cond (begins bytes header) (Ok tt) (Err WrongVersion)) (Err WrongMark)

-- the answer that a refusal is said by
abbrev pub number_of : HeaderError → ℕ
number_of WrongMark = wrong_mark
number_of WrongVersion = wrong_version

-- What refuses a packet, or the empty part where none is whole: no protocol is wrong, and no rule holds.
abbrev pub found : List ℕ → Screened
found p = screen neither_type p

-- a packet that is kept, and what is kept of it
abbrev pub passes : List ℕ → Bool
passes p = (found p).answer == goes_on

abbrev pub kept_of : List ℕ → List ℕ
kept_of p = cond (passes p) p []

-- a JR Timestamp, by its first word: message type 0 and status 2, with the stamp in the low half (004 section 7.2.2)
abbrev pub is_stamp : ℕ → Bool
is_stamp w = message_type w == 0 && status w == 2

abbrev pub stamp_of : ℕ → ℕ
stamp_of w = bits 0 16 w

-- the stamp that a packet has, by its first word
abbrev pub stamp_in : ℕ → Option ℕ
stamp_in w = cond (is_stamp w) (Some (stamp_of w)) None

-- how far a stamp lies behind the one before it, where 0 comes after 65,535
abbrev pub ticks_between : ℕ → ℕ → ℕ
ticks_between earlier later = (later + 2 ^ 16 - earlier) % 2 ^ 16

-- what is said at a stamp: nothing of the first, since none stands before it
abbrev pub ticks_after : Option ℕ → ℕ → Option Line
ticks_after None later = None
ticks_after (Some earlier) later = Some (Ticks (ticks_between earlier later))

-- and of any packet that is kept, by its first word
unfoldable pub line_kept : Option ℕ → ℕ → Option Line
line_kept stamp w = cond (is_stamp w) (ticks_after stamp (stamp_of w)) None

-- What is said of a packet after what went before it: where one is dropped, its place, the answer, how many words it
-- has and the place of its bad field. A cut one is dropped too.
unfoldable pub line_of : Past → List ℕ → Option Line
line_of past p =
    cond (passes p) (line_kept past.stamp (first p))
    (Some (Drop past.place (found p).answer (length p) (found p).place))

-- what went before the next one: its place among the words, which no recording uses up, and the last stamp
unfoldable pub stamp_after : Option ℕ → ℕ → Option ℕ
stamp_after stamp w = cond (is_stamp w) (Some (stamp_of w)) stamp

unfoldable pub past_after : Past → List ℕ → Past
past_after past p =
    record { place = (past.place + length p) % 2 ^ 64; stamp = stamp_after past.stamp (first p) }

-- before the first packet
abbrev pub start : Past
start = record { place = 0; stamp = None }

-- what is said at the end of so many bytes that are left: words of a cut packet, and bytes of a cut word
unfoldable pub cut_line : ℕ → ℕ → Option Line
cut_line place left = cond (left / 4 == 0) None (Some (Drop place cut_packet (left / 4) 0))

unfoldable pub left_line : ℕ → Option Line
left_line left = cond (left % 4 == 0) None (Some (Bytes (left % 4)))

-- a line as it is written; nothing is written where nothing is said
unfoldable pub text_of : Option Line → List ℕ
text_of None = []
text_of (Some (Drop place answer count bad)) = drop_line place answer count bad
text_of (Some (Ticks n)) = ticks_line n
text_of (Some (Bytes n)) = bytes_line n
text_of (Some (Answer n)) = number_line n

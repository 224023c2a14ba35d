-- What a packet for the cable sends, by its first two words, and what is told of it.
use Rattle.std.specs.Prelude.{ℕ, ◌+◌, ◌-◌, ◌*◌, ◌%◌, ◌^◌, Bool, cond, ◌&&◌, ◌||◌, List, [], ◌∷◌, ◌++◌, Option, Some, None, eqb, leb, drop, length, take}
use Rattle.ump.specs.Word.{byte2, byte3, byte4}
use Rattle.fields.specs.Check.{checked_fields, good_fields, good_status}
use Rattle.stream.specs.declared.Done.{Done}
use Rattle.stream.specs.Answers.{no_room, sent, taken_in}
use Rattle.stream.specs.Call.{Call, read_of, sent_of, stopped, went, within}
use Rattle.stream.specs.Report.{counting, placing}
use Rattle.screen.specs.Screen.{Screened}
use Rattle.screen.specs.Screen.{checking}
use Rattle.cable.specs.State.{pick}
use Rattle.outlet.specs.Outlet.{bytes_of, six, step_out}

-- nothing of the packet is bad
unfoldable pub clean : ℕ → ℕ → Bool
clean w v = good_status w && good_fields (checked_fields w v)

-- its bytes, and none where something is bad
unfoldable pub sends : ℕ → ℕ → List ℕ
sends w v = pick (clean w v) (bytes_of w v) []

-- a message of one data byte, and of two
unfoldable pub with_one : ℕ → List ℕ
with_one w = pick (leb (byte3 w) 127) (byte2 w ∷ byte3 w ∷ []) []

unfoldable pub with_two : ℕ → List ℕ
with_two w = pick (leb (byte3 w) 127 && leb (byte4 w) 127) (byte2 w ∷ byte3 w ∷ byte4 w ∷ []) []

-- the status bytes of the system messages that have no data byte
abbrev pub alone : ℕ → Bool
alone b = eqb b 0xF6 || eqb b 0xF8 || eqb b 0xFA || eqb b 0xFB || eqb b 0xFC || eqb b 0xFE || eqb b 0xFF

-- a byte that stands where a test holds
abbrev pub marked : Bool → ℕ → List ℕ
marked test byte = pick test (byte ∷ []) []

-- an exclusive's packet with n bytes of payload
abbrev pub framed : Bool → Bool → ℕ → ℕ → ℕ → List ℕ
framed opens closes n w v = marked opens 0xF0 ++ take n (six w v) ++ marked closes 0xF7

-- the six bytes of a payload as one number, the first the highest
abbrev pub payload_number : ℕ → ℕ → ℕ
payload_number w v = w % 2 ^ 16 * 2 ^ 32 + v

-- what a run makes of a call: it goes on where the packet was read, and else has the answer that stops it
abbrev pub passing : {T : Type 0} → Call T → ℕ
passing (went a ws u) = sent
passing (stopped a) = a

-- what is told of a call in a run, at the packet p, on top of what was read and written so far
abbrev pub onward : {T : Type 0} → ℕ → ℕ → List ℕ → Call T → Done
onward read to p c = counting (passing c) (read + read_of p c) (to + length (sent_of c))

-- what a run is told of a packet of n words, by the place behind its bytes
abbrev pub told_run : Option ℕ → ℕ → ℕ → ℕ → Done
told_run None n read to = counting no_room read to
told_run (Some end) n read to = counting sent (read + n) end

-- what a call alone is told of it: where nothing was sent, the check tells why
abbrev pub unsent : Screened → ℕ → Done
unsent found n = placing found.answer found.place n 0

unfoldable pub told_one : ℕ → ℕ → Option ℕ → ℕ → Done
told_one w v None n = counting no_room 0 0
told_one w v (Some end) n =
    cond (eqb end 0) (unsent (checking (good_status w) (checked_fields w v) taken_in) n) (counting sent n end)

-- the call at a place of the words, with the output from a place on; and at the start of both
abbrev pub call_at : ℕ → List ℕ → ℕ → ℕ → List ℕ → Call (ℕ × Unit {0})
call_at g ws read to out = within (step_out g) (length out - to, tt) (drop read ws)

abbrev pub call_now : ℕ → List ℕ → List ℕ → Call (ℕ × Unit {0})
call_now g ws out = within (step_out g) (length out, tt) ws

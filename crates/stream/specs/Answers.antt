-- The answers of a call by their numbers (RULES 3.1; 01 "What each call answers"), each in one place.
use Rattle.std.specs.Prelude.{ℕ, Bool, ◌||◌, eqb}

abbrev pub sent : ℕ
sent = 0

abbrev pub taken_in : ℕ
taken_in = 1

abbrev pub no_form : ℕ
no_form = 2

abbrev pub cut_packet : ℕ
cut_packet = 3

abbrev pub reserved_type : ℕ
reserved_type = 4

abbrev pub wrong_protocol : ℕ
wrong_protocol = 5

abbrev pub bad_status : ℕ
bad_status = 6

abbrev pub bad_data : ℕ
bad_data = 7

abbrev pub not_sound : ℕ
not_sound = 8

abbrev pub no_room : ℕ
no_room = 9

abbrev pub no_table : ℕ
no_table = 10

-- from a cable: dropped; cut off, and closed (02 M-100)
abbrev pub dropped : ℕ
dropped = 11

abbrev pub cut_off : ℕ
cut_off = 12

-- of a group that is not the host's (02 M-107)
abbrev pub not_yours : ℕ
not_yours = 13

-- identities and chains (02 M-106)
abbrev pub no_counterpart : ℕ
no_counterpart = 14

abbrev pub out_of_turn : ℕ
out_of_turn = 15

abbrev pub too_many_packets : ℕ
too_many_packets = 16

abbrev pub bad_address : ℕ
bad_address = 17

abbrev pub too_long : ℕ
too_long = 18

-- recordings (02 M-109)
abbrev pub wrong_mark : ℕ
wrong_mark = 19

abbrev pub wrong_version : ℕ
wrong_version = 20

-- pitches (02 M-110)
abbrev pub bad_range : ℕ
bad_range = 21

abbrev pub not_sounding : ℕ
not_sounding = 22

-- good, but not for this room (02 M-113)
abbrev pub not_for_room : ℕ
not_for_room = 23

-- the four that stop a run: nothing was read (RULES 4)
abbrev pub stops_run : ℕ → Bool
stops_run a = eqb a cut_packet || eqb a not_sound || eqb a no_room || eqb a no_table

-- of a question: answered; a group or a channel above 15
abbrev pub answered : ℕ
answered = 0

abbrev pub out_of_range : ℕ
out_of_range = 24

-- to a cable: of another type or group (02 M-100)
abbrev pub not_for_cable : ℕ
not_for_cable = 25

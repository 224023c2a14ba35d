-- The tuning desk (02 M-110): what one channel's MIDI 2.0 voice messages say to it, and what it shows.
use Rattle.std.specs.Prelude.{ℕ, ◌%◌, ◌^◌, Bool, cond, ◌&&◌, ◌||◌, List, map, eqb, leb, ltb, ℤ, pos, get_or}
use Rattle.std.specs.Prelude.{replicate, set, Option, Some, None, Result, Ok, Err}
use Rattle.ump.specs.declared.Group.{Group}
use Rattle.ump.specs.declared.Channel.{Channel}
use Rattle.ump.specs.Word.{byte3, byte4, channel_of, data1, group_of, message_type, status, voice2}
use Rattle.ump.specs.Packet.{first, packet, second}
use Rattle.stream.specs.Answers.{bad_range, not_sounding}
use Rattle.screen.specs.Screen.{goes_on, neither_type, screen}
use Rattle.pitch.specs.declared.Base.{Base}
use Rattle.pitch.specs.declared.Base.TheVariants.{Number, Pitch725, Pitch79}
use Rattle.pitch.specs.declared.Shown.{Shown}
use Rattle.pitch.specs.Dyadic.{nearest}
use Rattle.pitch.specs.Pitch.{centre, pitch_of, shown_as}
use Rattle.tuning.specs.declared.Desk.{Desk}
use Rattle.tuning.specs.declared.Key.{Key}
use Rattle.tuning.specs.declared.NotShown.{NotShown}
use Rattle.tuning.specs.declared.NotShown.TheVariants.{BadRange, NotSounding}
use Rattle.tuning.specs.declared.Sound.{Sound}
use Rattle.tuning.specs.declared.Sound.TheVariants.{At, Plain, Silent}

-- What a packet says: a note starts to sound, without a pitch or at its own Pitch 7.9, or ends; all end; a Pitch 7.25
-- came for a note number; the bend moves; or nothing that the desk reads.
pub data Message : Type 0 where
  sounds : ℕ → Sound → Message
  all_end : Message
  tunes : ℕ → ℕ → Message
  bends : ℕ → Message
  nothing : Message

-- how the note of a Note On sounds: with attribute type 3 at the Pitch 7.9 in the attribute data
abbrev pub sound_of : ℕ → ℕ → Sound
sound_of w v = cond (eqb (byte4 w) 3) (At (v % 2 ^ 16)) Plain

-- the controllers that end all notes
abbrev pub ends_all : ℕ → Bool
ends_all index = eqb index 120 || eqb index 123

-- A MIDI 2.0 voice message by its two words (01 "What is checked"): registered per-note controller 3, Note Off, Note On
-- with any velocity, the two controllers, and the bend. A sound one has its note in seven bits.
unfoldable pub message_of : ℕ → ℕ → Message
message_of w v =
    cond (eqb (status w) 0) (cond (eqb (byte4 w) 3) (tunes (data1 w) v) nothing)
    (cond (eqb (status w) 8) (sounds (data1 w) Silent)
    (cond (eqb (status w) 9) (sounds (data1 w) (sound_of w v))
    (cond (eqb (status w) 11) (cond (ends_all (byte3 w)) all_end nothing)
    (cond (eqb (status w) 14) (bends v) nothing))))

-- a voice message of that group and channel, by its first word
abbrev pub is_for : Group → Channel → ℕ → Bool
is_for g c w = eqb (message_type w) voice2 && (eqb (group_of w).0 g.0 && eqb (channel_of w).0 c.0)

-- what a packet says to the desk of a group and channel: one that is cut, not sound or not of the channel says nothing
unfoldable pub said : Group → Channel → List ℕ → Message
said g c p =
    cond (eqb (screen neither_type p).answer goes_on && is_for g c (first p)) (message_of (first p) (second p)) nothing

-- a note number of which nothing was heard
abbrev pub fresh_key : Key
fresh_key = record { sound = Silent; tuned = None }

unfoldable pub fresh : Group → Channel → Desk
fresh g c = record { group = g; channel = c; bend = centre; keys = replicate 128 fresh_key }

-- what is known of a note number
abbrev pub key_at : Desk → ℕ → Key
key_at d k = get_or d.keys k fresh_key

abbrev pub with_keys : Desk → List Key → Desk
with_keys d keys = record { group = d.group; channel = d.channel; bend = d.bend; keys = keys }

abbrev pub with_sound : Desk → ℕ → Sound → Desk
with_sound d k s = with_keys d (set d.keys k (record { sound = s; tuned = (key_at d k).tuned }))

abbrev pub with_pitch : Desk → ℕ → ℕ → Desk
with_pitch d k v = with_keys d (set d.keys k (record { sound = (key_at d k).sound; tuned = Some v }))

abbrev pub silent_key : Key → Key
silent_key key = record { sound = Silent; tuned = key.tuned }

abbrev pub silenced : Desk → Desk
silenced d = with_keys d (map silent_key d.keys)

abbrev pub with_bend : Desk → ℕ → Desk
with_bend d v = record { group = d.group; channel = d.channel; bend = v; keys = d.keys }

-- What a message makes of the desk. The Pitch 7.25 of a number stays when its note ends or starts anew.
unfoldable pub acted : Desk → Message → Desk
acted d (sounds k s) = with_sound d k s
acted d all_end = silenced d
acted d (tunes k v) = with_pitch d k v
acted d (bends v) = with_bend d v
acted d nothing = d

-- the desk after the packet that stands first in some words
unfoldable pub heard : Desk → List ℕ → Desk
heard d s = acted d (said d.group d.channel (packet s))

-- the last Pitch 7.25 of a note number, or the number
abbrev pub base_under : Option ℕ → ℕ → Base
base_under None k = Number k
base_under (Some w) k = Pitch725 w

-- what a note that sounds is counted from: over both of these its own Pitch 7.9
abbrev pub base_for : Sound → Option ℕ → ℕ → Result Base NotShown
base_for Silent tuned k = Err NotSounding
base_for Plain tuned k = Ok (base_under tuned k)
base_for (At h) tuned k = Ok (Pitch79 h)

-- 21: cents that are not 0, or units above 127
abbrev pub range_of : ℕ → ℕ → Result ℕ NotShown
range_of units cents = cond (eqb cents 0 && leb units 127) (Ok units) (Err BadRange)

-- What is asked for: it is refused, or there is a base that the pitch is counted from. 22 comes before 21.
abbrev pub ranged : Result Base NotShown → ℕ → ℕ → Result Base NotShown
ranged (Err e) units cents = Err e
ranged (Ok base) units cents = cond (eqb cents 0 && leb units 127) (Ok base) (Err BadRange)

abbrev pub asked_for : Sound → Option ℕ → ℕ → ℕ → ℕ → Result Base NotShown
asked_for sound tuned k units cents = ranged (base_for sound tuned k) units cents

-- what is answered with a bend and a range; and the whole number that the shown pitch is times 2 to the 31
unfoldable pub answer_as : Result Base NotShown → ℕ → ℕ → Result Shown NotShown
answer_as (Err e) bend units = Err e
answer_as (Ok base) bend units = Ok (shown_as base (nearest 31 (pitch_of base bend units)))

unfoldable pub whole_as : Result Base NotShown → ℕ → ℕ → ℤ
whole_as (Err e) bend units = pos 0
whole_as (Ok base) bend units = pitch_of base bend units

-- the number of the answer that refuses a note
abbrev pub answer_of : NotShown → ℕ
answer_of BadRange = bad_range
answer_of NotSounding = not_sounding

-- A note of the desk. There are 128, and one above them does not sound.
abbrev pub sound_at : Desk → ℕ → Sound
sound_at d k = cond (ltb k 128) (key_at d k).sound Silent

abbrev pub tuned_at : Desk → ℕ → Option ℕ
tuned_at d k = (key_at d k).tuned

unfoldable pub asked_at : Desk → ℕ → ℕ → ℕ → Result Base NotShown
asked_at d k units cents = asked_for (sound_at d k) (tuned_at d k) k units cents

abbrev pub answer_at : Desk → ℕ → ℕ → ℕ → Result Shown NotShown
answer_at d k units cents = answer_as (asked_at d k units cents) d.bend units

abbrev pub whole_at : Desk → ℕ → ℕ → ℕ → ℤ
whole_at d k units cents = whole_as (asked_at d k units cents) d.bend units

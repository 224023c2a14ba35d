-- One pupil at a time (RULES 11.2; 02 M-108): what a channel sends and what its record holds at the end come from its
-- own MIDI 1.0 voice packets alone, refused ones among them.
use Rattle.std.specs.Prelude.{ℕ, ◌≤◌, ◌≡◌, false, cond, ◌&&◌, List, [], ◌∷◌, ◌++◌, length}
use Rattle.ground.specs.Lists.{All, joined}
use Rattle.ump.specs.Packet.{Whole, cut, first}
use Rattle.stream.specs.Answers.{no_room}
use Rattle.stream.specs.Call.{sent_of, within}
use Rattle.stream.specs.Run.{Ran}
use Rattle.stream.specs.Claims.{Made, calls}
use Rattle.channel.specs.declared.Record.{Record}
use Rattle.channel.specs.Record.{whole_table}
use Rattle.table.specs.Table.{SoundTable, run_up, table_after, table_up}
use Rattle.pupil.specs.Only.{only, voice_on}
use Rattle.mark.specs.Mark.{record_of}

-- of some packets, those of a group and channel
unfoldable pub packets_on : ℕ → ℕ → List (List ℕ) → List (List ℕ)
packets_on group channel [] = []
packets_on group channel (p ∷ ps) =
    cond (voice_on group channel (first p)) (p ∷ packets_on group channel ps) (packets_on group channel ps)

-- of some calls, the words sent at such packets, in order
unfoldable pub words_on : {T : Type 0} → ℕ → ℕ → List (Made T) → List ℕ
words_on group channel [] = []
words_on group channel (m ∷ ms) =
    cond (voice_on group channel (first m.packet)) (sent_of m.call ++ words_on group channel ms)
    (words_on group channel ms)

-- What becomes of a channel: the words that are sent for it, and its record at the end, with keys and mark.
pub record Outcome : Type 0 where
  pub words : List ℕ
  pub left : Record

-- by a run up over the words s, from the table t, in an output of so many words
abbrev pub outcome_on : ℕ → ℕ → ℕ → List Record → List ℕ → Outcome
outcome_on group channel room t s =
    record {
      words = words_on group channel (calls (within table_up) (room, t) (cut s));
      left = record_of (table_after (run_up room t s)) group channel;
    }

-- there was room for all
abbrev pub Roomed : {T : Type 0} → Ran T → Type 0
Roomed r = r.answer ≡ no_room → ⊥

-- Two packets that are not of one channel: none has both among its own. A packet that is no MIDI 1.0 voice message has
-- no channel here.
abbrev pub Apart : List ℕ → List ℕ → Type 0
Apart p q = (group channel : ℕ) → (voice_on group channel (first p) && voice_on group channel (first q)) ≡ false

-- Of a group and channel, and a table to start from:
pub record Fair (group channel : ℕ) (t : List Record) : Type 0 where
  -- a run over what `only` hands back of any stream sends what the run over all of it sends for the channel, and leaves
  -- the channel's record as that does
  pub alone : (s : List ℕ) (a b c : ℕ)
      → let x = run_up a t s in
      let y = only group channel b s in
      let z = run_up c t y.sends in
      Roomed x → Roomed y → Roomed z
      → outcome_on group channel a t s ≡ record { words = z.sends; left = record_of (table_after z) group channel }
  -- so streams of which `only` hands back the same come to the same for the channel
  pub same : (s s' : List ℕ) (a a' b b' : ℕ) → Roomed (run_up a t s) → Roomed (run_up a' t s')
      → Roomed (only group channel b s) → Roomed (only group channel b' s')
      → (only group channel b s).sends ≡ (only group channel b' s').sends
      → outcome_on group channel a t s ≡ outcome_on group channel a' t s'
  -- and so neighbouring packets that are not of one channel may change places, behind any packets and before any words
  pub places : (ps : List (List ℕ)) (p q rest : List ℕ) (a a' : ℕ)
      → let s = joined ps ++ (p ++ (q ++ rest)) in
      let s' = joined ps ++ (q ++ (p ++ rest)) in
      All Whole ps → Whole p → Whole q → Apart p q → Roomed (run_up a t s) → Roomed (run_up a' t s')
      → outcome_on group channel a t s ≡ outcome_on group channel a' t s'

-- Of `only`, for a group and channel that there are:
pub record HandsBack (group channel : ℕ) : Type 0 where
  -- it hands back the channel's packets, one after another, whatever comes of them, and a cut end is none of them
  pub packets : (s : List ℕ) (room : ℕ) → Roomed (only group channel room s)
      → (only group channel room s).sends ≡ joined (packets_on group channel (cut s))
  -- and an output as long as the stream is long enough
  pub room : (s : List ℕ) (room : ℕ) → length s ≤ room → Roomed (only group channel room s)

-- For every channel, from any table of 256 sound records.
pub record OnePupil : Type 0 where
  pub fair : (group channel : ℕ) → group ≤ 15 → channel ≤ 15 → (t : List Record) → length t ≡ whole_table → SoundTable t
      → Fair group channel t
  pub hands_back : (group channel : ℕ) → group ≤ 15 → channel ≤ 15 → HandsBack group channel

-- What the desk shows, against a definition that knows no desk (02 M-110): what the last messages say that speak of it.
use Rattle.std.specs.Prelude.{ℕ, ◌<◌, ◌≡◌, cond, List, [], ◌∷◌, map, eqb, Option, Some, None}
use Rattle.ump.specs.declared.Group.{Group}
use Rattle.ump.specs.declared.Channel.{Channel}
use Rattle.ump.specs.Packet.{packet}
use Rattle.pitch.specs.Pitch.{centre}
use Rattle.tuning.specs.declared.Desk.{Desk}
use Rattle.tuning.specs.declared.Sound.{Sound}
use Rattle.tuning.specs.declared.Sound.TheVariants.{Silent}
use Rattle.tuning.specs.Desk.{Message, all_end, answer_as, answer_at, asked_for, bends, fresh, heard, nothing, said}
use Rattle.tuning.specs.Desk.{sound_at, sounds, tuned_at, tunes}

-- the desk after some packets, the oldest first
unfoldable pub heard_all : Desk → List (List ℕ) → Desk
heard_all d [] = d
heard_all d (p ∷ ps) = heard_all (heard d p) ps

-- what they say to the desk of a group and channel
abbrev pub all_said : Group → Channel → List (List ℕ) → List Message
all_said g c ps = map (λ (p : List ℕ). said g c (packet p)) ps

-- What a message says of how a note sounds, of the Pitch 7.25 of its number, and of the bend. One that does not speak
-- of it leaves what was said before.
unfoldable pub says_sound : ℕ → Sound → Message → Sound
says_sound k before (sounds j s) = cond (eqb j k) s before
says_sound k before all_end = Silent
says_sound k before (tunes j v) = before
says_sound k before (bends v) = before
says_sound k before nothing = before

unfoldable pub says_tuned : ℕ → Option ℕ → Message → Option ℕ
says_tuned k before (sounds j s) = before
says_tuned k before all_end = before
says_tuned k before (tunes j v) = cond (eqb j k) (Some v) before
says_tuned k before (bends v) = before
says_tuned k before nothing = before

unfoldable pub says_bend : ℕ → Message → ℕ
says_bend before (sounds j s) = before
says_bend before all_end = before
says_bend before (tunes j v) = before
says_bend before (bends v) = v
says_bend before nothing = before

-- what the last message says that speaks of it
unfoldable pub last_says : {A : Type 0} → (A → Message → A) → A → List Message → A
last_says says before [] = before
last_says says before (m ∷ ms) = last_says says (says before m) ms

-- Of a group and channel, after any packets, whatever they are:
pub record HistoryOn (g : Group) (c : Channel) : Type 0 where
  pub sounding : (ps : List (List ℕ)) (k : ℕ) → k < 128
      → sound_at (heard_all (fresh g c) ps) k ≡ last_says (says_sound k) Silent (all_said g c ps)
  pub tuned : (ps : List (List ℕ)) (k : ℕ) → k < 128
      → tuned_at (heard_all (fresh g c) ps) k ≡ last_says (says_tuned k) None (all_said g c ps)
  pub bend : (ps : List (List ℕ)) → (heard_all (fresh g c) ps).bend ≡ last_says says_bend centre (all_said g c ps)
  -- and what is answered for a note is worked out from these alone
  pub answered : (ps : List (List ℕ)) (k units cents : ℕ) → k < 128
      → answer_at (heard_all (fresh g c) ps) k units cents
      ≡ answer_as (asked_for (last_says (says_sound k) Silent (all_said g c ps))
      (last_says (says_tuned k) None (all_said g c ps)) k units cents)
      (last_says says_bend centre (all_said g c ps)) units

abbrev pub History : Type 0
History = (g : Group) (c : Channel) → HistoryOn g c

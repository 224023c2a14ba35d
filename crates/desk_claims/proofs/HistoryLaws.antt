-- Each packet changes what is known of a note just as its message says, and so do they all. Assumes nothing.
use Prim.Native.Nat.{ℕ, zero, suc, ◌<◌}
use mathlib.Core.Path.{◌≡◌, refl, sym, ap, subst, ◌∙◌}
use mathlib.Core.Bool.{cond}
use mathlib.Core.List.{List, [], ◌∷◌}
use lib.Dec.{eqb}
use lib.ListN.{get_or, get_or-map, length, length-set, replicate, set}
use Rattle.std.proofs.lemmas.List.{length-map}
use lib.Seq.{get_or-set_other, get_or-set_same}
use borrow.Author.Tests.{eqb-false, eqb-true, lt-ltb}
use Rattle.ground.proofs.Cases.{by_bool}
use Rattle.ump.specs.declared.Group.{Group}
use Rattle.ump.specs.declared.Channel.{Channel}
use Rattle.ump.specs.Packet.{packet}
use Rattle.pitch.specs.Pitch.{centre}
use Rattle.tuning.specs.declared.Desk.{Desk}
use Rattle.tuning.specs.declared.Key.{Key}
use Rattle.tuning.specs.declared.Sound.{Sound}
use Rattle.tuning.specs.declared.Sound.TheVariants.{Silent}
use Rattle.std.specs.Prelude.{Option, None}
use Rattle.tuning.specs.Desk.{Message, acted, all_end, answer_as, asked_at, asked_for, bends, fresh}
use Rattle.tuning.specs.Desk.{fresh_key, heard, nothing, said, silent_key, sound_at, sounds, tuned_at, tunes}
use Rattle.desk_claims.specs.History.{History, all_said, heard_all, last_says, says_bend, says_sound, says_tuned}

-- a desk of this group and channel with all its notes
pub record Of (g : Group) (c : Channel) (d : Desk) : Type 0 where
  pub group : d.group ≡ g
  pub channel : d.channel ≡ c
  pub keys : length d.keys ≡ 128

-- one place of a list, stored and read
stored : {A B : Type 0} (f : A → B) (l : List A) (j k : ℕ) (x e : A) → k < length l
    → f (get_or (set l j x) k e) ≡ cond (eqb j k) (f x) (f (get_or l k e))
stored f l j k x e h =
    by_bool (eqb j k)
    (λ t. rw t (let q = eqb-true j k t in
    ap f (ap (λ (i : ℕ). get_or (set l j x) i e) (sym q) ∙ get_or-set_same l j x e (subst (λ (i : ℕ). i < length l) (sym q) h))))
    (λ t. rw t (ap f (get_or-set_other l j k x e (λ q. eqb-false j k t (sym q)))))

-- what the stored element has as that had which stood there stays
left : {A B : Type 0} (f : A → B) (l : List A) (j k : ℕ) (x e : A) → f x ≡ f (get_or l j e) → k < length l
    → f (get_or (set l j x) k e) ≡ f (get_or l k e)
left f l j k x e q h =
    stored f l j k x e h
    ∙ by_bool (eqb j k)
    (λ t. rw t (q ∙ ap (λ (i : ℕ). f (get_or l i e)) (eqb-true j k t)))
    (λ t. rw t refl)

repeated : {A : Type 0} (n k : ℕ) (x : A) → get_or (replicate n x) k x ≡ x
repeated zero k x = refl
repeated (suc n) zero x = refl
repeated (suc n) (suc k) x = repeated n k x

module _ (g : Group) (c : Channel) (d : Desk) (o : Of g c d) where
  -- one message
  sound-step : (m : Message) (k : ℕ) → k < 128 → sound_at (acted d m) k ≡ says_sound k (sound_at d k) m
  unfolding acted says_sound
  sound-step (sounds j s) k h =
      rw (lt-ltb k 128 h) (stored (λ (key : Key). key.sound) d.keys j k _ fresh_key (rw o.keys h))
  sound-step all_end k h =
      rw (lt-ltb k 128 h) (ap (λ (key : Key). key.sound) (get_or-map silent_key d.keys k fresh_key))
  sound-step (tunes j v) k h =
      rw (lt-ltb k 128 h) (left (λ (key : Key). key.sound) d.keys j k _ fresh_key refl (rw o.keys h))
  sound-step (bends v) k h = refl
  sound-step nothing k h = refl

  tuned-step : (m : Message) (k : ℕ) → k < 128 → tuned_at (acted d m) k ≡ says_tuned k (tuned_at d k) m
  unfolding acted says_tuned
  tuned-step (sounds j s) k h = left (λ (key : Key). key.tuned) d.keys j k _ fresh_key refl (rw o.keys h)
  tuned-step all_end k h = ap (λ (key : Key). key.tuned) (get_or-map silent_key d.keys k fresh_key)
  tuned-step (tunes j v) k h = stored (λ (key : Key). key.tuned) d.keys j k _ fresh_key (rw o.keys h)
  tuned-step (bends v) k h = refl
  tuned-step nothing k h = refl

  bend-step : (m : Message) → (acted d m).bend ≡ says_bend d.bend m
  unfolding acted says_bend
  bend-step (sounds j s) = refl
  bend-step all_end = refl
  bend-step (tunes j v) = refl
  bend-step (bends v) = refl
  bend-step nothing = refl

  still : (m : Message) → Of g c (acted d m)
  unfolding acted
  still (sounds j s) = record { group = o.group; channel = o.channel; keys = length-set d.keys j _ ∙ o.keys }
  still all_end = record { group = o.group; channel = o.channel; keys = length-map d.keys silent_key ∙ o.keys }
  still (tunes j v) = record { group = o.group; channel = o.channel; keys = length-set d.keys j _ ∙ o.keys }
  still (bends v) = record { group = o.group; channel = o.channel; keys = o.keys }
  still nothing = o

  -- a packet is heard as what it says to the group and channel
  heard-as : (p : List ℕ) → heard d p ≡ acted d (said g c (packet p))
  unfolding heard
  heard-as p = rw (o.group, o.channel)

-- ---- packets one after another

module _ {A : Type 0} (read : Desk → A) (says : A → Message → A) (g : Group) (c : Channel)
    (step : (d : Desk) → Of g c d → (m : Message) → read (acted d m) ≡ says (read d) m) where
  all-says : (ps : List (List ℕ)) (d : Desk) → Of g c d → read (heard_all d ps) ≡ last_says says (read d) (all_said g c ps)
  unfolding heard_all last_says
  all-says [] d o = refl
  all-says (p ∷ ps) d o =
      let m = said g c (packet p) in
      ap (λ (e : Desk). read (heard_all e ps)) (heard-as g c d o p)
      ∙ all-says ps (acted d m) (still g c d o m)
      ∙ ap (λ (a : A). last_says says a (all_said g c ps)) (step d o m)

fresh-of : (g : Group) (c : Channel) → Of g c (fresh g c)
unfolding fresh
fresh-of g c = record { group = refl; channel = refl; keys = refl }

fresh-sound : (g : Group) (c : Channel) (k : ℕ) → k < 128 → sound_at (fresh g c) k ≡ Silent
unfolding fresh
fresh-sound g c k h = rw (lt-ltb k 128 h) (ap (λ (key : Key). key.sound) (repeated 128 k fresh_key))

fresh-tuned : (g : Group) (c : Channel) (k : ℕ) → tuned_at (fresh g c) k ≡ None
unfolding fresh
fresh-tuned g c k = ap (λ (key : Key). key.tuned) (repeated 128 k fresh_key)

fresh-bend : (g : Group) (c : Channel) → (fresh g c).bend ≡ centre
unfolding fresh
fresh-bend g c = refl

module _ (g : Group) (c : Channel) (ps : List (List ℕ)) where
  abbrev ms : List Message
  ms = all_said g c ps

  sounding : (k : ℕ) → k < 128 → sound_at (heard_all (fresh g c) ps) k ≡ last_says (says_sound k) Silent ms
  sounding k h =
      all-says (λ (d : Desk). sound_at d k) (says_sound k) g c (λ d o m. sound-step g c d o m k h) ps (fresh g c) (fresh-of g c)
      ∙ ap (λ (s : Sound). last_says (says_sound k) s ms) (fresh-sound g c k h)

  tuned : (k : ℕ) → k < 128 → tuned_at (heard_all (fresh g c) ps) k ≡ last_says (says_tuned k) None ms
  tuned k h =
      all-says (λ (d : Desk). tuned_at d k) (says_tuned k) g c (λ d o m. tuned-step g c d o m k h) ps (fresh g c) (fresh-of g c)
      ∙ ap (λ (t : Option ℕ). last_says (says_tuned k) t ms) (fresh-tuned g c k)

  bent : (heard_all (fresh g c) ps).bend ≡ last_says says_bend centre ms
  bent =
      all-says (λ (d : Desk). d.bend) says_bend g c (λ d o m. bend-step g c d o m) ps (fresh g c) (fresh-of g c)
      ∙ ap (λ (v : ℕ). last_says says_bend v ms) (fresh-bend g c)

pub proved-history : History
unfolding asked_at
proved-history g c =
    record {
      sounding = λ ps k h. sounding g c ps k h;
      tuned = λ ps k h. tuned g c ps k h;
      bend = λ ps. bent g c ps;
      answered = λ ps k units cents h.
          ap (λ (s : Sound). answer_as (asked_for s (tuned_at (heard_all (fresh g c) ps) k) k units cents) (heard_all (fresh g c) ps).bend units)
          (sounding g c ps k h)
          ∙ ap (λ (t : Option ℕ). answer_as (asked_for (last_says (says_sound k) Silent (all_said g c ps)) t k units cents) (heard_all (fresh g c) ps).bend units)
          (tuned g c ps k h)
          ∙ ap (λ (v : ℕ). answer_as (asked_for (last_says (says_sound k) Silent (all_said g c ps)) (last_says (says_tuned k) None (all_said g c ps)) k units cents) v units)
          (bent g c ps);
    }

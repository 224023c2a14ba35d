-- The loop that counts: the answers of the calls before a place are counted, and those from there on are left. Assumes
-- nothing.
use Prim.Native.Nat.{ℕ, ◌+◌, ◌-◌, ◌*◌, ◌^◌, ◌<◌, ◌≤◌}
use mathlib.Core.Path.{◌≡◌, refl, sym, ap, ◌∙◌}
use mathlib.Core.List.{List, [], ◌∷◌, ◌++◌, append_assoc, append-nil}
use native.Mathlib.Omega.{arith}
use lib.ListN.{drop, drop_of_length-le, get_or, length, length-append}
use borrow.Author.Tests.{le-leb, lt-leb}
use Rattle.cable.specs.declared.Cable.{Cable}
use Rattle.cable.specs.State.{pick}
use Rattle.cable.specs.Hearing.{Call, byte_in}
use Rattle.inlet.specs.Inlet.{calls_in}
use Rattle.inlet.proofs.RunLaws.{at_byte, less, opened, opened-most}
use Rattle.tally.specs.Tally.{counted, tally}
use Rattle.tally.proofs.TallyLaws.{tally-counted}
use Rattle.cableflow.specs.Answers.{answers_in}

module _ (g : ℕ) (s₀ : Cable) (a : List ℕ) (room₀ : ℕ) where
  abbrev pub whole : List ℕ
  whole = answers_in room₀ (calls_in g s₀ a)

  -- the loop's invariant
  pub record Counts (counts : List ℕ) (s : Cable) (i room : ℕ) : Type 0 where
    pub before : List ℕ
    pub few : length before + opened s ≤ 2 * i + 1
    pub read : i ≤ length a
    pub all : whole ≡ before ++ answers_in room (calls_in g s (drop i a))
    pub are : counts ≡ tally before

  pub start : (counts : List ℕ) → counts ≡ tally [] → Counts counts s₀ 0 room₀
  start counts none =
      record { before = []; few = omega (arith, opened-most s₀); read = omega arith; all = refl; are = none }

  pub finish : (counts : List ℕ) (s : Cable) (i room : ℕ) → Counts counts s i room → length a ≤ i → counts ≡ tally whole
  unfolding calls_in answers_in
  finish counts s i room v h =
      v.are ∙ ap tally (sym (v.all ∙ rw (drop_of_length-le a h, append-nil v.before)))

  module _ (counts : List ℕ) (s : Cable) (i room : ℕ) (v : Counts counts s i room) (h : i < length a) where
    abbrev c : Call
    c = byte_in s g (get_or a i 0)

    -- a call that has no room ends it
    stop : room < length c.sends → counts ≡ tally whole
    unfolding answers_in pick
    stop t = v.are ∙ ap tally
        (sym (v.all ∙ rw (at_byte g a s i h, lt-leb (length c.sends) room t, append-nil v.before)))

    -- and any other is counted
    more : length c.sends ≤ room → length a < 2 ^ 63
        → Counts (counted counts c.answer) c.after (i + c.read) (room - length c.sends)
    unfolding answers_in pick
    more t fits =
        let l = less g a s i h in
        let rest = answers_in (room - length c.sends) (calls_in g c.after (drop (i + c.read) a)) in
        record {
          before = v.before ++ (c.answer ∷ []);
          few = omega (arith, length-append v.before (c.answer ∷ []), v.few, l.0, l.1);
          read = l.1;
          all = v.all
              ∙ rw (
                at_byte g a s i h,
                le-leb (length c.sends) room t,
                append_assoc v.before (c.answer ∷ []) rest,
              );
          are = rw v.are (tally-counted v.before c.answer (omega (arith, v.few)));
        }

    -- after one more call, which sends n words: it is over, or the invariant holds again and less is left to do
    pub turn : (x : Call) → x ≡ c → (n : ℕ) → n ≡ length x.sends
        → (room < n → counts ≡ tally whole)
        × (n ≤ room → length a < 2 ^ 63
        → Counts (counted counts x.answer) x.after (i + x.read) (room - n)
        × (2 * (length a - (i + x.read)) + opened x.after < 2 * (length a - i) + opened s))
    turn x e n f = rw (f, e) (stop, λ t fits. (more t fits, (less g a s i h).0))

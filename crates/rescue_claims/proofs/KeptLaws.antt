-- What is kept is every whole packet that 4, 6 and 7 do not refuse. Assumes nothing.
use Prim.Native.Nat.{ℕ, ◌*◌, ◌≤◌}
use mathlib.Core.Path.{◌≡◌, refl, sym, ap, ◌∙◌}
use mathlib.Core.Bool.{false}
use mathlib.Core.Logic.{inl, inr}
use mathlib.Core.List.{List, [], ◌∷◌}
use native.Mathlib.Omega.{arith}
use lib.ListN.{length}
use borrow.Author.Tests.{ne_eqb}
use Rattle.ground.specs.Lists.{joined}
use Rattle.ground.proofs.Cases.{by_bool, choose}
use Rattle.ump.specs.Packet.{Whole, cut, packet}
use Rattle.ump.proofs.PacketLaws.{packet-length, packet-whole}
use Rattle.stream.specs.Answers.{cut_packet, no_room, sent}
use Rattle.stream.specs.Call.{Call, sent_of, stopped, went, within}
use Rattle.stream.specs.Run.{Ran, run}
use Rattle.stream.proofs.RunLaws.{Does, ample, bounded, cut-size, roomed-sends, run-does}
use Rattle.screen.specs.Screen.{screen_by}
use Rattle.recording.specs.Recording.{kept_of, passes}
use Rattle.rescuing.specs.Rescue.{keep}
use Rattle.rescue_claims.specs.Rescued.{KeptExactly, kept_packets}
use Rattle.stream.proofs.Pieces.{Short, Tidy, cut-tidy}
use Rattle.rescue_claims.proofs.PieceLaws.{by-refusal, no-wrong, short_none, whole-some}

-- a whole piece goes on, and a short one stops
pub keep-goes : (t : Unit {0}) (p : List ℕ) → Whole p → keep t p ≡ went sent (kept_of p) tt
unfolding keep
keep-goes t p h = rw (packet-whole p h, ne_eqb (length p) 0 (whole-some p h))

pub keep-stops : (t : Unit {0}) (p : List ℕ) → Short p → keep t p ≡ stopped cut_packet
unfolding keep
keep-stops t p h = rw (short_none p h)

pub none_passes : passes [] ≡ false
unfolding screen_by
none_passes = refl

pub kept_run : (ps : List (List ℕ)) → Tidy ps → (run keep tt ps).sends ≡ joined (kept_packets ps)
unfolding run kept_packets
kept_run [] d = refl
kept_run (p ∷ ps) (inr d) = rw (keep-stops tt p d.0, short_none p d.0, none_passes, d.1)
kept_run (p ∷ ps) (inl d) =
    by_bool (passes p) (λ e. rw (keep-goes tt p d.0, packet-whole p d.0, e, kept_run ps d.1))
    (λ e. rw (keep-goes tt p d.0, packet-whole p d.0, e, kept_run ps d.1))

-- a packet keeps no more words than it has, and none stops for want of room
few : (t : Unit {0}) (p : List ℕ) → length (sent_of (keep t p)) ≤ 1 * length p
unfolding keep
few t p =
    let l = packet-length p in
    choose (λ (c : Call (Unit {0})). length (sent_of c) ≤ 1 * length p) (lib.Dec.eqb (length (packet p)) 0) (λ _. omega arith)
    (λ _. choose (λ (k : List ℕ). length k ≤ 1 * length p) (passes (packet p)) (λ _. omega arith) (λ _. omega arith))

never : (t : Unit {0}) (p : List ℕ) → Does (λ _. Unit {0}) (λ a. a ≡ no_room → ⊥) (keep t p)
unfolding keep
never t p =
    choose (Does (λ _. Unit {0}) (λ a. a ≡ no_room → ⊥)) (lib.Dec.eqb (length (packet p)) 0)
    (λ _ e. absurd (omega (arith, e))) (λ _. tt)

enough : (s : List ℕ) (room : ℕ) → length s ≤ room → (run (within keep) (room, tt) (cut s)).answer ≡ no_room → ⊥
enough s room h e =
    let l = bounded keep 1 few (cut s) tt in
    let f = ample keep (cut s) tt room (omega (arith, cut-size s)) in
    (run-does keep (λ _. Unit {0}) (λ a. a ≡ no_room → ⊥) (λ z. absurd (omega (arith, z))) (λ t p _. never t p) (cut s) tt tt).1
    (sym (ap (λ (r : Ran (ℕ × Unit {0})). r.answer) f) ∙ e)

pub proved-kept-exactly : KeptExactly
proved-kept-exactly =
    record {
      refusals = by-refusal;
      protocols = no-wrong;
      keeps = λ s room h. roomed-sends keep (cut s) tt room h ∙ kept_run (cut s) (cut-tidy s);
      roomy = enough;
    }

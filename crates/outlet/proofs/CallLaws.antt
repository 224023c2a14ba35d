-- A packet on its way out: the screening by type and group and then by the check; what a packet of the cable sends, and
-- one that is not for it; and that a step looks at its own packet alone. Assumes nothing.
use Prim.Native.Nat.{ℕ}
use mathlib.Core.Path.{◌≡◌, refl}
use mathlib.Core.Bool.{Bool, true, false, cond, not, ◌&&◌}
use mathlib.Core.List.{List, [], ◌∷◌}
use native.Mathlib.Omega.{arith}
use lib.Dec.{eqb, leb}
use lib.ListN.{length, take}
use borrow.Author.Tests.{eq-eqb, leb-true, lt-leb, ne_eqb}
use Rattle.ground.proofs.Bools.{and_left, and_right}
use Rattle.ground.proofs.Cases.{by_bool}
use Rattle.ump.specs.Word.{group_of, message_type}
use Rattle.ump.specs.Packet.{first, second, size}
use Rattle.ump.proofs.PacketLaws.{packet-near}
use Rattle.fields.specs.Check.{bad_place_of, checked_fields, good_status}
use Rattle.stream.specs.Answers.{bad_data, bad_status, cut_packet, not_for_cable, reserved_type, sent, taken_in}
use Rattle.stream.specs.Call.{refused, stopped, went}
use Rattle.stream.proofs.RunLoop.{Inside, packet-inside}
use Rattle.stream.proofs.Stateless.{So}
use Rattle.screen.specs.Screen.{Screened}
use Rattle.screen.specs.Screen.{answering, checking, goes_on, reserved, screened}
use Rattle.cable.specs.State.{pick}
use Rattle.outlet.specs.Outlet.{bytes_of, giving, ours, packet_out, screen_out, step_out}
use Rattle.outlet.specs.Sending.{clean, sends}

-- the check of a packet of ours, with the answer where nothing is bad
abbrev pub checked : ℕ → ℕ → ℕ → Screened
checked w v good = checking (good_status w) (checked_fields w v) good

-- the answer of one that is not
abbrev pub other_answer : ℕ → ℕ
other_answer w = cond (reserved (message_type w)) reserved_type not_for_cable

-- the same by its two tests, and the place of the first bad field
abbrev pub choice : Bool → Bool → ℕ → ℕ → Screened
choice status fields place good =
    cond (not status) (answering bad_status)
    (cond fields (answering good) (record { answer = bad_data; place = place }))

-- what a packet of ours answers
abbrev pub verdict : ℕ → ℕ → ℕ
verdict w v = (checked w v (cond (eqb (length (bytes_of w v)) 0) taken_in sent)).answer

-- a type of ours is not reserved
not-reserved : (g w : ℕ) → ours g w ≡ true → reserved (message_type w) ≡ false
not-reserved g w o =
    let t = and_left (leb 1 (message_type w) && leb (message_type w) 3) (eqb (group_of w).0 g) o in
    let most = leb-true (message_type w) 3 (and_right (leb 1 (message_type w)) (leb (message_type w) 3) t) in
    rw (lt-leb 6 (message_type w) (omega (arith, most)), ne_eqb (message_type w) 14 (λ e. omega (arith, e, most)))

module _ (g : ℕ) (p : List ℕ) where
  pub screened-none : length p ≡ 0 → screen_out g p ≡ answering cut_packet
  unfolding screen_out
  screened-none z = rw (eq-eqb (length p) 0 z)

  pub screened-ours : (length p ≡ 0 → ⊥) → ours g (first p) ≡ true → screen_out g p ≡ checked (first p) (second p) goes_on
  unfolding screen_out
  screened-ours n o = rw (ne_eqb (length p) 0 n, not-reserved g (first p) o, o)

  pub screened-other : (length p ≡ 0 → ⊥) → ours g (first p) ≡ false → screen_out g p ≡ answering (other_answer (first p))
  unfolding screen_out
  screened-other n o =
      by_bool (reserved (message_type (first p))) (λ r. rw (ne_eqb (length p) 0 n, r))
      (λ r. rw (ne_eqb (length p) 0 n, r, o))

  -- a packet that passes
  pub goes-out : (screen_out g p).answer ≡ goes_on → packet_out g p ≡ giving (bytes_of (first p) (second p))
  unfolding packet_out screened
  goes-out e = rw e

  -- no packet, one of ours, and one that is not
  pub cut_out : length p ≡ 0 → packet_out g p ≡ stopped cut_packet
  unfolding packet_out screened refused
  cut_out z = rw (screened-none z)

  pub ours-out : (length p ≡ 0 → ⊥) → ours g (first p) ≡ true
      → packet_out g p ≡ went (verdict (first p) (second p)) (sends (first p) (second p)) tt
  unfolding packet_out screened refused sends clean pick
  ours-out n o = rw (screened-ours n o) (go (good_status (first p)) (eqb (bad_place_of p) 0) _)
    where
      bs : List ℕ
      bs = bytes_of (first p) (second p)

      go : (s b : Bool) (good : ℕ)
          → screened (choice s b (bad_place_of p) goes_on) (tt {0}) (went good bs tt)
          ≡ went (choice s b (bad_place_of p) good).answer (pick (s && b) bs []) tt
      go true true good = refl
      go true false good = refl
      go false b good = refl

  pub other-out : (length p ≡ 0 → ⊥) → ours g (first p) ≡ false → packet_out g p ≡ went (other_answer (first p)) [] tt
  unfolding packet_out screened refused
  other-out n o =
      by_bool (reserved (message_type (first p))) (λ r. rw (screened-other n o, r)) (λ r. rw (screened-other n o, r))

-- a step looks at its own packet alone, and goes on only with a whole one
module _ (g : ℕ) where
  pub out-near : (t : Unit {0}) (w : ℕ) (s : List ℕ) → step_out g t (take (size w) (w ∷ s)) ≡ step_out g t (w ∷ s)
  unfolding step_out
  out-near t w s = rw (packet-near w s)

  pub out-inside : (t : Unit {0}) (w : ℕ) (s : List ℕ) → Inside (w ∷ s) (step_out g t (w ∷ s))
  unfolding step_out packet_out screened screen_out refused
  out-inside t w s = packet-inside (packet_out g) refl w s

  -- what was done, and then the run from here, is the whole run
  abbrev pub Outs : List ℕ → List ℕ → List ℕ → ℕ → ℕ → Type 0
  Outs ws out₀ out i n = So (step_out g) out-near out-inside ws out₀ out i n

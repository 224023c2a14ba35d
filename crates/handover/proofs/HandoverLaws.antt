-- What giving a group does: a group that changes hands has empty records and its new host, every other group is as it
-- was, and a refusal changes nothing. Assumes nothing.
use Prim.Native.Nat.{ℕ, zero, suc, ◌+◌, ◌/◌, ◌<◌, ◌≤◌}
use mathlib.Core.Path.{◌≡◌, refl, sym, ap, ◌∙◌}
use mathlib.Core.Logic.{◌≢◌}
use mathlib.Core.Bool.{Bool, true, false, false≢true, cond, not, ◌&&◌}
use mathlib.Core.List.{List}
use native.Mathlib.Omega.{arith}
use lib.Dec.{eqb, leb, ltb}
use lib.ListN.{get_or, length, length-set}
use lib.Seq.{get_or-set_other, get_or-set_same}
use borrow.Author.Tests.{eq-eqb, eqb-true, leb-true, ltb-true}
use Rattle.ground.proofs.Bools.{and-false, and_left, and_right}
use Rattle.ground.proofs.Cases.{by_bool, choose}
use Rattle.stream.specs.Answers.{answered, no_table, out_of_range}
use Rattle.channel.specs.declared.Record.{Record}
use Rattle.channel.specs.Record.{empty, whole_table}
use Rattle.handover.specs.Handover.{can_be_given, changes_hands, channels, first_of, give_answer, group_owner}
use Rattle.handover.specs.Handover.{owner_of, owners_after, table_given}
use Rattle.handover.proofs.Emptying.{emptied-inside, emptied-outside, length-emptied}

taken : (b c : Bool) → cond b (cond c answered out_of_range) no_table ≡ answered → (b ≡ true) × (c ≡ true)
taken true true e = (refl, refl)
taken true false e = absurd (omega (arith, e))
taken false c e = absurd (omega (arith, e))

unmoved : (b c : Bool) → b ≡ true → (b && not c) ≡ false → c ≡ true
unmoved true true e f = refl
unmoved true false e f = absurd (false≢true (sym f))
unmoved false c e f = absurd (false≢true e)

-- a host, or nobody, is its own owner
own-owner : (h : ℕ) → h ≤ 2 → owner_of h ≡ h
own-owner zero l = refl
own-owner (suc zero) l = refl
own-owner (suc (suc zero)) l = refl
own-owner (suc (suc (suc h))) l = absurd (omega (arith, l))

module _ (owners : List ℕ) (n group host : ℕ) where
  -- an answer of 0: the table is whole, and there are the group and the host
  module _ (e : give_answer owners n group host ≡ answered) where
    can : (n ≡ whole_table) × (can_be_given owners group host ≡ true)
    unfolding give_answer
    can =
        let z = taken (eqb n whole_table) (can_be_given owners group host) e in
        (eqb-true n whole_table z.0, z.1)

    pub given-whole : n ≡ whole_table
    given-whole = can.0

    both : (leb group 15 && ltb group (length owners)) ≡ true
    both = and_left (leb group 15 && ltb group (length owners)) (leb host 2) can.1

    pub given-group : group ≤ 15
    given-group = leb-true group 15 (and_left (leb group 15) (ltb group (length owners)) both)

    pub given_inside : group < length owners
    given_inside = ltb-true group (length owners) (and_right (leb group 15) (ltb group (length owners)) both)

    pub given-host : host ≤ 2
    given-host = leb-true host 2 (and_right (leb group 15 && ltb group (length owners)) (leb host 2) can.1)

  abbrev moves : Bool
  moves = changes_hands owners n group host

  -- a group that changes hands is answered by 0
  pub changes-answer : moves ≡ true → give_answer owners n group host ≡ answered
  unfolding changes_hands
  changes-answer e =
      let a = give_answer owners n group host in
      eqb-true a answered (and_left (eqb a answered) (not (eqb (group_owner owners group) host)) e)

  pub changes-inside : moves ≡ true → group < length owners
  changes-inside e = given_inside (changes-answer e)

  -- and all its records stand in the table
  pub changes-row : moves ≡ true → first_of group + channels ≤ n
  changes-row e =
      let a = changes-answer e in
      omega (arith, given-whole a, given-group a)

  -- and one that is given to the host that has it does not
  pub same-stays : group_owner owners group ≡ host → moves ≡ false
  unfolding changes_hands
  same-stays e =
      rw (eq-eqb (group_owner owners group) host e) (and-false (eqb (give_answer owners n group host) answered))

  -- the owner list keeps its length; the other groups' owners stay, and the group has the host it was given to
  pub owners-length : length (owners_after owners n group host) ≡ length owners
  unfolding owners_after
  owners-length =
      choose (λ (l : List ℕ). length l ≡ length owners) moves (λ e. length-set owners group host) (λ e. refl)

  pub other-owner : (i : ℕ) → i ≢ group → get_or (owners_after owners n group host) i 0 ≡ get_or owners i 0
  unfolding owners_after
  other-owner i h =
      choose (λ (l : List ℕ). get_or l i 0 ≡ get_or owners i 0) moves
      (λ e. get_or-set_other owners group i host 0 h) (λ e. refl)

  pub new-owner : give_answer owners n group host ≡ answered
      → group_owner (owners_after owners n group host) group ≡ host
  unfolding owners_after changes_hands
  new-owner a =
      let b = eqb (give_answer owners n group host) answered in
      let c = eqb (group_owner owners group) host in
      let yes = eq-eqb (give_answer owners n group host) answered a in
      choose (λ (l : List ℕ). group_owner l group ≡ host) moves
      (λ e. ap owner_of (get_or-set_same owners group host 0 (given_inside a)) ∙ own-owner host (given-host a))
      (λ e. eqb-true (group_owner owners group) host (unmoved b c yes e))

  -- a refusal changes nothing
  pub refused-owners : give_answer owners n group host ≢ answered → owners_after owners n group host ≡ owners
  unfolding owners_after
  refused-owners h = choose (λ (l : List ℕ). l ≡ owners) moves (λ e. absurd (h (changes-answer e))) (λ e. refl)

-- the table after giving
module _ (owners : List ℕ) (t : List Record) (group host : ℕ) where
  abbrev hands : Bool
  hands = changes_hands owners (length t) group host

  abbrev after : List Record
  after = table_given owners t group host

  pub table-length : length after ≡ length t
  unfolding table_given
  table-length =
      choose (λ (l : List Record). length l ≡ length t) hands
      (λ e. length-emptied t (first_of group) channels) (λ e. refl)

  -- the records of a group that changes hands are empty, those of other groups stay
  pub given-empty : hands ≡ true → (k : ℕ) → k / 16 ≡ group → get_or after k empty ≡ empty
  unfolding table_given
  given-empty e k h = rw e (emptied-inside t (first_of group) channels k (omega (arith, h)) (omega (arith, h)))

  pub others-stay : (k : ℕ) → k / 16 ≢ group → get_or after k empty ≡ get_or t k empty
  unfolding table_given
  others-stay k h =
      choose (λ (l : List Record). get_or l k empty ≡ get_or t k empty) hands
      (λ e. emptied-outside t (first_of group) channels k (λ a b. h (omega (arith, a, b)))) (λ e. refl)

  -- where it does not change hands the table stays, so after a refusal too
  pub table_stays : hands ≡ false → after ≡ t
  unfolding table_given
  table_stays e = rw e refl

  pub refused-table : give_answer owners (length t) group host ≢ answered → after ≡ t
  refused-table h =
      by_bool hands (λ e. absurd (h (changes-answer owners (length t) group host e))) table_stays

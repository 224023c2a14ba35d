-- Soundness: the short tree that the code asks is the row of the definition, and each method keeps it. Assumes nothing.
use mathlib.Core.Path.{◌≡◌, refl, sym, ◌∙◌}
use mathlib.Core.Bool.{Bool, true, false, false≢true, cond, not, ◌&&◌, ◌||◌}
use Prim.Native.Nat.{ℕ, ◌≤◌, ◌<◌}
use lib.Dec.{eqb, leb, ltb}
use native.Mathlib.Omega.{arith}
use borrow.Author.Tests.{eq-eqb, eqb-false, eqb-true, le-leb, leb-true, lt-leb, ltb-false, ltb-true, ne_eqb, not-true}
use Rattle.ground.proofs.Cases.{by_bool}
use Rattle.memory.specs.declared.Memory.{Memory}
use Rattle.memory.specs.Memory.{StaysSound, address_open, addressed, complete, data_high_present, kept, marked, null}
use Rattle.memory.specs.Memory.{number, present, sound, sound_bank, sound_mark, with_address_bank, with_address_closed}
use Rattle.memory.specs.Memory.{with_address_index, with_bank_high, with_bank_low, with_bank_spent, with_data_high, with_mark}
use Rattle.ground.proofs.Bools.{and-false, and_left, and_right, and-true, bools}

-- The tree of the code, way by way, over the tests. `m`: the bank halves are numbers, and the mark is sound; `l` and `z`: the kind is at most 2, is
-- none; `p` and `x`: the address bank is at most 127, is missing; `q` and `y`: the index; `n` and `d`: data high; `u`: the
-- address is null.
row : (m l z p x q y n d u : Bool) → Bool
row m l z p x q y n d u =
    m && ((l && ((p || x) && ((q || y) && (n || d))))
    && ((not z || not (not x || (not y || not d))) && (not (not d) || ((not z && (not x && not y)) && not u))))

-- without a kind; the mark is asked where data high is missing
none-way : (m p x q y n d u : Bool) → (d ≡ true → m ≡ true) → row m true true p x q y n d u ≡ (x && (y && d))
unfolding row
none-way m p true q true n true u h = simp (bools, h refl)
none-way m p true q true n false u h = simp bools
none-way m p true q false n d u h = simp bools
none-way m p false q y n d u h = simp bools

-- with data high and a whole address
whole-way : (m l z u : Bool) → row m l z true false true false true false u ≡ (m && (l && (not z && not u)))
unfolding row
whole-way m l true u = simp bools
whole-way m l false u = simp bools

-- with a kind, and without the one or the other
other_way : (m p x q y n d u : Bool) → (d ≡ true → m ≡ true) → ((n && p) && q) ≡ false
    → row m true false p x q y n d u ≡ (d && ((p || x) && (q || y)))
unfolding row
other_way m p x q y n true u k h = simp (bools, k refl)
other_way m p x q y false false u k h = simp bools
other_way m true x true y true false u k h = absurd (false≢true (sym h))
other_way m true x false true true false u k h = simp bools
other_way m true x false false true false u k h = simp bools
other_way m false true q y true false u k h = simp bools
other_way m false false q y true false u k h = simp bools

module _ (r : Memory) where
  -- soundness is the row
  rowed : (m l z n d : Bool) → (sound_bank r && sound_mark r) ≡ m → leb r.kind 2 ≡ l
      → eqb r.kind 0 ≡ z → leb r.data_high 127 ≡ n → eqb r.data_high 255 ≡ d
      → sound r ≡ row m l z (leb r.address_bank 127) (eqb r.address_bank 255) (leb r.address_index 127)
      (eqb r.address_index 255) n d (null r)
  unfolding sound row
  rowed m l z n d e f g h k = rw (← e, ← f, ← g, ← h, ← k)

  -- a sound mark is at most 1, and where data high is missing that is all
  mark-most : sound_mark r ≡ true → leb r.coarse 1 ≡ true
  mark-most =
      by_bool (data_high_present r)
      (λ d h. let k : leb r.coarse 0 ≡ true = rw d at h in
      le-leb r.coarse 1 (omega (arith, leb-true r.coarse 0 k)))
      (λ d h. rw d at h)

  pub sound-banks : (sound_bank r && leb r.coarse 1) ≡ false → sound r ≡ false
  unfolding row
  sound-banks e = rowed false _ _ _ _ (go (sound_bank r) (sound_mark r) refl refl) refl refl refl refl
    where
      go : (a b : Bool) → sound_bank r ≡ a → sound_mark r ≡ b → (a && b) ≡ false
      go false b f g = refl
      go true false f g = refl
      go true true f g = absurd (false≢true (sym e ∙ rw (f, mark-most g)))

  module _ (m : (sound_bank r && leb r.coarse 1) ≡ true) where
    without-data : eqb r.data_high 255 ≡ true → (sound_bank r && sound_mark r) ≡ true
    without-data d = rw d m

    pub sound_none : r.kind ≡ 0
        → sound r ≡ (eqb r.address_bank 255 && (eqb r.address_index 255 && eqb r.data_high 255))
    sound_none k =
        rowed _ true true _ _ refl (le-leb r.kind 2 (omega (arith, k))) (eq-eqb r.kind 0 k) refl refl
        ∙ none-way _ _ _ _ _ _ _ _ without-data

    pub sound-kind : 2 < r.kind → sound r ≡ false
    unfolding row
    sound-kind k = rowed _ false _ _ _ refl (lt-leb r.kind 2 k) refl refl refl ∙ and-false (sound_bank r && sound_mark r)

    pub sound-other : (r.kind ≡ 0 → ⊥) → r.kind ≤ 2
        → ((leb r.data_high 127 && leb r.address_bank 127) && leb r.address_index 127) ≡ false
        → sound r ≡ (eqb r.data_high 255 && (number r.address_bank && number r.address_index))
    sound-other some known h =
        rowed _ true false _ _ refl (le-leb r.kind 2 known) (ne_eqb r.kind 0 some) refl refl
        ∙ other_way _ _ _ _ _ _ _ _ without-data h

  module _ (h : ((leb r.data_high 127 && leb r.address_bank 127) && leb r.address_index 127) ≡ true) where
    abbrev both : (leb r.data_high 127 && leb r.address_bank 127) ≡ true
    both = and_left _ (leb r.address_index 127) h

    data-small : r.data_high ≤ 127
    data-small = leb-true r.data_high 127 (and_left _ (leb r.address_bank 127) both)

    bank_small : r.address_bank ≤ 127
    bank_small = leb-true r.address_bank 127 (and_right (leb r.data_high 127) _ both)

    index_small : r.address_index ≤ 127
    index_small =
        leb-true r.address_index 127 (and_right (leb r.data_high 127 && leb r.address_bank 127) _ h)

    -- beside data high there is no mark
    abbrev pub beside : Bool
    beside = sound_bank r && leb r.coarse 0

    has-data : eqb r.data_high 255 ≡ false
    has-data = ne_eqb r.data_high 255 (λ e. omega (arith, data-small, e))

    given : sound r ≡ (beside && (leb r.kind 2 && (not (eqb r.kind 0) && not (null r))))
    given =
        rowed beside _ _ true false (rw has-data) refl refl (le-leb r.data_high 127 data-small) has-data
        ∙ rw (
          le-leb r.address_bank 127 bank_small,
          ne_eqb r.address_bank 255 (λ e. omega (arith, bank_small, e)),
          le-leb r.address_index 127 index_small,
          ne_eqb r.address_index 255 (λ e. omega (arith, index_small, e)),
        )
        (whole-way _ _ _ _)

    pub sound-null : r.kind ≡ 1 → r.address_bank ≡ 127 → sound r ≡ (ltb r.address_index 127 && beside)
    sound-null k b =
        given
        ∙ by_bool (ltb r.address_index 127)
        (λ e. rw (k, b, e, ne_eqb r.address_index 127 (λ f. omega (arith, ltb-true r.address_index 127 e, f)))
        (and-true (beside)))
        (λ e. rw (k, b, e, eq-eqb r.address_index 127 (omega (arith, index_small, ltb-false r.address_index 127 e)))
        (and-false (beside)))

    pub sound-registered : r.kind ≡ 1 → (r.address_bank ≡ 127 → ⊥) → sound r ≡ beside
    sound-registered k b = given ∙ rw (k, ne_eqb r.address_bank 127 b) (and-true (beside))

    pub sound-assignable : (r.kind ≡ 1 → ⊥) → sound r ≡ (eqb r.kind 2 && beside)
    sound-assignable k =
        given
        ∙ by_bool (eqb r.kind 2) (λ e. rw (eqb-true r.kind 2 e) (and-true (beside)))
        (λ e. rw (e, ne_eqb r.kind 1 k) (gone (leb r.kind 2) refl e))
      where
        gone : (b : Bool) → leb r.kind 2 ≡ b → eqb r.kind 2 ≡ false
            → (beside && (b && (not (eqb r.kind 0) && true))) ≡ false
        gone true e f =
            rw (eq-eqb r.kind 0 (omega (arith, k, leb-true r.kind 2 e, eqb-false r.kind 2 f)))
            (and-false (beside))
        gone false e f = and-false (beside)

-- the parts of soundness
pub record Parts (r : Memory) : Type 0 where
  pub high : number r.bank_high ≡ true
  pub low : number r.bank_low ≡ true
  pub mark : sound_mark r ≡ true
  pub kind_known : leb r.kind 2 ≡ true
  pub bank : number r.address_bank ≡ true
  pub index : number r.address_index ≡ true
  pub data_number : number r.data_high ≡ true
  pub bare : (not (eqb r.kind 0) || not (present r.address_bank || (present r.address_index || present r.data_high))) ≡ true
  pub opened : (not (data_high_present r) || address_open r) ≡ true

pub parts : (r : Memory) → sound r ≡ true → Parts r
unfolding sound
parts r t = search (and_left, and_right)

present-small : (n : ℕ) → number n ≡ true → present n ≡ true → n ≤ 127
present-small n h p = leb-true n 127 (go (leb n 127) (eqb n 255) h p)
  where
    go : (a b : Bool) → (a || b) ≡ true → not b ≡ true → a ≡ true
    go true b h p = refl
    go false true h p = p
    go false false h p = h

-- what a sound memory with an open address says of it
pub record Opened (r : Memory) : Type 0 where
  pub bank_small : r.address_bank ≤ 127
  pub index_small : r.address_index ≤ 127
  pub not_null : null r ≡ false

pub opened : (r : Memory) → sound r ≡ true → address_open r ≡ true → Opened r
opened r t e =
    let q = parts r t in
    let c = and_left (complete r) (not (null r)) e in
    let b = and_right (not (eqb r.kind 0)) (present r.address_bank && present r.address_index) c in
    record {
      bank_small = present-small r.address_bank q.bank (and_left (present r.address_bank) (present r.address_index) b);
      index_small = present-small r.address_index q.index (and_right (present r.address_bank) (present r.address_index) b);
      not_null = not-true (null r) (and_right (complete r) (not (null r)) e);
    }

-- data high stands beside such an address
pub data-opened : (r : Memory) → sound r ≡ true → data_high_present r ≡ true → Opened r
data-opened r t p = opened r t (simp p at (parts r t).opened)

-- and no mark does
pub data-unmarked : (r : Memory) → sound r ≡ true → data_high_present r ≡ true → marked r ≡ false
data-unmarked r t p =
    let m : leb r.coarse 0 ≡ true = rw p at (parts r t).mark in
    rw (eq-eqb r.coarse 0 (omega (arith, leb-true r.coarse 0 m)))

small : (v : ℕ) → v ≤ 127 → number v ≡ true
small v h = rw (le-leb v 127 h)

bank-high-sound : (r : Memory) (v : ℕ) → v ≤ 127 → sound r ≡ true → sound (with_bank_high r v) ≡ true
unfolding sound
bank-high-sound r v h t = let p = parts r t in simp (p.low, p.mark, p.kind_known, p.bank, p.index, p.data_number, p.bare, p.opened, small v h)

bank-low-sound : (r : Memory) (v : ℕ) → v ≤ 127 → sound r ≡ true → sound (with_bank_low r v) ≡ true
unfolding sound
bank-low-sound r v h t = let p = parts r t in simp (p.high, p.mark, p.kind_known, p.bank, p.index, p.data_number, p.bare, p.opened, small v h)

bank-spent-sound : (r : Memory) → sound r ≡ true → sound (with_bank_spent r) ≡ true
unfolding sound
bank-spent-sound r t = let p = parts r t in simp (p.mark, p.kind_known, p.bank, p.index, p.data_number, p.bare, p.opened)

address-closed-sound : (r : Memory) → sound r ≡ true → sound (with_address_closed r) ≡ true
unfolding sound
address-closed-sound r t = let p = parts r t in simp (p.high, p.low, mark-most r p.mark)

kept-number : (o k half : ℕ) → number half ≡ true → number (kept o k half) ≡ true
unfolding kept
kept-number o k half h = go (eqb o k)
  where
    go : (b : Bool) → number (cond b half 255) ≡ true
    go true = h
    go false = refl

-- for a kind that is not none
module _ (k : ℕ) (known : leb k 2 ≡ true) (some : eqb k 0 ≡ false) where
  address-bank-sound : (r : Memory) (v : ℕ) → v ≤ 127 → sound r ≡ true → sound (with_address_bank k r v) ≡ true
  unfolding sound
  address-bank-sound r v h t =
      let p = parts r t in
      simp (p.high, p.low, mark-most r p.mark, known, some, kept-number r.kind k r.address_index p.index, small v h)

  address-index-sound : (r : Memory) (v : ℕ) → v ≤ 127 → sound r ≡ true → sound (with_address_index k r v) ≡ true
  unfolding sound
  address-index-sound r v h t =
      let p = parts r t in
      simp (p.high, p.low, mark-most r p.mark, known, some, kept-number r.kind k r.address_bank p.bank, small v h)

twice-not : (b : Bool) → not (not b) ≡ true → b ≡ true
twice-not true h = refl
twice-not false h = h

data-high-sound : (r : Memory) (v : ℕ) → v ≤ 127 → sound r ≡ true → sound (with_data_high r v) ≡ true
unfolding sound with_data_high
data-high-sound r v h t = go (address_open r && not (marked r)) refl
  where
    go : (b : Bool) → (address_open r && not (marked r)) ≡ b
        → sound (cond b (addressed r.kind r.address_bank r.address_index v r) r) ≡ true
    go true e =
        let p = parts r t in
        let o = and_left (address_open r) (not (marked r)) e in
        let z = eqb-true r.coarse 0 (twice-not (eqb r.coarse 0) (and_right (address_open r) (not (marked r)) e)) in
        let c = and_left (complete r) (not (null r)) o in
        let n = and_right (complete r) (not (null r)) o in
        let k = and_left (not (eqb r.kind 0)) (present r.address_bank && present r.address_index) c in
        let b = and_right (not (eqb r.kind 0)) (present r.address_bank && present r.address_index) c in
        simp
        (p.high, p.low, z, ne_eqb v 255 (λ f. omega (arith, h, f)), p.kind_known, p.bank, p.index, le-leb v 127 h, k, b, n, bools)
    go false e = t

mark-sound : (r : Memory) (n : ℕ) → sound r ≡ true → sound (with_mark r n) ≡ true
unfolding sound
mark-sound r n t =
    let p = parts r t in
    simp (p.high, p.low, mark-known (eqb n 0), p.kind_known, p.bank, p.index, bare (not (eqb r.kind 0)) (present r.address_bank) (present r.address_index) _ p.bare)
  where
    bare : (a x y z : Bool) → (a || not (x || (y || z))) ≡ true → (a || not (x || (y || false))) ≡ true
    bare true x y z h = refl
    bare false true y z h = h
    bare false false true z h = h
    bare false false false z h = refl

    mark-known : (b : Bool) → leb (cond b 0 1) 1 ≡ true
    mark-known true = refl
    mark-known false = refl

pub proved-stays-sound : StaysSound
unfolding sound
proved-stays-sound =
    record {
      at_start_lem = refl;
      bank_high = bank-high-sound;
      bank_low = bank-low-sound;
      registered_bank = address-bank-sound 1 refl refl;
      registered_index = address-index-sound 1 refl refl;
      assignable_bank = address-bank-sound 2 refl refl;
      assignable_index = address-index-sound 2 refl refl;
      data_high = data-high-sound;
      address_closed = address-closed-sound;
      bank_spent = bank-spent-sound;
      mark = mark-sound;
    }

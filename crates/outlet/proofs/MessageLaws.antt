-- What a message of one word sends, by its status: none where the status or a data byte is bad, and else its status
-- byte with as many data bytes as that has. Assumes nothing.
use Prim.Native.Nat.{ℕ, ◌≤◌, ◌<◌}
use mathlib.Core.Path.{◌≡◌}
use mathlib.Core.Bool.{true, false, ◌&&◌, ◌||◌}
use mathlib.Core.List.{[], ◌∷◌, append-nil}
use native.Mathlib.Omega.{arith}
use lib.Dec.{eqb, leb, ltb}
use lib.ListN.{take}
use lib.Pow.{shr-shr}
use borrow.Author.Tests.{eqb-false, eqb-true, le-leb, le-ltb, leb-false, leb-true, lt-leb, lt-ltb, ne_eqb}
use Rattle.ground.proofs.Bools.{and_right, neither_left, neither_right}
use Rattle.ground.proofs.Cases.{by_bool, not-both}
use Rattle.ump.specs.Word.{byte2, byte3, byte4, message_type, status}
use Rattle.fields.specs.Check.{bad_place, checked_fields, good_fields, good_status, system_fields, system_status}
use Rattle.fields.specs.Check.{voice1_fields, voice1_status}
use Rattle.fields.proofs.CheckLaws.{both-good, one-good}
use Rattle.cable.specs.State.{need, pick}
use Rattle.outlet.specs.Outlet.{amount, bytes_of, payload, six}
use Rattle.outlet.specs.Sending.{alone, clean, sends, with_one, with_two}

-- the status bytes by the data bytes that they have
needs-one : (b : ℕ) → 0xC0 ≤ b → b < 0xE0 → need b ≡ 1
unfolding need
needs-one b low high =
    rw (
      ne_eqb b 0xF2 (λ e. omega (arith, e)),
      ne_eqb b 0xF1 (λ e. omega (arith, e)),
      ne_eqb b 0xF3 (λ e. omega (arith, e)),
      le-leb 0xC0 b low,
      lt-ltb b 0xE0 high,
    )

needs_two : (b : ℕ) → b < 0xF0 → (leb 0xC0 b ≡ true → 0xE0 ≤ b) → need b ≡ 2
unfolding need
needs_two b high gap =
    let not-one : (leb 0xC0 b && ltb b 0xE0) ≡ false = by_bool (leb 0xC0 b)
    (λ t. rw (t, le-ltb b 0xE0 (gap t))) (λ t. rw t) in
    rw (
      ne_eqb b 0xF2 (λ e. omega (arith, e)),
      ne_eqb b 0xF1 (λ e. omega (arith, e)),
      ne_eqb b 0xF3 (λ e. omega (arith, e)),
      not-one,
      lt-leb 0xF0 b high,
    )

needs-none : (b : ℕ) → 0xF4 ≤ b → need b ≡ 0
unfolding need
needs-none b low =
    rw (
      ne_eqb b 0xF2 (λ e. omega (arith, e)),
      ne_eqb b 0xF1 (λ e. omega (arith, e)),
      ne_eqb b 0xF3 (λ e. omega (arith, e)),
      le-leb 0xC0 b (omega arith),
      le-ltb b 0xE0 (omega arith),
      le-leb 0xF0 b (omega arith),
    )

-- a status byte that stands alone is above F3
high-alone : (b : ℕ) → alone b ≡ true → 0xF4 ≤ b
high-alone b a =
    by_bool (leb 0xF4 b) (λ t. leb-true 0xF4 b t)
    (λ t.
    let other : (k : ℕ) → 0xF4 ≤ k → eqb b k ≡ false = λ k h. ne_eqb b k (λ e. omega (arith, e, leb-false 0xF4 b t)) in
    not-both (rw (
      other 0xF6 (omega arith),
      other 0xF8 (omega arith),
      other 0xFA (omega arith),
      other 0xFB (omega arith),
      other 0xFC (omega arith),
      other 0xFE (omega arith),
      other 0xFF (omega arith),
    )
    at a))

module _ (w v : ℕ) where
  -- the bytes of a packet that is no exclusive's
  message : eqb (message_type w) 3 ≡ false → bytes_of w v ≡ byte2 w ∷ take (need (byte2 w)) (six w v)
  unfolding bytes_of payload amount pick
  message e = rw (e, append-nil (take (need (byte2 w)) (six w v)))

  module _ (e : message_type w ≡ 2) where
    clean-voice : clean w v ≡ (voice1_status w && good_fields (voice1_fields w))
    unfolding clean good_status checked_fields
    clean-voice = rw e

    voice : bytes_of w v ≡ byte2 w ∷ take (need (byte2 w)) (six w v)
    voice = message (rw e)

    pub voice-none : voice1_status w ≡ false → sends w v ≡ []
    unfolding sends pick
    voice-none s = rw (clean-voice, s)

    pub voice-one : voice1_status w ≡ true → (eqb (status w) 12 || eqb (status w) 13) ≡ true → sends w v ≡ with_one w
    unfolding sends with_one voice1_fields bad_place
    voice-one s k =
        let st : (12 ≤ status w) × (status w ≤ 13) = by_bool (eqb (status w) 12)
        (λ t. let x = eqb-true (status w) 12 t in (omega (arith, x), omega (arith, x)))
        (λ t. let x = eqb-true (status w) 13 (rw t at k) in (omega (arith, x), omega (arith, x))) in
        let n = needs-one (byte2 w) (omega (arith, st.0, shr-shr w 16 4)) (omega (arith, st.1, shr-shr w 16 4)) in
        rw (clean-voice, s, k, one-good (leb (byte3 w) 127), voice, n)

    pub voice-two : voice1_status w ≡ true → (eqb (status w) 12 || eqb (status w) 13) ≡ false → sends w v ≡ with_two w
    unfolding sends with_two voice1_fields bad_place
    voice-two s k =
        let low = eqb-false (status w) 12 (neither_left (eqb (status w) 12) (eqb (status w) 13) k) in
        let next = eqb-false (status w) 13 (neither_right (eqb (status w) 12) (eqb (status w) 13) k) in
        let most = leb-true (status w) 14 (and_right (leb 8 (status w)) (leb (status w) 14) s) in
        let n = needs_two (byte2 w) (omega (arith, most, shr-shr w 16 4))
        (λ t. let c = leb-true 0xC0 (byte2 w) t in omega (arith, c, low, next, shr-shr w 16 4)) in
        rw (clean-voice, s, k, both-good (leb (byte3 w) 127) (leb (byte4 w) 127), voice, n)

  module _ (e : message_type w ≡ 1) where
    clean-system : clean w v ≡ (system_status (byte2 w) && good_fields (system_fields w))
    unfolding clean good_status checked_fields
    clean-system = rw e

    system : bytes_of w v ≡ byte2 w ∷ take (need (byte2 w)) (six w v)
    system = message (rw e)

    pub system-alone : alone (byte2 w) ≡ true → sends w v ≡ byte2 w ∷ []
    unfolding sends pick system_fields bad_place
    system-alone a =
        let high = high-alone (byte2 w) a in
        rw (
          clean-system,
          ne_eqb (byte2 w) 0xF1 (λ x. omega (arith, x)),
          ne_eqb (byte2 w) 0xF2 (λ x. omega (arith, x)),
          ne_eqb (byte2 w) 0xF3 (λ x. omega (arith, x)),
          a,
          system,
          needs-none (byte2 w) high,
        )

    pub system-two : byte2 w ≡ 0xF2 → sends w v ≡ with_two w
    unfolding sends with_two system_fields bad_place need
    system-two b = rw (clean-system, system, b, both-good (leb (byte3 w) 127) (leb (byte4 w) 127))

    pub system-one : (eqb (byte2 w) 0xF1 || eqb (byte2 w) 0xF3) ≡ true → sends w v ≡ with_one w
    unfolding sends with_one system_fields bad_place need
    system-one k =
        by_bool (eqb (byte2 w) 0xF1)
        (λ t. rw (clean-system, system, eqb-true (byte2 w) 0xF1 t, one-good (leb (byte3 w) 127)))
        (λ t. rw (clean-system, system, eqb-true (byte2 w) 0xF3 (rw t at k), one-good (leb (byte3 w) 127)))

    pub system-none : alone (byte2 w) ≡ false → (byte2 w ≡ 0xF2 → ⊥)
        → (eqb (byte2 w) 0xF1 || eqb (byte2 w) 0xF3) ≡ false → sends w v ≡ []
    unfolding sends pick
    system-none a n k =
        rw (
          clean-system,
          neither_left (eqb (byte2 w) 0xF1) (eqb (byte2 w) 0xF3) k,
          ne_eqb (byte2 w) 0xF2 n,
          neither_right (eqb (byte2 w) 0xF1) (eqb (byte2 w) 0xF3) k,
          a,
        )

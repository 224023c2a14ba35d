-- Running status means what full status bytes mean (RULES 12.5; 01 "Layouts and rules for later parts", cable bytes).
use Rattle.std.specs.Prelude.{ℕ, ◌-◌, ◌≡◌, true, ◌||◌, List, [], ◌∷◌, eqb, leb}
use Rattle.stream.specs.Answers.{taken_in}
use Rattle.cable.specs.State.{idle, need, pick, voice_byte}
use Rattle.inlet.specs.Inlet.{Made, calls_in}
use Rattle.cable_claims.specs.Words.{whole_in}

-- Bytes written out in full: r is the running status, or 0, and k how many data bytes the message in hand still waits
-- for. Where a data byte comes and none is waited for, the running status is written before it.
unfoldable pub in_full : ℕ → ℕ → List ℕ → List ℕ
in_full r k [] = []
in_full r k (b ∷ bs) =
    pick (leb 0xF8 b) (b ∷ in_full r k bs)
    (pick (leb 0xF0 b) (b ∷ in_full 0 0 bs)
    (pick (leb 0x80 b) (b ∷ in_full b (need b) bs)
    (pick (eqb r 0) (b ∷ in_full 0 0 bs)
    (pick (eqb k 0) (r ∷ b ∷ in_full r (need r - 1) bs) (b ∷ in_full r (k - 1) bs)))))

-- what is told of a call
pub record Note : Type 0 where
  pub byte : ℕ
  pub answer : ℕ
  pub sends : List ℕ

-- the calls that do more than take a byte in
unfoldable pub noted : List Made → List Note
noted [] = []
noted (m ∷ ms) =
    pick (eqb m.call.answer taken_in) (noted ms)
    (record { byte = m.byte; answer = m.call.answer; sends = m.call.sends } ∷ noted ms)

-- With any running status at the start: both streams send the same packets, and drop and cut off at the same bytes.
pub record RunningStatus : Type 0 where
  pub notes : (g r : ℕ) (bs : List ℕ) → (eqb r 0 || voice_byte r) ≡ true
      → noted (calls_in g (idle r) bs) ≡ noted (calls_in g (idle r) (in_full r 0 bs))
  pub words : (g r : ℕ) (bs : List ℕ) → (eqb r 0 || voice_byte r) ≡ true
      → (whole_in g (idle r) bs).sends ≡ (whole_in g (idle r) (in_full r 0 bs)).sends

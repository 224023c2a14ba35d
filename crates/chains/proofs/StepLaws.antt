-- The step on one chain: where the answer is 0 or 1, the piece fits its part. Assumes nothing.
use Prim.Native.Nat.{ℕ, ◌+◌, ◌≤◌, ◌<◌}
use mathlib.Core.Path.{◌≡◌, refl, ap, ◌∙◌}
use mathlib.Core.Bool.{Bool, true, false, cond}
use native.Mathlib.Omega.{arith}
use mathlib.Core.List.{List}
use lib.ListN.{length}
use lib.Seq.{length-paste, paste}
use lib.Dec.{leb, ltb}
use borrow.Author.Tests.{le-leb, leb-false, leb-true, lt-leb, ltb-false}
use Rattle.chains.specs.declared.Chain.{Chain}
use Rattle.ground.proofs.Cases.{choose}
use Rattle.stream.specs.Answers.{out_of_turn, sent, taken_in, too_long, too_many_packets}
use Rattle.piece.specs.Piece.{Fine, Piece}
use Rattle.chains.specs.declared.part.Refusal.{Refusal}
use Rattle.chains.specs.declared.part.Refusal.TheVariants.{OutOfTurn, TooLong, TooManyPackets}
use Rattle.chains.specs.declared.part.Stepped.{Stepped}
use Rattle.chains.specs.Step.{base_of, grown, part_of, refused_by, step_of, strays, verdict, verdict_by}
use Rattle.chains.specs.Turn.{bare, number_of}
use Rattle.piece.specs.Piece.{head_of}
use Rattle.piece.specs.declared.Head.{Head}

-- taken: not out of turn, fewer than 32 packets, and there is room
pub taken : (out : Bool) (packets base n count : ℕ) (last : Bool) → verdict_by out packets base n count last ≤ 1
    → (out ≡ false) × (packets < 32) × (base + count ≤ n)
unfolding verdict_by
taken out packets base n count last h = go out (leb 32 packets) refl (ltb n (base + count)) refl h
  where
    go : (o m : Bool) → leb 32 packets ≡ m → (f : Bool) → ltb n (base + count) ≡ f
        → cond o out_of_turn (cond m too_many_packets (cond f too_long (cond last sent taken_in))) ≤ 1
        → (o ≡ false) × (packets < 32) × (base + count ≤ n)
    go true m e f g h = absurd (omega arith)
    go false true e f g h = absurd (omega arith)
    go false false e true g h = absurd (omega arith)
    go false false e false g h = (refl, leb-false 32 packets e, ltb-false n (base + count) g)

module _ (c : Chain) (x : Piece) (a : ℕ) where
  pub part-taken : (p : List ℕ) → a ≡ verdict c (length p) x → a ≤ 1
      → paste p (base_of c) x.bytes x.count ≡ part_of c p x
  unfolding part_of
  part-taken p e h = rw (← e, le-leb a 1 h)

  pub part-refused : (p : List ℕ) → a ≡ verdict c (length p) x → 1 < a → p ≡ part_of c p x
  unfolding part_of
  part-refused p e h = rw (← e, lt-leb a 1 h)

-- a step leaves its part as long as it was
pub part-kept : (c : Chain) (p : List ℕ) (x : Piece) → Fine x → length (part_of c p x) ≡ length p
unfolding part_of
part-kept c p x f =
    choose (λ (q : List ℕ). length q ≡ length p) (leb (verdict c (length p) x) 1)
    (λ e. length-paste p (base_of c) x.bytes x.count (taken _ _ _ _ _ _ (leb-true (verdict c (length p) x) 1 e)).2
    (omega (arith, f.few, f.places)))
    (λ _. refl)

-- a piece is taken where its answer is 0 or 1, and each of the two ways is the definition's
module _ (c : Chain) (n : ℕ) (x : Piece) (a : ℕ) (e : a ≡ verdict c n x) where
  pub step-taken : a ≤ 1 → record { answer = a; chain = grown c x } ≡ step_of c n x
  unfolding step_of
  step-taken h = rw (← e, le-leb a 1 h)

  pub step-refused : 1 < a → record { answer = a; chain = refused_by a c } ≡ step_of c n x
  unfolding step_of
  step-refused h = rw (← e, lt-leb a 1 h)

-- the bytes are not asked
pub bare-verdict : (c : Chain) (n : ℕ) (x : Piece) → verdict c n (bare (head_of x)) ≡ verdict c n x
unfolding strays
bare-verdict c n x = refl

pub bare-grown : (c : Chain) (x : Piece) → grown c (bare (head_of x)) ≡ grown c x
unfolding grown
bare-grown c x = refl

-- an answer of 0 or 1 is that of a piece which is taken, and each other is a refusal's
pub last-low : (last : Bool) → cond last sent taken_in ≤ 1
last-low true = omega arith
last-low false = omega arith

pub refusal-high : (refusal : Refusal) → 1 < number_of refusal
refusal-high OutOfTurn = omega arith
refusal-high TooManyPackets = omega arith
refusal-high TooLong = omega arith

-- a step by a piece's head, from what is answered to it
module _ (c : Chain) (n : ℕ) (x : Piece) (h : Head) (same : h ≡ head_of x) (a : ℕ) (e : a ≡ verdict c n (bare h)) where
  pub head-verdict : a ≡ verdict c n x
  head-verdict = e ∙ ap (λ (k : Head). verdict c n (bare k)) same ∙ bare-verdict c n x

  pub head-fits : Fine x → a ≤ 1 → (c.packets + h.adds ≤ 4294967295) × (base_of c + h.count ≤ n)
  head-fits f l =
      let t = taken _ _ _ _ _ _ (rw e at l) in
      rw same (omega (arith, t.1, f.one), rw same at t.2)

  pub head-taken : (g : Chain) → a ≤ 1 → g ≡ grown c (bare h) → record { answer = a; chain = g } ≡ step_of c n x
  head-taken g l f =
      let k = f ∙ ap (λ (k : Head). grown c (bare k)) same ∙ bare-grown c x in
      rw k (step-taken c n x a head-verdict l)

  pub head-refused : (g : Chain) → 1 < a → g ≡ refused_by a c → record { answer = a; chain = g } ≡ step_of c n x
  head-refused g l f = rw f (step-refused c n x a head-verdict l)

-- the answer of a step is its verdict
pub step-answer : (c : Chain) (n : ℕ) (x : Piece) → (step_of c n x).answer ≡ verdict c n x
unfolding step_of
step-answer c n x =
    choose (λ (s : Stepped). s.answer ≡ verdict c n x) (leb (verdict c n x) 1)
    {x = record { answer = verdict c n x; chain = grown c x }}
    {y = record { answer = verdict c n x; chain = refused_by (verdict c n x) c }} (λ _. refl) (λ _. refl)

-- and a piece that is taken leaves a chain that ends within its part
pub step-within : (c : Chain) (n : ℕ) (x : Piece) → verdict c n x ≤ 1 → (step_of c n x).chain.length ≤ n
unfolding step_of grown
step-within c n x h = rw (le-leb (verdict c n x) 1 h) (taken _ _ _ _ _ _ h).2

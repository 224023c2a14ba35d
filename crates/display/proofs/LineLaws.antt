-- Lines: how long their parts are, and what the loops over the notes come to. Assumes nothing.
use Prim.Native.Nat.{ℕ, zero, suc, ◌+◌, ◌/◌, ◌%◌, ◌^◌, ◌≤◌, ◌<◌}
use mathlib.Core.Path.{◌≡◌, refl, sym, ap, ap₂, ◌∙◌}
use mathlib.Core.Bool.{Bool, cond, ◌&&◌}
use mathlib.Core.List.{List, [], ◌∷◌, ◌++◌}
use native.Mathlib.Omega.{arith}
use native.Mathlib.Nat.{lt_of_lt_of_le}
use native.Mathlib.Numerals.{add-one}
use lib.Dec.{eqb, lit<, lit≤}
use lib.IntN.{nat_abs, pos}
use lib.ListN.{length, length-append}
use lib.Ieee.{Float, round}
use Rattle.ground.proofs.Bools.{and-true}
use Rattle.ground.proofs.Cases.{choose}
use Rattle.text.specs.Lines.{decimal, places}
use Rattle.text.proofs.LineLaws.{digits-length, few}
use Rattle.figures.specs.Figures.{exact_decimal, fraction}
use Rattle.figures.proofs.FigureLaws.{digits-few, whole-few}
use Rattle.pitch.specs.declared.Base.{Base}
use Rattle.pitch.specs.declared.Base.TheVariants.{Number, Pitch725, Pitch79}
use Rattle.pitch.specs.declared.Shown.{Shown}
use Rattle.pitch.specs.declared.Shown.TheVariants.{Number as OfNumber, Pitch725 as OfPitch725, Pitch79 as OfPitch79}
use Rattle.pitch.specs.Dyadic.{Dyadic, nearest, times2}
use Rattle.pitch.specs.Pitch.{float_of, pitch_of}
use Rattle.pitch.proofs.Exact.{size_below}
use Rattle.tuning.specs.declared.NotShown.{NotShown}
use Rattle.tuning.specs.declared.Desk.{Desk}
use Rattle.tuning.specs.Desk.{answer_as, asked_at, whole_as, whole_at}
use Rattle.std.specs.Prelude.{Option, Some, None, Result, Ok, Err, is_some}
use Rattle.std.specs.Result.{result_ok}
use Rattle.std.specs.Option.{option_eq}
use Rattle.std.specs.Float.Ieee.{eq}
use Rattle.pitch.specs.contracts.ShownPartialEq.TheImpl.{ghosts}
use Rattle.std.specs.List.{count_by, filter, list_all, range_with_len}
use Rattle.std.proofs.lemmas.List.Folds.{list_all-append}
use Rattle.std.proofs.lemmas.List.Sums.{length-filter, sum_by-append}
use native.Mathlib.Nat.{add-zero, zero-add}
use Rattle.display.specs.Line.{Parts, below0, count_below, field_from, field_of}
use Rattle.display.specs.Line.{fields_below, one_if_shown, pitch_text, same_below, same_shown, shown_at}
use Rattle.display.proofs.Back.{small}

-- ---- what is shown is a number of 2 to the -31

nearest-parts : (base : Base) (bend units : ℕ)
    → let x = nearest 31 (pitch_of base bend units) in Dyadic 42 31 x (pitch_of base bend units) → Parts x
nearest-parts base bend units d =
    record { whole = pitch_of base bend units; is = refl; small = lt_of_lt_of_le (size_below d) (lit≤ tt) }

answer-parts : (a : Result Base NotShown) (bend units : ℕ) → let x = float_of (result_ok (answer_as a bend units)) in
    Dyadic 42 31 x (whole_as a bend units) → Parts x
unfolding answer_as whole_as nearest round
answer-parts (Err e) bend units d = record { whole = pos 0; is = refl; small = lit< tt }
answer-parts (Ok (Number n)) bend units d = nearest-parts (Number n) bend units d
answer-parts (Ok (Pitch725 w)) bend units d = nearest-parts (Pitch725 w) bend units d
answer-parts (Ok (Pitch79 h)) bend units d = nearest-parts (Pitch79 h) bend units d

pub shown-parts : (d : Desk) (k units : ℕ) (o : Option Shown) → o ≡ shown_at d units k
    → Dyadic 42 31 (float_of (shown_at d units k)) (whole_at d k units 0) → Parts (float_of o)
shown-parts d k units o e h = rw e (answer-parts (asked_at d k units 0) d.bend units h)

-- ---- how long the parts of a line are

exact-few : (n : ℕ) → n < 2 ^ 64 → length (exact_decimal n) ≤ 52
unfolding exact_decimal fraction
exact-few n h =
    let f : length (fraction (n % 2 ^ 31)) ≤ 32 =
    choose (λ (l : List ℕ). length l ≤ 32) (eqb (n % 2 ^ 31) 0) (λ _. omega arith)
    (λ _. omega (arith, digits-few 31 (n % 2 ^ 31))) in
    omega (arith, f, whole-few n h, length-append (decimal (n / 2 ^ 31)) (fraction (n % 2 ^ 31)))

pub size_few : (x : Float) → Parts x → length (exact_decimal (nat_abs (times2 31 x))) ≤ 52
size_few x p = exact-few (nat_abs (times2 31 x)) (lt_of_lt_of_le (small x p) (lit≤ tt))

pub pitch-few : (x : Float) → Parts x → length (pitch_text x) ≤ 53
unfolding pitch_text
pitch-few x p =
    let n = nat_abs (times2 31 x) in
    let s : List ℕ = cond (below0 (times2 31 x)) (45 ∷ []) [] in
    let one : length s ≤ 1 =
    choose (λ (l : List ℕ). length l ≤ 1) (below0 (times2 31 x)) (λ _. omega arith) (λ _. omega arith) in
    omega (arith, one, size_few x p, length-append s (exact_decimal n))

pub note-few : (n : ℕ) → n < 2 ^ 8 → length (decimal n) ≤ 3
note-few n h = omega (arith, digits-length 10 (places n) n, few n 2 n (omega arith))

pub field-few : (n : ℕ) (name : List ℕ) (x : Float) → Parts x → n < 2 ^ 8 → length name ≤ 6
    → length (field_of n name x) ≤ 63
unfolding field_of
field-few n name x p h k =
    let a = length-append (32 ∷ []) (decimal n) in
    let b = length-append ((32 ∷ []) ++ decimal n) name in
    omega (arith, note-few n h, pitch-few x p, length-append ((32 ∷ []) ++ decimal n ++ name) (pitch_text x))

pub from-few : (n : ℕ) (s : Option Shown) → Parts (float_of s) → n < 2 ^ 8 → length (field_from n s) ≤ 63
unfolding field_from
from-few n None p h = omega arith
from-few n (Some (OfNumber x)) p h = field-few n _ x p h (lit≤ tt)
from-few n (Some (OfPitch725 x)) p h = field-few n _ x p h (lit≤ tt)
from-few n (Some (OfPitch79 x)) p h = field-few n _ x p h (lit≤ tt)

-- ---- the loops over the notes

pub fields-more : (d : Desk) (units n : ℕ)
    → fields_below d units (n + 1) ≡ fields_below d units n ++ field_from n (shown_at d units n)
unfolding fields_below
fields-more d units n = rw (add-one n)

one-few : (s : Option Shown) → one_if_shown s ≤ 1
one-few None = omega arith
one-few (Some s) = omega arith

pub count-few : (d : Desk) (units n : ℕ) → count_below d units n ≤ n
unfolding count_below
count-few d units zero = omega arith
count-few d units (suc n) = omega (arith, count-few d units n, one-few (shown_at d units n))

-- ---- the chains over the notes

range-more : (a n : ℕ) → range_with_len a (suc n) ≡ range_with_len a n ++ ((a + n) ∷ [])
range-more a zero = ap (λ (k : ℕ). k ∷ []) (sym (add-zero a))
range-more a (suc n) =
    let next : a + 1 + n ≡ a + suc n = omega arith in
    ap (λ (ks : List ℕ). a ∷ ks) (range-more (a + 1) n ∙ ap (λ (k : ℕ). range_with_len (a + 1) n ++ (k ∷ [])) next)

one-counted : (o : Option Shown) → 0 + cond (is_some o) 1 0 ≡ one_if_shown o
one-counted None = refl
one-counted (Some s) = refl

module _ (d : Desk) (units : ℕ) where
  abbrev pub is_shown : ℕ → Bool
  is_shown k = is_some (shown_at d units k)

  counted : (n : ℕ) → count_by is_shown (range_with_len 0 n) ≡ count_below d units n
  unfolding count_below
  counted zero = refl
  counted (suc n) =
      ap (λ (ks : List ℕ). count_by is_shown ks) (range-more 0 n)
      ∙ sum_by-append (λ (k : ℕ). cond (is_shown k) 1 0) (range_with_len 0 n) ((0 + n) ∷ [])
      ∙ ap₂ (λ (x y : ℕ). x + y) (counted n) (rw (zero-add n) (one-counted (shown_at d units n)))

  pub filtered : (n : ℕ) → length (filter is_shown (range_with_len 0 n)) ≡ count_below d units n
  filtered n = length-filter is_shown (range_with_len 0 n) ∙ counted n

-- what the derived comparison of two answers is
pub agrees : (o p : Option Shown) → option_eq (λ (x y : Shown). ghosts.eq x y) o p ≡ same_shown o p
unfolding eq
agrees None None = refl
agrees None (Some (OfNumber y)) = refl
agrees None (Some (OfPitch725 y)) = refl
agrees None (Some (OfPitch79 y)) = refl
agrees (Some (OfNumber x)) None = refl
agrees (Some (OfPitch725 x)) None = refl
agrees (Some (OfPitch79 x)) None = refl
agrees (Some (OfNumber x)) (Some (OfNumber y)) = refl
agrees (Some (OfNumber x)) (Some (OfPitch725 y)) = refl
agrees (Some (OfNumber x)) (Some (OfPitch79 y)) = refl
agrees (Some (OfPitch725 x)) (Some (OfNumber y)) = refl
agrees (Some (OfPitch725 x)) (Some (OfPitch725 y)) = refl
agrees (Some (OfPitch725 x)) (Some (OfPitch79 y)) = refl
agrees (Some (OfPitch79 x)) (Some (OfNumber y)) = refl
agrees (Some (OfPitch79 x)) (Some (OfPitch725 y)) = refl
agrees (Some (OfPitch79 x)) (Some (OfPitch79 y)) = refl

module _ (d e : Desk) (units : ℕ) where
  abbrev pub is_same : ℕ → Bool
  is_same k = same_shown (shown_at d units k) (shown_at e units k)

  pub compared : (n : ℕ) → list_all is_same (range_with_len 0 n) ≡ same_below d e units n
  unfolding same_below
  compared zero = refl
  compared (suc n) =
      ap (λ (ks : List ℕ). list_all is_same ks) (range-more 0 n)
      ∙ list_all-append is_same (range_with_len 0 n) ((0 + n) ∷ [])
      ∙ ap₂ (λ (x y : Bool). x && y) (compared n) (rw (zero-add n) (and-true (is_same n)))

-- none yet
pub fields-none : (d : Desk) (units : ℕ) → fields_below d units 0 ≡ []
unfolding fields_below
fields-none d units = refl

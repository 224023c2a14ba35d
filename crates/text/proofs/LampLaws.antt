-- The line of the panel: how many bytes its parts have, and that they are stored one after the other. Assumes nothing.
use Prim.Native.Nat.{ℕ, zero, suc, ◌+◌, ◌<◌, ◌≤◌}
use mathlib.Core.Path.{◌≡◌, refl, sym, ap, ◌∙◌}
use mathlib.Core.Bool.{Bool}
use mathlib.Core.List.{List, [], ◌∷◌, ◌++◌, append-nil}
use native.Mathlib.Omega.{arith}
use native.Mathlib.Numerals.{add-one}
use lib.ListN.{drop_of_length-le, length, length-append, set}
use lib.Seq.{sets, sets-eq}
use Rattle.ground.proofs.Cases.{choose}
use Rattle.ground.proofs.Stores.{sets-append}
use Rattle.keys.specs.declared.Keys.{Keys}
use Rattle.std.specs.Prelude.{Option, None, Some}
use Rattle.keys.specs.Keys.{down, down_count, least_down, tally}
use Rattle.keys.proofs.Bit.{Found, found}
use Rattle.text.specs.Lines.{place_if_put, places, with_row}
use Rattle.text.specs.Lamps.{channel_line, lamp, lamp_row, lamps_below, lamps_line, line_from, number_field}
use Rattle.text.proofs.LineLaws.{few, none-put, number-length}

pub lamps-length : (keys : Keys) (n : ℕ) → length (lamps_below keys n) ≡ n
unfolding lamps_below
lamps-length keys zero = refl
lamps-length keys (suc n) =
    omega (arith, length-append (lamps_below keys n) (lamp (down keys n) ∷ []), lamps-length keys n)

-- the loop that stores the lamps: none yet, and one more
pub lamps_none : (l : List ℕ) (keys : Keys) → l ≡ sets l 0 (lamps_below keys 0)
unfolding lamps_below
lamps_none l keys = refl

pub lamps_more : (l : List ℕ) (keys : Keys) (k : ℕ)
    → set (sets l 0 (lamps_below keys k)) k (lamp (down keys k)) ≡ sets l 0 (lamps_below keys (k + 1))
unfolding lamps_below
lamps_more l keys k =
    let n : 0 + length (lamps_below keys k) ≡ k = omega (arith, lamps-length keys k) in
    rw (add-one k, sets-append l 0 (lamps_below keys k) (lamp (down keys k) ∷ []), n)

-- all of them fill a row of their length
pub lamps_whole : (l : List ℕ) (keys : Keys) → length l ≡ 128 → sets l 0 (lamp_row keys) ≡ lamp_row keys
lamps_whole l keys h =
    let n : 0 + length (lamp_row keys) ≡ 128 = omega (arith, lamps-length keys 128) in
    let all : length l ≤ 128 = omega arith in
    rw (sets-eq (lamp_row keys) l 0 (omega (arith, n)), n, drop_of_length-le l all) (append-nil (lamp_row keys))

module _ (group channel : ℕ) (keys : Keys) (lowest : ℕ) where
  abbrev g : List ℕ
  g = number_field group

  abbrev c : List ℕ
  c = number_field channel

  abbrev d : List ℕ
  d = number_field (down_count keys)

  abbrev k : List ℕ
  k = number_field lowest

  abbrev r : List ℕ
  r = lamp_row keys

  -- where each part ends
  pub three-long : length (g ++ c ++ d) ≡ length g + length c + length d
  three-long = omega (arith, length-append g c, length-append (g ++ c) d)

  pub five-long : length (g ++ c ++ d ++ k ++ r) ≡ length g + length c + length d + length k + 128
  five-long =
      let p = length-append (g ++ c ++ d) k in
      let q = length-append (g ++ c ++ d ++ k) r in
      omega (arith, three-long, lamps-length keys 128)

  pub line-long : length (lamps_line group channel keys lowest) ≡ length g + length c + length d + length k + 129
  unfolding lamps_line
  line-long = omega (arith, five-long, length-append (g ++ c ++ d ++ k ++ r) (10 ∷ []))

  pub line-length : length (lamps_line group channel keys lowest)
      ≡ places group + places channel + (places (down_count keys) + places lowest) + 133
  line-length =
      let p = number-length 32 group in
      let q = number-length 32 channel in
      let s = number-length 32 (down_count keys) in
      let t = number-length 32 lowest in
      omega (arith, line-long)

-- a channel with no key down has no line, and nothing is put in its place
pub no_line : (group channel : ℕ) (keys : Keys) (lowest : Option ℕ) (l : List ℕ) (to : ℕ)
    → lowest ≡ least_down keys → lowest ≡ None
    → (Some to ≡ place_if_put l to (channel_line group channel keys))
    × (l ≡ with_row l to (channel_line group channel keys))
unfolding line_from
no_line group channel keys lowest l to e n =
    let z : channel_line group channel keys ≡ [] = ap (line_from group channel keys) (sym e ∙ n) in rw z (none-put l to)

-- any other has its own, by its lowest key
pub its-line : (group channel : ℕ) (keys : Keys) (lowest : Option ℕ) (k : ℕ)
    → lowest ≡ least_down keys → lowest ≡ Some k → channel_line group channel keys ≡ lamps_line group channel keys k
unfolding line_from
its-line group channel keys lowest k e n = ap (line_from group channel keys) (sym e ∙ n)

-- of the numbers below n no more than n have a property
tally-most : (p : ℕ → Bool) (n : ℕ) → tally p n ≤ n
unfolding tally
tally-most p zero = omega arith
tally-most p (suc n) =
    let h = tally-most p n in
    choose (λ (k : ℕ). tally p n + k ≤ suc n) (p n) (λ _. omega arith) (λ _. omega arith)

-- no line of a group and a channel with two digits each is longer than this
pub line-most : (group channel : ℕ) (keys : Keys) → group < 100 → channel < 100
    → length (channel_line group channel keys) ≤ 143
unfolding line_from Found
line-most group channel keys hg hc = go (least_down keys) (found (down keys) 128)
  where
    go : (l : Option ℕ) → Found (down keys) 128 l → length (line_from group channel keys l) ≤ 143
    go None f = omega arith
    go (Some k) f =
        let n = down_count keys in
        omega (
          arith,
          line-length group channel keys k,
          few group 1 group (omega arith),
          few channel 1 channel (omega arith),
          few n 2 n (omega (arith, tally-most (down keys) 128)),
          few k 2 k (omega (arith, f.0)),
        )

-- Bytes stored one after another are a row of stores, and a row is pasted. Assumes nothing.
use Prim.Native.Nat.{ℕ, ◌+◌, ◌≤◌}
use mathlib.Core.Path.{◌≡◌, sym, ap, ◌∙◌}
use mathlib.Core.List.{List, [], ◌∷◌, ◌++◌}
use native.Mathlib.Omega.{arith}
use lib.ListN.{drop, length, length-append, length-take, take}
use lib.Seq.{length-take-le, paste, sets, sets-eq, take-append-le, take_all}
use borrow.Rule.Slice.PartMut.{put_mid}
use Rattle.std.proofs.lemmas.Slice.{put_mid-paste}
use Rattle.ground.proofs.Stores.{sets-append}

-- three words of four bytes each
pub twelve : (l : List ℕ) (i a b c d e f g h j k m n : ℕ) → i + 12 ≤ length l
    → sets (sets (sets l i (a ∷ b ∷ c ∷ d ∷ [])) (i + 4) (e ∷ f ∷ g ∷ h ∷ [])) (i + 8) (j ∷ k ∷ m ∷ n ∷ [])
    ≡ paste l i (a ∷ b ∷ c ∷ d ∷ e ∷ f ∷ g ∷ h ∷ j ∷ k ∷ m ∷ n ∷ []) 12
twelve l i a b c d e f g h j k m n room =
    let p = sym (sets-append l i (a ∷ b ∷ c ∷ d ∷ []) (e ∷ f ∷ g ∷ h ∷ [])) in
    let q = sym (sets-append l i (a ∷ b ∷ c ∷ d ∷ e ∷ f ∷ g ∷ h ∷ []) (j ∷ k ∷ m ∷ n ∷ [])) in
    ap (λ (x : List ℕ). sets x (i + 8) (j ∷ k ∷ m ∷ n ∷ [])) p ∙ q
    ∙ sets-eq (a ∷ b ∷ c ∷ d ∷ e ∷ f ∷ g ∷ h ∷ j ∷ k ∷ m ∷ n ∷ []) l i room

-- the first bytes of a row, copied to a part of so many places, where more of them follow
pub copied : (l : List ℕ) (i k n : ℕ) (xs ys rest : List ℕ) → ys ≡ take n xs → n ≡ k → n ≤ length xs
    → put_mid i k l ys ≡ paste l i (xs ++ rest) n
copied l i k n xs ys rest e h m =
    put_mid-paste i k l ys (take n (xs ++ rest)) n (e ∙ sym (take-append-le n xs rest m)) h
    (sym (length-take-le n (xs ++ rest) (omega (arith, length-append xs rest))))
    ∙ ap (λ (z : List ℕ). take i l ++ z ++ drop (i + n) l) (take_all n (take n (xs ++ rest)) (omega (
      arith,
      length-take n
          (xs ++ rest),
    )))

-- Wherever a chain finishes, its bytes are the payloads of its packets since the last start. Assumes nothing.
use Prim.Native.Nat.{ℕ, ◌+◌, ◌≤◌}
use mathlib.Core.Path.{◌≡◌, refl, sym, ap, subst, ◌∙◌}
use mathlib.Core.Bool.{Bool, true, false, cond}
use mathlib.Core.Logic.{◌⊎◌, inl, inr}
use mathlib.Core.List.{List, [], ◌∷◌, ◌++◌, append_assoc, append-nil}
use native.Mathlib.Omega.{arith}
use lib.ListN.{length, take, length-append}
use lib.Seq.{paste, take-paste}
use lib.Dec.{eqb, leb}
use borrow.Author.Tests.{eqb-false, eqb-true, leb-false, leb-true, ne_eqb}
use Rattle.ground.proofs.Cases.{not-both}
use Rattle.stream.specs.Answers.{out_of_turn}
use Rattle.screen.specs.Screen.{goes_on}
use Rattle.piece.specs.Piece.{Fine, Piece, payload}
use Rattle.chains.specs.declared.Chain.{Chain}
use Rattle.chains.specs.Step.{base_of, begins, fresh, grown, refused_by, step_of, strays, verdict}
use Rattle.chains.specs.Collect.{piece_of, refusal_of}
use Rattle.chains.proofs.SortLaws.{same_or_not}
use Rattle.chains.proofs.StepLaws.{step-answer, taken}
use Rattle.chain_claims.specs.Claims.{All32, Held, Holds, Made, World, after, gathered, held_at, next, one, only}
use Rattle.chain_claims.specs.Claims.{payloads, run, since, told}
use Rattle.chain_claims.proofs.AloneLaws.{apart, gathered-alone}
use Rattle.chain_claims.proofs.WholeLaws.{fine, one-is, payload-length}

payloads-one : (p : List ℕ) → payloads (p ∷ []) ≡ payload (piece_of p)
unfolding payloads
payloads-one p = append-nil (payload (piece_of p))

payloads-append : (qs : List (List ℕ)) (p : List ℕ) → payloads (qs ++ p ∷ []) ≡ payloads qs ++ payload (piece_of p)
unfolding payloads
payloads-append [] p = append-nil (payload (piece_of p))
payloads-append (q ∷ qs) p = ap (λ (l : List ℕ). payload (piece_of q) ++ l) (payloads-append qs p)
    ∙ sym (append_assoc (payload (piece_of q)) (payloads qs) (payload (piece_of p)))

-- a refused piece leaves no chain open
dropped-closed : (c : Chain) (a : ℕ) → (refused_by a c).packets ≡ 0
unfolding refused_by
dropped-closed c a = go (eqb a out_of_turn) (eqb c.packets 0) refl
  where
    go : (s t : Bool) → eqb c.packets 0 ≡ t → (cond s (cond t c fresh) fresh).packets ≡ 0
    go true true e = eqb-true c.packets 0 e
    go true false e = refl
    go false t e = refl

-- no chain is open, or it holds the payloads so far, within its part
abbrev Sound : Held → List (List ℕ) → Type 0
Sound h qs = (h.chain.packets ≡ 0) ⊎ Holds h qs

-- by whether one is open: where the bytes go, and what is out of turn
module _ (c : Chain) (x : Piece) where
  base-closed : eqb c.packets 0 ≡ true → base_of c ≡ 0
  unfolding base_of
  base-closed e = rw e

  base-open : eqb c.packets 0 ≡ false → base_of c ≡ c.length
  unfolding base_of
  base-open e = rw e

  pub out-closed : eqb c.packets 0 ≡ true → begins x ≡ false → strays c x ≡ true
  unfolding strays
  out-closed e f = rw (e, f)

  pub out-open : eqb c.packets 0 ≡ false → begins x ≡ true → strays c x ≡ true
  unfolding strays
  out-open e f = rw (e, f)

  -- bytes held, with those of a piece after them
  more : (P bs : List ℕ) → Fine x → base_of c ≡ length bs → take (length bs) P ≡ bs → base_of c + x.count ≤ length P
      → ((grown c x).length ≡ length (bs ++ payload x))
      × (take (grown c x).length (paste P (base_of c) x.bytes x.count) ≡ bs ++ payload x)
  unfolding grown
  more P bs f b t r =
      let l = length-append bs (payload x) in
      let n = payload-length x f in (
        omega arith,
        take-paste P (base_of c) x.bytes x.count (omega arith) (omega (arith, f.few, f.places))
            ∙ ap (λ (m : ℕ). take m P ++ payload x) b ∙ ap (λ (l : List ℕ). l ++ payload x) t,
      )

-- a packet that is taken: the chain holds the payloads with its own
holds : (h : Held) (qs : List (List ℕ)) (p : List ℕ) → Sound h qs → refusal_of p ≡ goes_on
    → verdict h.chain (length h.part) (piece_of p) ≤ 1 → Holds (one h p) (next qs p)
unfolding next
holds h qs p s e v =
    let x = piece_of p in
    let t = taken _ _ _ _ _ _ v in
    rw (
      (one-is h p (verdict h.chain (length h.part) x) e refl v).0,
      e,
    ) (go (eqb h.chain.packets 0) refl (begins x) refl s t.0 t.2)
  where
    go : (c : Bool) → eqb h.chain.packets 0 ≡ c → (b : Bool) → begins (piece_of p) ≡ b → Sound h qs
        → strays h.chain (piece_of p) ≡ false → base_of h.chain + (piece_of p).count ≤ length h.part
        → ((grown h.chain (piece_of p)).length ≡ length (payloads (cond b (p ∷ []) (qs ++ p ∷ []))))
        × (take (grown h.chain (piece_of p)).length (paste h.part (base_of h.chain) (piece_of p).bytes
        (piece_of p).count) ≡ payloads (cond b (p ∷ []) (qs ++ p ∷ [])))
    go true f true g s o r =
        let b = base-closed h.chain (piece_of p) f in
        rw (payloads-one p) (more h.chain (piece_of p) h.part [] (fine p) b refl r)
    go true f false g s o r = not-both (sym o ∙ out-closed h.chain (piece_of p) f g)
    go false f true g s o r = not-both (sym o ∙ out-open h.chain (piece_of p) f g)
    go false f false g (inl z) o r = absurd (eqb-false h.chain.packets 0 f z)
    go false f false g (inr k) o r =
        let b = base-open h.chain (piece_of p) f ∙ k.0 in
        rw (payloads-append qs p) (more h.chain (piece_of p) h.part (payloads qs)
        (fine p) b (rw k.0 at k.1) r)

-- a piece that is refused, and a packet that is no piece
module _ (h : Held) (p : List ℕ) where
  pub shut : refusal_of p ≡ goes_on → leb (verdict h.chain (length h.part) (piece_of p)) 1 ≡ false
      → (one h p).chain.packets ≡ 0
  unfolding one step_of
  shut e f = rw (e, f) (dropped-closed h.chain (verdict h.chain (length h.part) (piece_of p)))

  pub told_is : refusal_of p ≡ goes_on → told h p ≡ verdict h.chain (length h.part) (piece_of p)
  unfolding told
  told_is e = rw e (step-answer h.chain (length h.part) (piece_of p))

  pub idle : (refusal_of p ≡ goes_on → ⊥) → one h p ≡ h
  unfolding one
  idle n = rw (ne_eqb (refusal_of p) goes_on n)

  pub told-idle : (refusal_of p ≡ goes_on → ⊥) → told h p ≡ refusal_of p
  unfolding told
  told-idle n = rw (ne_eqb (refusal_of p) goes_on n)

pub idle-next : (qs : List (List ℕ)) (p : List ℕ) → (refusal_of p ≡ goes_on → ⊥) → next qs p ≡ qs
unfolding next
idle-next qs p n = rw (ne_eqb (refusal_of p) goes_on n)

-- each packet keeps the chain sound
sound : (h : Held) (qs : List (List ℕ)) (p : List ℕ) → Sound h qs → Sound (one h p) (next qs p)
sound h qs p s = go (same_or_not (refusal_of p) goes_on) (leb (verdict h.chain (length h.part) (piece_of p)) 1) refl
  where
    go : (refusal_of p ≡ goes_on) ⊎ (refusal_of p ≡ goes_on → ⊥) → (t : Bool)
        → leb (verdict h.chain (length h.part) (piece_of p)) 1 ≡ t → Sound (one h p) (next qs p)
    go (inl e) true f = inr (holds h qs p s e (leb-true (verdict h.chain (length h.part) (piece_of p)) 1 f))
    go (inl e) false f = inl (shut h p e f)
    go (inr n) t f = rw (idle h p n, idle-next qs p n) s

sounds : (ps : List (List ℕ)) (h : Held) (qs : List (List ℕ)) → Sound h qs → Sound (gathered h ps) (since qs ps)
unfolding gathered since
sounds [] h qs s = s
sounds (p ∷ ps) h qs s = sounds ps (one h p) (next qs p) (sound h qs p s)

since-last : (ps qs : List (List ℕ)) (z : List ℕ) → since qs (ps ++ z ∷ []) ≡ next (since qs ps) z
unfolding since
since-last [] qs z = refl
since-last (p ∷ ps) qs z = since-last ps (next qs p) z

pub run-full : (ps : List (List ℕ)) (w : World) → All32 w → All32 (run w ps)
unfolding run
run-full [] w f = f
run-full (p ∷ ps) w f = run-full ps (after w p) (apart w p f).same.0

-- an answer 0 is of a piece that was taken
told-zero : (h : Held) (p : List ℕ) → told h p ≡ 0 → (refusal_of p ≡ goes_on)
    × (verdict h.chain (length h.part) (piece_of p) ≤ 1)
told-zero h p e = go (same_or_not (refusal_of p) goes_on) (leb (verdict h.chain (length h.part) (piece_of p)) 1) refl
  where
    go : (refusal_of p ≡ goes_on) ⊎ (refusal_of p ≡ goes_on → ⊥) → (t : Bool)
        → leb (verdict h.chain (length h.part) (piece_of p)) 1 ≡ t → (refusal_of p ≡ goes_on)
        × (verdict h.chain (length h.part) (piece_of p) ≤ 1)
    go (inl r) true f = (r, leb-true (verdict h.chain (length h.part) (piece_of p)) 1 f)
    go (inl r) false f = absurd (omega (
      arith,
      leb-false (verdict h.chain (length h.part) (piece_of p)) 1 f,
      sym (told_is h p r) ∙ e,
    ))
    go (inr n) t f = absurd (n (sym (told-idle h p n) ∙ e))

pub proved-made : Made
proved-made k w ps z low full c q e =
    let g = gathered-alone k ps w low full in
    let o = (apart (run w ps) z (run-full ps w full)).own k low q in
    let h = gathered (held_at k w) (only k ps) in
    let y = told-zero h z (ap (λ (x : Held). told x z) (sym g) ∙ sym o.1 ∙ e) in
    subst (λ (x : Held). Holds x (since [] (only k ps ++ z ∷ []))) (sym (o.0 ∙ ap (λ (x : Held). one x z) g))
    (rw (since-last (only k ps) [] z) (holds h (since [] (only k ps)) z (sounds (only k ps) (held_at k w) [] (inl c))
    y.0 y.1))

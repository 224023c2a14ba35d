-- Laws of a run, for every step and state. Assumes nothing.
use Prim.Native.Nat.{ℕ, zero, suc, pred, ◌+◌, ◌-◌, ◌*◌, ◌≤◌}
use mathlib.Core.Path.{◌≡◌, refl, ap, ◌∙◌}
use mathlib.Core.Bool.{Bool, true, false, cond}
use mathlib.Core.List.{List, [], ◌∷◌, ◌++◌, append_assoc, foldr, map}
use native.Mathlib.Omega.{arith}
use native.Mathlib.Nat.{zero-add, add_assoc}
use lib.ListN.{length, length-append, length-take}
use lib.Dec.{eqb, leb}
use borrow.Author.Tests.{le-leb, leb-true, ne_eqb}
use Rattle.ground.specs.Lists.{sum}
use Rattle.ground.proofs.Cases.{choose}
use Rattle.ump.specs.Packet.{cut, cut_after, size}
use Rattle.ump.proofs.PacketLaws.{size-range}
use Rattle.stream.specs.Answers.{no_room, sent}
use Rattle.stream.specs.Call.{Call, fit, left_of, sent_of, stopped, went, within}
use Rattle.stream.specs.Run.{Ran, run, then_run}
use Rattle.stream.specs.Claims.{Made, and_then, calls, roomed}

-- what holds of the state that a call leaves, if it went on; and of its answer, if it stops
abbrev pub Does : {T : Type 0} → (T → Type 0) → (ℕ → Type 0) → Call T → Type 0
Does I A (went a ws u) = I u
Does I A (stopped a) = A a

-- so it holds of the state after, if it held before
pub does-left : {T : Type 0} (I : T → Type 0) (A : ℕ → Type 0) (t : T) (c : Call T) → I t → Does I A c → I (left_of t c)
does-left I A t (went a ws u) h k = k
does-left I A t (stopped a) h k = h

-- the words of some packets
abbrev pub size_of : List (List ℕ) → ℕ
size_of ps = sum (map (λ (p : List ℕ). length p) ps)

-- the packets of a stream have its words
pub cut-size : (s : List ℕ) → size_of (cut s) ≡ length s
unfolding cut cut_after
cut-size s = go 0 s ∙ omega arith
  where
    go : (k : ℕ) (s : List ℕ) → size_of (cut_after k s) ≡ length s - k
    go k [] = omega arith
    go (suc k) (w ∷ s) = go k s ∙ omega arith
    go zero (w ∷ s) = omega (arith, length-take (size w) (w ∷ s), go (pred (size w)) s, size-range w)

module _ {T : Type 0} (step : T → List ℕ → Call T) where
  -- a run at its first packet
  pub by-first-call : (P : Ran T → Type 0) (t : T) (p : List ℕ) (ps : List (List ℕ))
      → ((a : ℕ) (ws : List ℕ) (u : T) → step t p ≡ went a ws u → P (then_run p t (went a ws u) (λ v. run step v ps)))
      → ((a : ℕ) → step t p ≡ stopped a → P (record { answer = a; read = 0; sends = []; left = t }))
      → P (run step t (p ∷ ps))
  unfolding run
  by-first-call P t p ps f g = go (step t p) refl
    where
      go : (c : Call T) → step t p ≡ c → P (then_run p t c (λ v. run step v ps))
      go (went a ws u) e = f a ws u e
      go (stopped a) e = g a e

  -- what every call keeps of the state the run keeps, and it answers what calls stop with, or that it came to its end
  pub run-does : (I : T → Type 0) (A : ℕ → Type 0) → A sent → ((t : T) (p : List ℕ) → I t → Does I A (step t p))
      → (ps : List (List ℕ)) (t : T) → I t → I (run step t ps).left × A (run step t ps).answer
  unfolding run
  run-does I A z k [] t h = (h, z)
  run-does I A z k (p ∷ ps) t h =
      by-first-call (λ (r : Ran T). I r.left × A r.answer) t p ps
      (λ a ws u e. run-does I A z k ps u (rw e at (k t p h))) (λ a e. (h, rw e at (k t p h)))

  -- with room for all that is sent, a run is the run with unlimited room
  pub ample : (ps : List (List ℕ)) (t : T) (room : ℕ) → length (run step t ps).sends ≤ room
      → run (within step) (room, t) ps ≡ roomed room (run step t ps)
  unfolding run within
  ample [] t room h = ap (λ (n : ℕ). record { answer = sent; read = 0; sends = []; left = (n, t) }) (omega arith)
  ample (p ∷ ps) t room h =
      by-first-call (λ (r : Ran T). length r.sends ≤ room
      → run (within step) (room, t) (p ∷ ps) ≡ roomed room r) t p ps
      (λ a ws u e k.
      let r = run step u ps in
      let l = length-append ws r.sends in
      let same : room - length ws - length r.sends ≡ room - length (ws ++ r.sends) = omega arith in
      rw (e, le-leb (length ws) room (omega arith), ample ps u (room - length ws) (omega arith))
      (ap (λ (n : ℕ). then_run p (n, t) (went a ws (n, u))
      (λ v. record { answer = r.answer; read = r.read; sends = r.sends; left = (v.0, r.left) })) same))
      (λ a e _. rw e (ap (λ (n : ℕ). record { answer = a; read = 0; sends = []; left = (n, t) }) (omega arith))) h

  -- and a run that does not answer `no_room` had room for all
  pub roomy : (ps : List (List ℕ)) (t : T) (room : ℕ) → ((run (within step) (room, t) ps).answer ≡ no_room → ⊥)
      → length (run step t ps).sends ≤ room
  unfolding run within
  roomy [] t room h = omega arith
  roomy (p ∷ ps) t room h =
      by-first-call (λ (r : Ran T). length r.sends ≤ room) t p ps
      (λ a ws u e. go a ws u (rw e at h) (λ n. roomy ps u n) (leb (length ws) room) refl) (λ a e. omega arith)
    where
      go : (a : ℕ) (ws : List ℕ) (u : T)
          → ((then_run p (room, t) (fit room (went a ws u)) (λ v. run (within step) v ps)).answer ≡ no_room → ⊥)
          → ((n : ℕ) → ((run (within step) (n, u) ps).answer ≡ no_room → ⊥) → length (run step u ps).sends ≤ n)
          → (b : Bool) → leb (length ws) room ≡ b → length (ws ++ (run step u ps).sends) ≤ room
      go a ws u h ih true e =
          let rest = ih (room - length ws) (rw e at h) in
          omega (arith, length-append ws (run step u ps).sends, leb-true (length ws) room e)
      go a ws u h ih false e = absurd ((rw e at h) refl)

  -- so it sends what that run sends
  pub roomed-sends : (ps : List (List ℕ)) (t : T) (room : ℕ) → ((run (within step) (room, t) ps).answer ≡ no_room → ⊥)
      → (run (within step) (room, t) ps).sends ≡ (run step t ps).sends
  roomed-sends ps t room h = ap (λ (r : Ran (ℕ × T)). r.sends) (ample ps t room (roomy ps t room h))

  -- a call in an output of so much room leaves what it leaves without, and stops as it does without, or with `no_room`
  pub within-does : (I : T → Type 0) (A : ℕ → Type 0) → A no_room → (s : ℕ × T) (p : List ℕ) → Does I A (step s.1 p)
      → Does (λ (u : ℕ × T). I u.1) A (within step s p)
  unfolding within
  within-does I A nine s p = go (step s.1 p)
    where
      go : (c : Call T) → Does I A c → Does (λ (u : ℕ × T). I u.1) A (fit s.0 c)
      go (stopped a) l = l
      go (went a ws u) l = choose (Does (λ (v : ℕ × T). I v.1) A) (leb (length ws) s.0) (λ _. l) (λ _. nine)

  -- a run reads no more words than there are
  packets-read : (t : T) (ps : List (List ℕ)) → (run step t ps).read ≤ size_of ps
  unfolding run
  packets-read t [] = omega arith
  packets-read t (p ∷ ps) =
      by-first-call (λ (r : Ran T). r.read ≤ length p + size_of ps) t p ps
      (λ a ws u e. omega (arith, packets-read u ps)) (λ a e. omega arith)

  pub words-read : (t : T) (s : List ℕ) → (run step t (cut s)).read ≤ length s
  words-read t s = omega (arith, packets-read t (cut s), cut-size s)

  -- if no call sends more than k words for each word of its packet, no run does
  pub bounded : (k : ℕ) → ((t : T) (p : List ℕ) → length (sent_of (step t p)) ≤ k * length p)
      → (ps : List (List ℕ)) (t : T) → length (run step t ps).sends ≤ k * size_of ps
  unfolding run
  bounded k h [] t = omega arith
  bounded k h (p ∷ ps) t =
      by-first-call (λ (r : Ran T). length r.sends ≤ k * (length p + size_of ps)) t p ps
      (λ a ws u e.
      let l : length ws ≤ k * length p = rw e at (h t p) in
      omega (arith, length-append ws (run step u ps).sends, bounded k h ps u))
      (λ a e. omega arith)

  -- two rows of packets, one after the other
  pub run-append : ((t : T) (p : List ℕ) → Does (λ _. Unit {0}) (λ a. a ≡ sent → ⊥) (step t p))
      → (ps qs : List (List ℕ)) (t : T) → run step t (ps ++ qs) ≡ and_then (run step t ps) (λ u. run step u qs)
  unfolding run
  run-append z [] qs t = rw (zero-add (run step t qs).read)
  run-append z (p ∷ ps) qs t =
      by-first-call (λ (r : Ran T). run step t (p ∷ ps ++ qs) ≡ and_then r (λ u. run step u qs)) t p ps
      (λ a ws u e. rw (e, run-append z ps qs u)
      (go ws (run step u ps) (run step (run step u ps).left qs) (eqb (run step u ps).answer 0)))
      (λ a e. let n : a ≡ sent → ⊥ = rw e at (z t p) in rw (e, ne_eqb a 0 n))
    where
      both : Ran T → Ran T → Ran T
      both r q = record { answer = q.answer; read = r.read + q.read; sends = r.sends ++ q.sends; left = q.left }

      go : (ws : List ℕ) (r q : Ran T) (b : Bool)
          → then_run p t (went 0 ws t) (λ _. cond b (both r q) r)
          ≡ cond b (both (then_run p t (went 0 ws t) (λ _. r)) q) (then_run p t (went 0 ws t) (λ _. r))
      go ws r q true = rw (append_assoc, add_assoc)
      go ws r q false = refl

  -- What adds up over the calls: `whole` of the run, where `of` is a call's part.
  pub by-calls : {B : Type 0} (op : B → B → B) (z : B) (of : Made T → B) (whole : Ran T → B)
      → ((t : T) → whole (record { answer = sent; read = 0; sends = []; left = t }) ≡ z)
      → ((p : List ℕ) (t : T) (a : ℕ)
      → whole (record { answer = a; read = 0; sends = []; left = t })
      ≡ op (of (record { packet = p; call = stopped a })) z)
      → ((p : List ℕ) (t : T) (a : ℕ) (ws : List ℕ) (u : T) (rest : T → Ran T)
      → whole (then_run p t (went a ws u) rest) ≡ op (of (record { packet = p; call = went a ws u })) (whole (rest u)))
      → (t : T) (ps : List (List ℕ)) → whole (run step t ps) ≡ foldr op z (map of (calls step t ps))
  unfolding run calls
  by-calls op z of whole f g h t [] = f t
  by-calls op z of whole f g h t (p ∷ ps) =
      by-first-call (λ (r : Ran T). whole r ≡ foldr op z (map of (calls step t (p ∷ ps)))) t p ps
      (λ a ws u e.
      rw e (h p t a ws u (λ v. run step v ps)
      ∙ ap (op (of (record { packet = p; call = went a ws u }))) (by-calls op z of whole f g h u ps)))
      (λ a e. rw e (g p t a))

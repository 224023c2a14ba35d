-- A step over states that other states stand for makes the same calls, and so the same run. Assumes nothing.
use Prim.Native.Nat.{ℕ, ◌+◌, ◌-◌}
use mathlib.Core.Path.{◌≡◌, refl, ap, ◌∙◌}
use mathlib.Core.Bool.{Bool, true, false, cond}
use mathlib.Core.List.{List, [], ◌∷◌, ◌++◌}
use lib.ListN.{drop, length}
use lib.Dec.{leb}
use Rattle.ump.specs.Packet.{cut}
use Rattle.stream.specs.declared.Done.{Done}
use Rattle.stream.specs.Answers.{no_room}
use Rattle.stream.specs.Call.{Call, fit, left_of, sent_of, stopped, went, within}
use Rattle.stream.specs.Calls.{Inside, next_call, ran_seen, seen, whole_run}
use Rattle.stream.specs.Report.{further}
use Rattle.stream.specs.Run.{Ran, run, then_run}

-- the state beside the room that is left
abbrev pub beside : {T U : Type 0} → (T → U) → ℕ × T → ℕ × U
beside f s = (s.0, f s.1)

module _ {T U : Type 0} (f : T → U) where
  -- what is seen of a call is what it answers, reads and sends
  pub further-seen : (d : Done) (p : List ℕ) (c : Call T) → further d p (seen f c) ≡ further d p c
  further-seen d p (went a ws u) = refl
  further-seen d p (stopped a) = refl

  pub sent-seen : (c : Call T) → sent_of (seen f c) ≡ sent_of c
  sent-seen (went a ws u) = refl
  sent-seen (stopped a) = refl

  pub left-seen : (t : T) (c : Call T) → left_of (f t) (seen f c) ≡ f (left_of t c)
  left-seen t (went a ws u) = refl
  left-seen t (stopped a) = refl

  pub fit-seen : (room : ℕ) (c : Call T) → fit room (seen f c) ≡ seen (beside f) (fit room c)
  fit-seen room (stopped a) = refl
  fit-seen room (went a ws u) = go (leb (length ws) room)
    where
      go : (b : Bool) → cond b (went a ws (room - length ws, f u)) (stopped no_room)
          ≡ seen (beside f) (cond b (went a ws (room - length ws, u)) (stopped no_room))
      go true = refl
      go false = refl

-- after a call that is seen so, where the rest is
then-seen : {T U : Type 0} (f : T → U) (step : T → List ℕ → Call T) (step' : U → List ℕ → Call U) (p : List ℕ)
    (ps : List (List ℕ)) (t : T) → ((u : T) → run step' (f u) ps ≡ ran_seen f (run step u ps)) → (c : Call T)
    → then_run p (f t) (seen f c) (λ u. run step' u ps) ≡ ran_seen f (then_run p t c (λ u. run step u ps))
then-seen f step step' p ps t rest (stopped a) = refl
then-seen {T} {U} f step step' p ps t rest (went a ws u) =
    ap (λ (r : Ran U). record {
      answer = r.answer;
      read = length p + r.read;
      sends = ws ++ r.sends;
      left = r.left;
    }) (rest u)

-- a run of calls that are seen so
pub run-seen : {T U : Type 0} (f : T → U) (step : T → List ℕ → Call T) (step' : U → List ℕ → Call U)
    → ((t : T) (p : List ℕ) → step' (f t) p ≡ seen f (step t p)) → (t : T) (ps : List (List ℕ))
    → run step' (f t) ps ≡ ran_seen f (run step t ps)
unfolding run
run-seen f step step' e t [] = refl
run-seen {T} {U} f step step' e t (p ∷ ps) =
    ap (λ (c : Call U). then_run p (f t) c (λ u. run step' u ps)) (e t p)
    ∙ then-seen f step step' p ps t (λ u. run-seen f step step' e u ps) (step t p)

module _ {T U : Type 0} (f : T → U) (step : T → List ℕ → Call T) (step' : U → List ℕ → Call U)
    (e : (t : T) (p : List ℕ) → step' (f t) p ≡ seen f (step t p)) where
  pub within-seen : (s : ℕ × T) (p : List ℕ) → within step' (beside f s) p ≡ seen (beside f) (within step s p)
  unfolding within
  within-seen s p = ap (fit s.0) (e s.1 p) ∙ fit-seen f s.0 (step s.1 p)

  pub whole-seen : (ws : List ℕ) (long : ℕ) (t : T)
      → whole_run step' ws long (f t) ≡ ran_seen (beside f) (whole_run step ws long t)
  whole-seen ws long t = run-seen (beside f) (within step) (within step') within-seen (long, t) (cut ws)

  pub next-seen : (ws : List ℕ) (d : Done) (long : ℕ) (t : T)
      → next_call step' ws d long (f t) ≡ seen (beside f) (next_call step ws d long t)
  next-seen ws d long t = within-seen (long - d.written, t) (drop d.read ws)

pub inside-seen : {T U : Type 0} (f : T → U) (s : List ℕ) (c : Call T) → Inside s c → Inside s (seen f c)
inside-seen f s (went a ws u) h = h
inside-seen f s (stopped a) h = h

module _ {T U : Type 0} (f : T → U) (step : T → List ℕ → Call T) (step' : U → List ℕ → Call U)
    (e : (t : T) (p : List ℕ) → step' (f t) p ≡ seen f (step t p)) (ws : List ℕ) (d : Done) (long : ℕ) (t : T) where
  abbrev one : Call (ℕ × T)
  one = next_call step ws d long t

  -- what is told of the next call, what it leaves and what it sends
  pub further-next : (p : List ℕ) → further d p (next_call step' ws d long (f t)) ≡ further d p one
  further-next p = ap (further d p) (next-seen f step step' e ws d long t) ∙ further-seen (beside f) d p one

  pub left-next : (room : ℕ)
      → (left_of (room, f t) (next_call step' ws d long (f t))).1 ≡ f (left_of (room, t) one).1
  left-next room =
      ap (λ (c : Call (ℕ × U)). (left_of (room, f t) c).1) (next-seen f step step' e ws d long t)
      ∙ ap (λ (s : ℕ × U). s.1) (left-seen (beside f) (room, t) one)

  pub sent-next : sent_of (next_call step' ws d long (f t)) ≡ sent_of one
  sent-next = ap sent_of (next-seen f step step' e ws d long t) ∙ sent-seen (beside f) one

-- Up, down and up again, for every upward step that sends at most one packet a call, and every downward step that it
-- undoes. Assumes nothing.
use Prim.Native.Nat.{ℕ, ◌≤◌}
use mathlib.Core.Path.{◌≡◌, refl, sym, ap, ◌∙◌}
use mathlib.Core.List.{List, [], ◌∷◌, ◌++◌, append_assoc}
use native.Mathlib.Omega.{arith}
use Rattle.ump.specs.Packet.{Whole, cut, cut_after}
use Rattle.ump.proofs.PacketLaws.{cut-whole}
use Rattle.ground.specs.Lists.{All}
use Rattle.stream.specs.Answers.{sent, taken_in}
use Rattle.stream.specs.Call.{Call, answer_of, stopped, went}
use Rattle.stream.specs.Run.{Ran, run}
use Rattle.stream.specs.Claims.{Made, calls}
use Rattle.stream.proofs.RunLaws.{Does, by-first-call}

-- what a call up sends: nothing, or one whole packet of a kind
pub data Sends (Emit : List ℕ → Type 0) : List ℕ → Type 0 where
  nothing : Sends Emit []
  packet : {p : List ℕ} → Whole p → Emit p → Sends Emit p

-- of a call that went on: what it sends, and what it leaves
abbrev pub Fit : {T : Type 0} → (T → Type 0) → (List ℕ → Type 0) → Call T → Type 0
Fit Kept Emit (went a ws u) = Sends Emit ws × Kept u
Fit Kept Emit (stopped a) = Unit {0}

-- a call that was not refused
abbrev pub Taken : {T : Type 0} → Made T → Type 0
Taken m = answer_of m.call ≤ taken_in

-- a run none of whose calls is refused comes to its end
pub taken-ends : {T : Type 0} (step : T → List ℕ → Call T)
    → ((t : T) (p : List ℕ) → Does (λ _. Unit {0}) (λ (a : ℕ). 2 ≤ a) (step t p))
    → (ps : List (List ℕ)) (t : T) → All Taken (calls step t ps) → (run step t ps).answer ≡ sent
unfolding run calls
taken-ends step stops [] t h = refl
taken-ends {T} step stops (p ∷ ps) t h =
    by-first-call step (λ (r : Ran T). r.answer ≡ sent) t p ps
    (λ a ws u e. taken-ends step stops ps u (rw e at h).1)
    (λ a e. let l : 2 ≤ a = rw e at (stops t p) in absurd (omega (arith, (rw e at h).0)))

-- In state t the words ws send p, whatever follows, and leave v; and no call there is refused.
pub record Came {T : Type 0} (step : T → List ℕ → Call T) (t v : T) (ws p : List ℕ) : Type 0 where
  pub comes : (s : List ℕ) → (run step t (cut (ws ++ s))).sends ≡ p ++ (run step v (cut s)).sends
  pub taken : (s : List ℕ) → All Taken (calls step v (cut s)) → All Taken (calls step t (cut (ws ++ s)))

pub came-none : {T : Type 0} (step : T → List ℕ → Call T) (t : T) → Came step t t [] []
came-none step t = record { comes = λ s. refl; taken = λ s h. h }

pub came-packet : {T : Type 0} (step : T → List ℕ → Call T) (t u v : T) (q us ws p : List ℕ) (a : ℕ)
    → Whole q → step t q ≡ went a us u → a ≤ 1 → Came step u v ws p → Came step t v (q ++ ws) (us ++ p)
unfolding run calls
came-packet step t u v q us ws p a whole e low c =
    record {
      comes =
          λ s. rw (append_assoc q ws s, cut-whole q (ws ++ s) whole, e, c.comes s)
          (sym (append_assoc us p (run step v (cut s)).sends));
      taken = λ s h. rw (append_assoc q ws s, cut-whole q (ws ++ s) whole, e) (low, c.taken s h);
    }

-- Down goes on at p, and what it sends comes up as p again, in a good state.
pub record Undone {T U : Type 0} (up : T → List ℕ → Call T) (down : U → List ℕ → Call U) (Good : T → Type 0) (t : T)
    (u : U) (p : List ℕ) : Type 0 where
  pub answer : ℕ
  pub words : List ℕ
  pub left : U
  pub goes : down u p ≡ went answer words left
  pub end : T
  pub good : Good end
  pub back : Came up t end words p

-- The words ws, taken down and up again, are the same words; and no packet that came down is refused.
abbrev pub Again : {T U : Type 0} → (T → List ℕ → Call T) → (U → List ℕ → Call U) → T → U → List ℕ → Type 0
Again up down v u ws =
    let p = cut (run down u (cut ws)).sends in
    ((run up v p).sends ≡ ws) × All Taken (calls up v p)

module _
    {T U : Type 0}
    (up : T → List ℕ → Call T)
    (down : U → List ℕ → Call U)
    (Kept Good : T → Type 0)
    (Emit : List ℕ → Type 0)
    (sends : (t : T) (p : List ℕ) → Kept t → Fit Kept Emit (up t p))
    (undone : (t : T) (u : U) (p : List ℕ) → Good t → Emit p → Undone up down Good t u p)
  where
    pub round : (ps : List (List ℕ)) (t v : T) (u : U) → Kept t → Good v → Again up down v u (run up t ps).sends
    unfolding run calls cut cut_after
    round [] t v u k g = (refl, tt)
    round (p ∷ ps) t v u k g =
        by-first-call up (λ (r : Ran T). Again up down v u r.sends) t p ps
        (λ a ws t' e. let f = rw e at (sends t p k) in go ws f.0 (run up t' ps).sends
        (λ v' u' g'. round ps t' v' u' f.1 g')) (λ a e. (refl, tt))
      where
        go : (ws : List ℕ) → Sends Emit ws → (rest : List ℕ) → ((v' : T) (u' : U) → Good v' → Again up down v' u' rest)
            → Again up down v u (ws ++ rest)
        go ws nothing rest ih = ih v u g
        go ws (packet whole emit) rest ih =
            let x = undone v u ws g emit in
            let y = ih x.end x.left x.good in
            let s = (run down x.left (cut rest)).sends in
            rw (cut-whole ws rest whole, x.goes) (x.back.comes s ∙ ap (◌++◌ ws) y.0, x.back.taken s y.1)

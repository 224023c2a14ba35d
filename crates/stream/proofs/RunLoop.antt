-- A loop that makes a call at each packet is the run, for every step that looks at its own packet alone. Assumes
-- nothing.
use Prim.Native.Nat.{ℕ, suc, ◌+◌, ◌-◌, ◌<◌, ◌≤◌}
use mathlib.Core.Path.{◌≡◌, refl, sym, ap, ◌∙◌, subst}
use mathlib.Core.Bool.{Bool, true, false, cond}
use mathlib.Core.Logic.{⊎_elim}
use mathlib.Core.List.{List, [], ◌∷◌, ◌++◌, append_assoc, append-nil}
use native.Mathlib.Omega.{arith}
use native.Mathlib.Nat.{add-zero, zero-add, add_assoc, sub-zero}
use lib.ListN.{length, get_or, take, drop, length-drop, length-append, take-append-drop}
use lib.Seq.{drop-cons, take_at, drop_at, length-take-le, drop-drop}
use lib.Dec.{leb}
use borrow.Author.Tests.{leb-true}
use Rattle.ground.specs.Store.{at_start, written}
use Rattle.ground.proofs.StoreLaws.{written_none}
use Rattle.ump.specs.Packet.{cut, first, packet, size}
use Rattle.ump.proofs.PacketLaws.{cut_at, cut-end, packet-size, size-range}
use Rattle.stream.specs.Answers.{cut_packet, no_room, sent}
pub use Rattle.stream.specs.Calls.{Inside}
use Rattle.stream.specs.Call.{Call, answer_of, fit, left_of, read_of, sent_of, stopped, went, within}
use Rattle.stream.specs.Report.{counting, reported}
use Rattle.stream.specs.Run.{Ran, run, then_run}

-- What a function that makes the call c answers: at the packet p, in state t, into the output from the place `to` on.
pub record Did {T : Type 0} (c : Call (ℕ × T)) (room : ℕ) (p : List ℕ) (to : ℕ) (t : T) (out : List ℕ)
    (answer read words : ℕ) (t' : T) (out' : List ℕ) : Type 0 where
  pub answers : answer ≡ answer_of c
  pub reads : read ≡ read_of p c
  pub writes : words ≡ length (sent_of c)
  pub leaves : t' ≡ (left_of (room, t) c).1
  pub holds : out' ≡ written to (sent_of c) out

-- and what one that makes a run answers
pub record DidRun {T : Type 0} (r : Ran (ℕ × T)) (out : List ℕ) (answer read words : ℕ) (t' : T)
    (out' : List ℕ) : Type 0 where
  pub answers : answer ≡ r.answer
  pub reads : read ≡ r.read
  pub writes : words ≡ length r.sends
  pub leaves : t' ≡ r.left.1
  pub holds : out' ≡ at_start r.sends out

-- what is reported of a run that is done
pub reports : {T : Type 0} {r : Ran (ℕ × T)} {out out' : List ℕ} {a i n : ℕ} {t : T} → DidRun r out a i n t out'
    → counting a i n ≡ reported r
reports d = rw (d.answers, d.reads, d.writes)

-- what stops where no packet is whole goes on only with a whole one
pub packet-inside : {T : Type 0} (act : List ℕ → Call T) → act [] ≡ stopped cut_packet → (w : ℕ) (s : List ℕ)
    → Inside (w ∷ s) (act (packet (w ∷ s)))
packet-inside {T} act e w s =
    ⊎_elim (λ n. subst (λ (c : Call T). Inside (w ∷ s) c) (sym (ap act n ∙ e)) tt)
    (λ h. go (act (packet (w ∷ s))) (ap length h.0 ∙ length-take-le (size w) (w ∷ s) h.1) h.1)
    (packet-size w s)
  where
    go : (c : Call T) → length (packet (w ∷ s)) ≡ size w → size w ≤ length (w ∷ s) → Inside (w ∷ s) c
    go (went a ws u) e h = (e, h)
    go (stopped a) e h = tt

-- a run after i words were read and ws were sent
abbrev on_top : {T : Type 0} → ℕ → List ℕ → Ran T → Ran T
on_top i ws r = record { answer = r.answer; read = i + r.read; sends = ws ++ r.sends; left = r.left }

module _
    {T : Type 0}
    (step : T → List ℕ → Call T)
    (near : (t : T) (w : ℕ) (s : List ℕ) → step t (take (size w) (w ∷ s)) ≡ step t (w ∷ s))
    (inside : (t : T) (w : ℕ) (s : List ℕ) → Inside (w ∷ s) (step t (w ∷ s)))
    (t₀ : T)
    (a out₀ : List ℕ)
  where
    -- the loop's invariant: what was done, and then the run from here, is the whole run
    pub record Runs (t : T) (out : List ℕ) (i n : ℕ) : Type 0 where
      pub read : i ≤ length a
      pub wrote : n ≤ length out
      pub long : length out ≡ length out₀
      pub rest : drop n out ≡ drop n out₀
      pub runs : run (within step) (length out₀, t₀) (cut a)
          ≡ on_top i (take n out) (run (within step) (length out - n, t) (cut (drop i a)))

    pub start : Runs t₀ out₀ 0 0
    start =
        record {
          read = omega arith;
          wrote = omega arith;
          long = refl;
          rest = refl;
          runs = rw (sub-zero (length out₀), zero-add (run (within step) (length out₀, t₀) (cut a)).read);
        }

    -- the run from here, at its first packet
    at-packet : (t : T) (i room : ℕ) → i < length a
        → run (within step) (room, t) (cut (drop i a))
        ≡ then_run (take (size (get_or a i 0)) (drop i a)) (room, t) (fit room (step t (drop i a)))
        (λ s. run (within step) s (cut (drop (i + size (get_or a i 0)) a)))
    unfolding run within
    at-packet t i room h =
        let e : step t (take (size (get_or a i 0)) (drop i a)) ≡ step t (drop i a) =
        rw (drop-cons a i 0 h, near t (get_or a i 0) (drop (suc i) a)) in
        ap (run (within step) (room, t)) (cut_at a i h) ∙ rw e

    end : (t : T) (out : List ℕ) (i n A : ℕ)
        → run (within step) (length out₀, t₀) (cut a)
        ≡ record { answer = A; read = i; sends = take n out; left = (length out - n, t) }
        → Runs t out i n → DidRun (run (within step) (length out₀, t₀) (cut a)) out₀ A i n t out
    end t out i n A e r =
        rw e
        (record {
          answers = refl;
          reads = refl;
          writes = sym (length-take-le n out r.wrote);
          leaves = refl;
          holds = sym (take-append-drop n out) ∙ rw (length-take-le n out r.wrote, r.rest);
        })

    -- after a call: it read words, and the invariant holds again; or it read none, and the run is over
    abbrev pub Then : T → List ℕ → ℕ → ℕ → ℕ → ℕ → ℕ → T → List ℕ → Type 0
    Then t out i n A k m t' out' =
        ((k ≡ 0 → ⊥) → Runs t' out' (i + k) (n + m) × (1 ≤ k))
        × (k ≡ 0 → DidRun (run (within step) (length out₀, t₀) (cut a)) out₀ A i n t' out' × (m ≡ 0))

    pub turn : (t : T) (out : List ℕ) (i n A k m : ℕ) (t' : T) (out' : List ℕ) → Runs t out i n → i < length a
        → Did (within step (length out - n, t) (drop i a)) (length out - n) (packet (drop i a)) n t out A k m t' out'
        → Then t out i n A k m t' out'
    unfolding within
    turn t out i n A k m t' out' r h =
        go (step t (drop i a)) (at-packet t i (length out - n) h)
        (subst (λ (l : List ℕ). Inside l (step t l)) (sym (drop-cons a i 0 h)) (inside t (get_or a i 0) (drop (suc i) a)))
      where
        sz : ℕ
        sz = size (get_or a i 0)

        free : ℕ
        free = length out - n

        p : List ℕ
        p = packet (drop i a)

        tail : ℕ × T → Ran (ℕ × T)
        tail s = run (within step) s (cut (drop (i + sz) a))

        From : Call (ℕ × T) → Type 0
        From c = run (within step) (free, t) (cut (drop i a)) ≡ then_run (take sz (drop i a)) (free, t) c tail

        stop : (x : ℕ) → From (stopped x) → Did (stopped x) free p n t out A k m t' out' → Then t out i n A k m t' out'
        stop x e d =
            let same : out' ≡ out = d.holds ∙ written_none n out in
            let y : run (within step) (length out₀, t₀) (cut a)
            ≡ record { answer = A; read = i; sends = take n out; left = (free, t) } =
            r.runs ∙ rw (e, add-zero i, append-nil (take n out), d.answers) in
            (λ z. absurd (z d.reads), λ _. (rw (same, d.leaves) (end t out i n A y r), d.writes))

        go : (c : Call T) → From (fit free c) → Inside (drop i a) c → Did (fit free c) free p n t out A k m t' out'
            → Then t out i n A k m t' out'
        go (stopped x) e f d = stop x e d
        go (went x w u) e f d = deep (leb (length w) free) refl e d
          where
            deep : (b : Bool) → leb (length w) free ≡ b → From (cond b (went x w (free - length w, u)) (stopped no_room))
                → Did (cond b (went x w (free - length w, u)) (stopped no_room)) free p n t out A k m t' out'
                → Then t out i n A k m t' out'
            deep false b e d = stop no_room e d
            deep true b e d =
                let room : length w ≤ free = leb-true (length w) free b in
                let m= : m ≡ length w = d.writes in
                let here : first (drop i a) ≡ get_or a i 0 = rw (drop-cons a i 0 h) in
                let k= : k ≡ sz = d.reads ∙ f.0 ∙ rw here in
                let fits : sz ≤ length (drop i a) = rw here at f.1 in
                let big = size-range (get_or a i 0) in
                let piece : length (take sz (drop i a)) ≡ sz = length-take-le sz (drop i a) fits in
                let front : length (take n out ++ w) ≡ n + m = length-append (take n out) w
                ∙ omega (arith, length-take-le n out r.wrote) in
                let split : out' ≡ (take n out ++ w) ++ drop (n + m) out = d.holds ∙ rw m= in
                let long : length out' ≡ length out =
                ap length split ∙ omega (
                  arith,
                  length-append (take n out ++ w) (drop (n + m) out),
                  length-drop (n + m) out,
                ) in
                let took : take (n + m) out' ≡ take n out ++ w =
                rw split (take_at (take n out ++ w) (drop (n + m) out) (n + m) front) in
                let left : drop (n + m) out' ≡ drop (n + m) out =
                rw split (drop_at (take n out ++ w) (drop (n + m) out) (n + m) front) in
                let less : length out' - (n + m) ≡ free - length w = omega arith in
                let q = tail (free - length w, u) in (
                  λ z. (
                    record {
                      read = omega (arith, length-drop i a);
                      wrote = omega arith;
                      long = long ∙ r.long;
                      rest = left ∙ sym (drop-drop m n out) ∙ ap (drop m) r.rest ∙ drop-drop m n out₀;
                      runs = r.runs
                          ∙ rw (
                            e,
                            piece,
                            k=,
                            took,
                            less,
                            d.leaves,
                            add_assoc i sz q.read,
                            append_assoc (take n out) w q.sends,
                          );
                    },
                    omega arith,
                  ),
                  λ z. absurd (omega arith),
                )

    pub finish : (t : T) (out : List ℕ) (i n : ℕ) → Runs t out i n → length a ≤ i
        → DidRun (run (within step) (length out₀, t₀) (cut a)) out₀ sent i n t out
    unfolding run
    finish t out i n r h = end t out i n sent (r.runs ∙ rw (cut-end a i h, add-zero i, append-nil (take n out))) r

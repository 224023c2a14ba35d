-- One packet of a run, and one call: what they tell of a packet's bytes is what its call reports, with room and
-- without. Assumes nothing.
use Prim.Native.Nat.{ℕ, suc, ◌+◌, ◌-◌, ◌≤◌, ◌<◌}
use mathlib.Core.Path.{◌≡◌, refl, sym, ap, ◌∙◌}
use mathlib.Core.Bool.{Bool, true, false, cond, ◌&&◌}
use mathlib.Core.List.{List, [], ◌∷◌}
use native.Mathlib.Omega.{arith}
use native.Mathlib.Nat.{add-zero, sub-zero, zero-add}
use lib.Dec.{eqb, leb, leb-zero}
use lib.ListN.{drop, get_or, length}
use borrow.Author.Tests.{eqb-false, eqb-true, le-leb, leb-true, lt-leb, ne_eqb}
use Rattle.ground.specs.Store.{written}
use Rattle.ground.proofs.Bools.{and_left, and_right}
use Rattle.ground.proofs.Cases.{by_bool}
use Rattle.ground.proofs.StoreLaws.{written_none}
use Rattle.ump.specs.Packet.{cut, first, packet, second, size}
use Rattle.ump.specs.Word.{group_of, message_type}
use Rattle.ump.proofs.PacketLaws.{one_word, packet-short, size-range, two-words, whole_words}
use Rattle.fields.specs.Check.{bad_place_of, good_status}
use Rattle.stream.specs.declared.Done.{Done}
use Rattle.stream.specs.Answers.{bad_data, cut_packet, sent, taken_in}
use Rattle.stream.specs.Call.{Call, answer_of, fit, read_of, sent_of, stopped, went, within}
use Rattle.stream.specs.Report.{counting, placing, reported_call}
use Rattle.screen.specs.Screen.{reserved}
use Rattle.stream.specs.Run.{called, run}
use Rattle.stream.proofs.RunLoop.{DidRun, Then, turn}
use Rattle.cable.specs.Put.{Puts}
use Rattle.cable.specs.State.{pick}
use Rattle.std.specs.Prelude.{Option, Some, None}
use Rattle.outlet.specs.Outlet.{bytes_of, ours, packet_out, step_out}
use Rattle.outlet.specs.Sending.{call_at, clean, onward, passing, sends, told_one, told_run, unsent}
use Rattle.outlet.proofs.CallLaws.{Outs, choice, cut_out, other-out, other_answer, ours-out}
use Rattle.outlet.proofs.CallLaws.{out-inside, out-near, verdict}

-- of the types of ours the third is left
pub third : (g w : ℕ) → ours g w ≡ true → (message_type w ≡ 2 → ⊥) → (message_type w ≡ 1 → ⊥) → message_type w ≡ 3
third g w o two one =
    let t = and_left (leb 1 (message_type w) && leb (message_type w) 3) (eqb (group_of w).0 g) o in
    let low = leb-true 1 (message_type w) (and_left (leb 1 (message_type w)) (leb (message_type w) 3) t) in
    let high = leb-true (message_type w) 3 (and_right (leb 1 (message_type w)) (leb (message_type w) 3) t) in
    omega (arith, low, high, one, two)

-- what became of a packet that goes, in a run
module _ (read to n a : ℕ) (p bs out after : List ℕ) (many : length p ≡ n) where
  abbrev c : Call (ℕ × Unit {0})
  c = fit (length out - to) (went a bs tt)

  pub passes : (s : Option ℕ) → Puts bs to out s after
      → (told_run s n read to ≡ onward read to p c) × (after ≡ written to (sent_of c) out)
  passes None q =
      let t = lt-leb (length bs) (length out - to) q.0 in
      (rw (t, add-zero read, add-zero to), rw t (q.1 ∙ sym (written_none to out)))
  passes (Some end) q =
      let t = le-leb (length bs) (length out - to) (omega (arith, q.0)) in
      (rw (t, q.1, many), rw t q.2)

-- a packet of ours, one that is not, and none
module _ (g read to : ℕ) (p out : List ℕ) where
  abbrev made : Call (ℕ × Unit {0})
  made = fit (length out - to) (packet_out g p)

  abbrev Told : Done → List ℕ → Type 0
  Told r after = (r ≡ onward read to p made) × (after ≡ written to (sent_of made) out)

  pub passes-ours : (n : ℕ) (s : Option ℕ) (after : List ℕ) → length p ≡ n → (n ≡ 0 → ⊥) → ours g (first p) ≡ true
      → Puts (sends (first p) (second p)) to out s after → Told (told_run s n read to) after
  passes-ours n s after many some o q =
      rw (ours-out g p (λ z. some (sym many ∙ z)) o)
      (passes read to n (verdict (first p) (second p)) p (sends (first p) (second p)) out after many s q)

  pub passes-other : (n : ℕ) → length p ≡ n → (n ≡ 0 → ⊥) → ours g (first p) ≡ false
      → Told (counting sent (read + n) to) out
  passes-other n many some o =
      rw (other-out g p (λ z. some (sym many ∙ z)) o, leb-zero (length out - to))
      (rw (many, add-zero to), sym (written_none to out))

  pub stops-cut : p ≡ [] → Told (counting cut_packet read to) out
  stops-cut e = (
    rw (cut_out g p (ap length e), add-zero read, add-zero to),
    rw (cut_out g p (ap length e)) (sym (written_none to out)),
  )

-- the packet at a place, in a run
module _ (g read to : ℕ) (ws out : List ℕ) (here : read < length ws) where
  abbrev at : ℕ
  at = get_or ws read 0

  abbrev Next : Done → List ℕ → Type 0
  Next r after = Told g read to (packet (drop read ws)) out r after

  pub next_one : size at ≡ 1 → ours g at ≡ true → (s : Option ℕ) (after : List ℕ) → Puts (sends at 0) to out s after
      → Next (told_run s 1 read to) after
  next_one e o s after q =
      rw (one_word ws read here e) (passes-ours g read to (at ∷ []) out 1 s after refl (λ z. omega (arith, z)) o q)

  pub next-two : size at ≡ 2 → 2 ≤ length ws - read → ours g at ≡ true → (s : Option ℕ) (after : List ℕ)
      → Puts (sends at (get_or ws (read + 1) 0)) to out s after → Next (told_run s 2 read to) after
  next-two e h o s after q =
      rw (two-words ws read here e h)
      (passes-ours g read to (at ∷ get_or ws (read + 1) 0 ∷ []) out 2 s after refl (λ z. omega (arith, z)) o q)

  pub next-other : size at ≤ length ws - read → ours g at ≡ false → Next (counting sent (read + size at) to) out
  next-other h o =
      let p = whole_words ws read here h in
      passes-other g read to (packet (drop read ws)) out (size at) p.1 (λ z. omega (arith, z, (size-range at).0))
      (rw p.0 o)

  pub next-cut : length ws - read < size at → Next (counting cut_packet read to) out
  next-cut h = stops-cut g read to (packet (drop read ws)) out (packet-short ws read here h)

-- what became of a packet, told by a call alone
module _ (g : ℕ) (p out : List ℕ) where
  abbrev lone : Call (ℕ × Unit {0})
  lone = fit (length out) (packet_out g p)

  abbrev Alone : Done → List ℕ → Type 0
  Alone r after = (r ≡ reported_call p (called p (length out, tt) lone)) × (after ≡ written 0 (sent_of lone) out)

  pub alone-ours : (n : ℕ) (s : Option ℕ) (after : List ℕ) → length p ≡ n → (n ≡ 0 → ⊥) → ours g (first p) ≡ true
      → Puts (sends (first p) (second p)) 0 out s after → Alone (told_one (first p) (second p) s n) after
  unfolding told_one sends clean pick
  alone-ours n s after many some o q =
      let held = (passes 0 0 n (verdict (first p) (second p)) p (sends (first p) (second p)) out after many s q).1 in
      rw (ours-out g p (λ z. some (sym many ∙ z)) o) (tells s q, rw (sub-zero (length out)) at held)
    where
      go : (s b : Bool) (k : ℕ) (bs : List ℕ)
          → cond (eqb (length (pick (s && b) bs [])) 0) (unsent (choice s b k taken_in) n)
          (counting sent n (length (pick (s && b) bs [])))
          ≡ placing (choice s b k (cond (eqb (length bs) 0) taken_in sent)).answer
          (cond (eqb (choice s b k (cond (eqb (length bs) 0) taken_in sent)).answer bad_data) k 0) n
          (length (pick (s && b) bs []))
      go false b k bs = refl
      go true false k bs = refl
      go true true k [] = refl
      go true true k (x ∷ bs) = rw (ne_eqb (suc (length bs)) 0 (λ e. omega (arith, e)))

      tells : (s : Option ℕ) → Puts (sends (first p) (second p)) 0 out s after
          → told_one (first p) (second p) s n
          ≡ reported_call p (called p (length out, tt {0})
          (fit (length out) (went (verdict (first p) (second p)) (sends (first p) (second p)) (tt {0}))))
      tells None q = rw (lt-leb (length (sends (first p) (second p))) (length out) (omega (arith, q.0)))
      tells (Some end) q =
          rw (
            le-leb (length (sends (first p) (second p))) (length out) (omega (arith, q.0)),
            q.1,
            zero-add (length (sends (first p) (second p))),
            many,
          )
          (go (good_status (first p)) (eqb (bad_place_of p) 0) (bad_place_of p) (bytes_of (first p) (second p)))

  pub alone-other : (w n : ℕ) → first p ≡ w → length p ≡ n → (n ≡ 0 → ⊥) → ours g w ≡ false
      → Alone (counting (other_answer w) n 0) out
  alone-other w n here many some o =
      rw (other-out g p (λ z. some (sym many ∙ z)) (rw here o), leb-zero (length out), here, many)
      (by_bool (reserved (message_type w)) (λ r. rw r) (λ r. rw r), sym (written_none 0 out))

  pub alone-cut : p ≡ [] → Alone (counting cut_packet 0 0) out
  alone-cut e = rw (cut_out g p (ap length e)) (refl, sym (written_none 0 out))

-- the packet at the start of the words
module _ (g : ℕ) (ws out : List ℕ) (here : 0 < length ws) where
  abbrev at0 : ℕ
  at0 = get_or ws 0 0

  abbrev First : Done → List ℕ → Type 0
  First r after = Alone g (packet ws) out r after

  pub first_one : size at0 ≡ 1 → ours g at0 ≡ true → (s : Option ℕ) (after : List ℕ) → Puts (sends at0 0) 0 out s after
      → First (told_one at0 0 s 1) after
  first_one e o s after q =
      rw (one_word ws 0 here e) (alone-ours g (at0 ∷ []) out 1 s after refl (λ z. omega (arith, z)) o q)

  pub first_two : size at0 ≡ 2 → 2 ≤ length ws → ours g at0 ≡ true → (s : Option ℕ) (after : List ℕ)
      → Puts (sends at0 (get_or ws 1 0)) 0 out s after → First (told_one at0 (get_or ws 1 0) s 2) after
  first_two e h o s after q =
      rw (two-words ws 0 here e (omega (arith, h)))
      (alone-ours g (at0 ∷ get_or ws 1 0 ∷ []) out 2 s after refl (λ z. omega (arith, z)) o q)

  pub first-other : size at0 ≤ length ws → ours g at0 ≡ false → First (counting (other_answer at0) (size at0) 0) out
  first-other h o =
      let p = whole_words ws 0 here (omega (arith, h)) in
      alone-other g (packet ws) out at0 (size at0) p.0 p.1 (λ z. omega (arith, z, (size-range at0).0)) o

  pub first-cut : length ws < size at0 → First (counting cut_packet 0 0) out
  first-cut h = alone-cut g (packet ws) out (packet-short ws 0 here (omega (arith, h)))

-- a call that does not go on has read nothing, and has the answer that stops the run
halted : {T : Type 0} (c : Call T) (p : List ℕ) → (passing c ≡ sent → ⊥) → (read_of p c ≡ 0) × (answer_of c ≡ passing c)
halted (went a ws u) p n = absurd (n refl)
halted (stopped a) p n = (refl, refl)

-- and one that goes on has read its packet, which is none of no words
module _ (g room : ℕ) (p : List ℕ) where
  went_on : (a : ℕ) (bs : List ℕ) → packet_out g p ≡ went a bs tt → passing (fit room (packet_out g p)) ≡ sent
      → read_of p (fit room (packet_out g p)) ≡ length p
  went_on a bs e = rw e
      (by_bool (leb (length bs) room) (λ t. rw t (λ _. refl)) (λ t. rw t (λ z. absurd (omega (arith, z)))))

  reads_on : passing (fit room (packet_out g p)) ≡ sent → read_of p (fit room (packet_out g p)) ≡ 0 → ⊥
  reads_on z k =
      by_bool (eqb (length p) 0)
      (λ t. omega (arith, rw (cut_out g p (eqb-true (length p) 0 t)) at z))
      (λ t.
      let some = eqb-false (length p) 0 t in
      some (sym (by_bool (ours g (first p)) (λ o. went_on _ _ (ours-out g p some o) z)
      (λ o. went_on _ _ (other-out g p some o) z)) ∙ k))

-- one more packet of a run
module _
    (g : ℕ) (ws out₀ out : List ℕ) (i n : ℕ) (inv : Outs g ws out₀ out i n) (h : i < length ws) (r : Done)
    (after : List ℕ) (e : r ≡ onward i n (packet (drop i ws)) (call_at g ws i n out))
    (f : after ≡ written n (sent_of (call_at g ws i n out)) out)
  where
    abbrev p : List ℕ
    p = packet (drop i ws)

    abbrev now-made : Call (ℕ × Unit {0})
    now-made = call_at g ws i n out

    answer-is : r.answer ≡ passing now-made
    answer-is = ap (λ (x : Done). x.answer) e

    turned : Then (step_out g) (out-near g) (out-inside g) tt ws out₀ tt out i n (answer_of now-made) (read_of p now-made)
        (length (sent_of now-made)) tt after
    turned =
        turn (step_out g) (out-near g) (out-inside g) tt ws out₀ tt out i n (answer_of now-made) (read_of p now-made)
        (length (sent_of now-made)) tt after inv h
        (record { answers = refl; reads = refl; writes = refl; leaves = refl; holds = f })

    pub goes_on_lem : r.answer ≡ sent → Outs g ws out₀ after r.read r.written × (i < r.read)
    unfolding within step_out
    goes_on_lem z =
        let t = turned.0 (reads_on g (length out - n) p (sym answer-is ∙ z)) in
        let er = ap (λ (x : Done). x.read) e in
        let ew = ap (λ (x : Done). x.written) e in
        (rw (er, ew) t.0, omega (arith, er, t.1))

    pub halts : (r.answer ≡ sent → ⊥)
        → DidRun (run (within (step_out g)) (length out₀, tt) (cut ws)) out₀ r.answer i n tt after
    halts z =
        let k = halted now-made p (λ y. z (answer-is ∙ y)) in
        rw (answer-is, ← k.1) (turned.1 k.0).0

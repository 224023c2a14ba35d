-- A stream and the same written out in full, call by call: the states differ in the running status of an open voice
-- message alone. Assumes nothing.
use Prim.Native.Nat.{ℕ, ◌-◌, ◌≤◌, ◌<◌}
use mathlib.Core.Path.{◌≡◌, refl, sym, ◌∙◌}
use mathlib.Core.Bool.{true, false, ◌||◌}
use mathlib.Core.Logic.{◌⊎◌, inl, inr, ⊎_elim}
use mathlib.Core.List.{List, [], ◌∷◌}
use native.Mathlib.Omega.{arith}
use lib.Dec.{eqb, leb, ltb}
use lib.ListN.{drop}
use borrow.Author.Tests.{eq-eqb, eqb-false, eqb-true, le-ltb, leb-false, leb-true, lt-leb, lt-ltb, ltb-true, ne_eqb}
use Rattle.ground.proofs.Bools.{and_left, and_right}
use Rattle.ground.proofs.Cases.{by_bool}
use Rattle.stream.specs.Answers.{cut_off, dropped}
use Rattle.cable.specs.declared.Cable.{Cable}
use Rattle.cable.specs.State.{exclusive, holding, idle, message_word, need, packet_of, pick, voice_byte}
use Rattle.cable.specs.Hearing.{Call, byte_in, data_in, drops, end_in, exclusive_in, first_in, last_form, message_in}
use Rattle.cable.specs.Hearing.{real_time_in}
use Rattle.cable.specs.Hearing.{runs_on, sending, serving, short_in, status_in, takes, unread}
use Rattle.cable.proofs.Ways.{either, told}
use Rattle.inlet.specs.Inlet.{calls_in}
use Rattle.inlet.proofs.RunLaws.{calls-cons}
use Rattle.cable_claims.specs.Words.{all_in, whole_in}
use Rattle.cable_claims.specs.RunningStatus.{RunningStatus, in_full, noted}
use Rattle.cable_claims.proofs.Messages.{first-in, last-in, need-ways, only-in, status-in}
use Rattle.cable_claims.proofs.FullLaws.{full-first, full-more, full-none, full-real, full-system, full-voice}

-- two streams from two states come to the same
record Alike (g : ℕ) (s t : Cable) (bs cs : List ℕ) : Type 0 where
  pub notes : noted (calls_in g s bs) ≡ noted (calls_in g t cs)
  pub words : (whole_in g s bs).sends ≡ (whole_in g t cs).sends

at_call : (g : ℕ) (s : Cable) (b : ℕ) (bs : List ℕ) (c : Call) → byte_in s g b ≡ c
    → calls_in g s (b ∷ bs) ≡ record { before = s; byte = b; call = c } ∷ calls_in g c.after (drop c.read (b ∷ bs))
at_call g s b bs c e = calls-cons g s b bs ∙ rw e

-- a call at the same byte on both sides
module _
    (g : ℕ) (s t : Cable) (b : ℕ) (bs cs : List ℕ) (c d : Call) (e : byte_in s g b ≡ c) (f : byte_in t g b ≡ d)
    (r : c.read ≡ d.read) (a : c.answer ≡ d.answer) (w : c.sends ≡ d.sends)
  where
    alike-step : Alike g c.after d.after (drop d.read (b ∷ bs)) (drop d.read (b ∷ cs))
        → Alike g s t (b ∷ bs) (b ∷ cs)
    unfolding noted all_in
    alike-step x =
        record {
          notes = rw (at_call g s b bs c e, at_call g t b cs d f, r, a, w, x.notes);
          words = rw (at_call g s b bs c e, at_call g t b cs d f, r, w, x.words);
        }

-- a status byte that is written out is taken in
alike-full : (g : ℕ) (s t u : Cable) (r : ℕ) (bs cs : List ℕ) → byte_in t g r ≡ takes u → Alike g s u bs cs
    → Alike g s t bs (r ∷ cs)
unfolding noted all_in pick
alike-full g s t u r bs cs e x =
    record { notes = rw (at_call g t r cs (takes u) e) x.notes; words = rw (at_call g t r cs (takes u) e) x.words }

-- real time
alike-real : (g : ℕ) (s t : Cable) (b : ℕ) (bs cs : List ℕ) → leb 0xF8 b ≡ true → Alike g s t bs cs
    → Alike g s t (b ∷ bs) (b ∷ cs)
unfolding byte_in real_time_in pick
alike-real g s t b bs cs h x =
    by_bool (eqb b 0xF9 || eqb b 0xFD)
    (λ o. alike-step g s t b bs cs (drops s) (drops t) (rw (h, o)) (rw (h, o)) refl refl refl x)
    (λ o.
    alike-step g s t b bs cs (sending (message_word g b 0 0 ∷ []) s) (sending (message_word g b 0 0 ∷ []) t) (rw (h, o))
    (rw (h, o)) refl refl refl x)

-- a voice status; and a state that belongs to no voice
record Voice (r : ℕ) : Type 0 where
  pub low : 0x80 ≤ r
  pub high : r < 0xF0

record Other (s : Cable) : Type 0 where
  pub running : s.running ≡ 0
  pub status : (s.status ≡ 0) ⊎ (0xF0 ≤ s.status)

other-idle : Other (idle 0)
other-idle = record { running = refl; status = inl refl }

-- what holds of all the bytes that are left
record Later (g : ℕ) (bs : List ℕ) : Type 0 where
  pub between : (r : ℕ) → Voice r → Alike g (idle r) (idle r) bs (in_full r 0 bs)
  pub opened : (r p q : ℕ) → Voice r → Alike g (holding p r 0 []) (holding q r 0 []) bs (in_full r (need r) bs)
  pub waiting : (r p q x : ℕ) → Voice r → x ≤ 127
      → Alike g (holding p r 0 (x ∷ [])) (holding q r 0 (x ∷ [])) bs (in_full r 1 bs)
  pub other : (s : Cable) → Other s → Alike g s s bs (in_full 0 0 bs)

module _ (g b : ℕ) (bs : List ℕ) (l : Later g bs) where
  -- a status byte where nothing is open
  module _ (s t : Cable) (es : s.status ≡ 0) (et : t.status ≡ 0) where
    at-status : (u : Cable) → u.status ≡ 0 → 0x80 ≤ b → b < 0xF8 → byte_in u g b ≡ status_in g b
    unfolding byte_in pick
    at-status u e lo hi = rw (lt-leb 0xF8 b hi, le-ltb b 0x80 lo, e)

    begun : (c : Call) → 0x80 ≤ b → b < 0xF8 → status_in g b ≡ c → c.read ≡ 1 → (cs : List ℕ)
        → Alike g c.after c.after bs cs → Alike g s t (b ∷ bs) (b ∷ cs)
    begun c lo hi e r cs x =
        alike-step g s t b bs cs c c (at-status s es lo hi ∙ e) (at-status t et lo hi ∙ e) refl refl refl (rw r x)

    status-voice : Voice b → Alike g s t (b ∷ bs) (b ∷ in_full b (need b) bs)
    status-voice v =
        let lo = v.low in
        let hi = v.high in
        begun (takes (holding 0 b 0 [])) lo (omega arith)
        (sym (at-status (idle 0) refl lo (omega arith)) ∙ status-in g b lo hi 0) refl _ (l.opened b 0 0 v)

    status-system : 0xF0 ≤ b → b < 0xF8 → Alike g s t (b ∷ bs) (b ∷ in_full 0 0 bs)
    unfolding status_in pick
    status-system lo hi =
        let low : 0x80 ≤ b = omega arith in
        by_bool (eqb b 0xF0)
        (λ e. begun (takes (exclusive 0 [])) low hi (rw e) refl _
        (l.other (exclusive 0 []) (record { running = refl; status = inr (omega arith) })))
        (λ e. by_bool (eqb b 0xF6)
        (λ f. begun (sending (message_word g b 0 0 ∷ []) (idle 0)) low hi (rw (e, f)) refl _
        (l.other (idle 0) other-idle))
        (λ f. by_bool (leb 0xF4 b)
        (λ h. begun (drops (idle 0)) low hi (rw (e, f, h)) refl _ (l.other (idle 0) other-idle))
        (λ h. begun (takes (holding 0 b 0 [])) low hi (rw (e, f, h)) refl _
        (l.other (holding 0 b 0 []) (record { running = refl; status = inr lo })))))

  -- where a voice message is open it is dropped first
  module _ (r p q : ℕ) (v : Voice r) (hs cs : List ℕ) (lo : 0x80 ≤ b) (hi : b < 0xF8) where
    short-in : (p : ℕ) → byte_in (holding p r 0 hs) g b ≡ unread dropped [] (idle p)
    unfolding byte_in pick
    short-in p =
        let a = v.low in
        let z = v.high in
        rw (
          lt-leb 0xF8 b hi,
          le-ltb b 0x80 lo,
          ne_eqb r 0 (λ e. omega arith),
          ne_eqb r 0xF0 (λ e. omega arith),
        )

    dropping : Alike g (idle p) (idle q) (b ∷ bs) (b ∷ cs)
        → Alike g (holding p r 0 hs) (holding q r 0 hs) (b ∷ bs) (b ∷ cs)
    dropping x = alike-step g _ _ b bs cs _ _ (short-in p) (short-in q) refl refl refl x

  -- a state that belongs to no voice, on both sides
  module _ (s : Cable) (o : Other s) where
    -- a status byte: the end of an exclusive, or what is open ends first
    ends : (cs : List ℕ) → 0x80 ≤ b → b < 0xF8 → (b ≡ 0xF7 → Alike g (idle 0) (idle 0) bs cs)
        → ((u : Cable) → u.status ≡ 0 → Alike g u u (b ∷ bs) (b ∷ cs)) → Alike g s s (b ∷ bs) (b ∷ cs)
    unfolding byte_in end_in pick
    ends cs lo hi z x =
        let a = lt-leb 0xF8 b hi in
        let d = le-ltb b 0x80 lo in
        by_bool (eqb s.status 0) (λ e. x s (eqb-true s.status 0 e))
        (λ e. by_bool (eqb s.status 0xF0)
        (λ f. by_bool (eqb b 0xF7)
        (λ k.
        let c = sending (packet_of g (last_form s.begun) s) (idle 0) in
        alike-step g s s b bs cs c c (rw (a, d, e, f, k)) (rw (a, d, e, f, k)) refl refl refl (z (eqb-true b 0xF7 k)))
        (λ k.
        let c = unread cut_off (packet_of g (last_form s.begun) s) (idle 0) in
        alike-step g s s b bs cs c c (rw (a, d, e, f, k)) (rw (a, d, e, f, k)) refl refl refl (x (idle 0) refl)))
        (λ f.
        alike-step g s s b bs cs (short_in s) (short_in s) (rw (a, d, e, f)) (rw (a, d, e, f)) refl refl refl
        (x (idle s.running) refl)))

    -- a data byte leaves such a state
    record Still (c : Call) : Type 0 where
      pub reads : c.read ≡ 1
      pub after : Other c.after

    runs_on_lem : (st : ℕ) → 0xF0 ≤ st → Other (idle (runs_on st))
    runs_on_lem st h = rw (le-ltb st 0xF0 h) other-idle

    served : eqb (serving s) 0 ≡ false → 0xF0 ≤ serving s
    served z =
        ⊎_elim (λ e. absurd (eqb-false (serving s) 0 z (rw (eq-eqb s.status 0 e) o.running)))
        (λ h. rw (ne_eqb s.status 0 (λ e. omega arith)) h) o.status

    stays : Still (data_in s g b)
    unfolding data_in exclusive_in message_in first_in
    stays =
        told Still _
        (λ e.
        let f = eqb-true s.status 0xF0 e in
        either Still _
        (record { reads = refl; after = record { running = o.running; status = inr (omega (arith, f)) } })
        (record { reads = refl; after = record { running = refl; status = inr (omega arith) } }))
        (λ _. told Still _ (λ _. record { reads = refl; after = o })
        (λ z.
        either Still _
        (either Still _
        (record { reads = refl; after = record { running = o.running; status = inr (served z) } })
        (record { reads = refl; after = runs_on_lem (serving s) (served z) }))
        (record { reads = refl; after = runs_on_lem (serving s) (served z) })))

    data-other : b < 0x80 → Alike g s s (b ∷ bs) (b ∷ in_full 0 0 bs)
    unfolding byte_in pick
    data-other h =
        let e : byte_in s g b ≡ data_in s g b = rw (lt-leb 0xF8 b (omega arith), lt-ltb b 0x80 h) in
        alike-step g s s b bs _ _ _ e e refl refl refl (rw stays.reads (l.other (data_in s g b).after stays.after))

  -- data bytes of a voice
  module _ (r : ℕ) (v : Voice r) (h : b < 0x80) where
    small : b ≤ 127
    small = omega arith

    first-data : (p q : ℕ) → Alike g (holding p r 0 []) (holding q r 0 []) (b ∷ bs) (b ∷ in_full r (need r - 1) bs)
    first-data p q =
        ⊎_elim
        (λ n.
        rw n
        (alike-step g _ _ b bs _ _ _ (only-in g r v.low v.high p b small n) (only-in g r v.low v.high q b small n)
        refl refl refl (l.between r v)))
        (λ n.
        rw n
        (alike-step g _ _ b bs _ _ _ (first-in g r v.low v.high p b small n)
        (first-in g r v.low v.high q b small n) refl refl refl (l.waiting r p q b v small)))
        (need-ways g r v.low v.high)

    last-data : (p q x : ℕ) → x ≤ 127
        → Alike g (holding p r 0 (x ∷ [])) (holding q r 0 (x ∷ [])) (b ∷ bs) (b ∷ in_full r 0 bs)
    last-data p q x k =
        alike-step g _ _ b bs _ _ _ (last-in g r v.low v.high p x k b small)
        (last-in g r v.low v.high q x k b small) refl refl refl (l.between r v)

    -- under running status, and with the status written out
    running-in : byte_in (idle r) g b ≡ byte_in (holding r r 0 []) g b
    unfolding byte_in data_in message_in first_in pick
    running-in =
        let a = v.low in
        let z = v.high in
        simp (
          lt-leb 0xF8 b (omega arith),
          lt-ltb b 0x80 h,
          ne_eqb r 0xF0 (λ e. omega arith),
          ne_eqb r 0 (λ e. omega arith),
        )

    running-first : Alike g (idle r) (holding 0 r 0 []) (b ∷ bs) (b ∷ in_full r (need r - 1) bs)
    running-first =
        let lo = v.low in
        let hi = v.high in
        ⊎_elim
        (λ n.
        rw n
        (alike-step g _ _ b bs _ _ _ (running-in ∙ only-in g r lo hi r b small n)
        (only-in g r lo hi 0 b small n) refl refl refl
        (l.between r v)))
        (λ n.
        rw n
        (alike-step g _ _ b bs _ _ _ (running-in ∙ first-in g r lo hi r b small n)
        (first-in g r lo hi 0 b small n) refl refl
        refl (l.waiting r r 0 b v small)))
        (need-ways g r lo hi)

    running-data : Alike g (idle r) (idle r) (b ∷ bs) (r ∷ b ∷ in_full r (need r - 1) bs)
    running-data =
        alike-full g (idle r) (idle r) (holding 0 r 0 []) r (b ∷ bs) _ (status-in g r v.low v.high r) running-first

-- with no byte left
alike-none : (g : ℕ) (s t : Cable) → Alike g s t [] []
unfolding calls_in noted all_in
alike-none g s t = record { notes = refl; words = refl }

-- a byte is of real time, a system status, a voice status, or data
classes : {X : Type 0} (b : ℕ) → (leb 0xF8 b ≡ true → X) → (0xF0 ≤ b → b < 0xF8 → X) → (Voice b → X) → (b < 0x80 → X)
    → X
classes b real system voice plain =
    by_bool (leb 0xF8 b) real
    (λ f. by_bool (leb 0xF0 b) (λ e. system (leb-true 0xF0 b e) (leb-false 0xF8 b f))
    (λ e. by_bool (leb 0x80 b) (λ d. voice (record { low = leb-true 0x80 b d; high = leb-false 0xF0 b e }))
    (λ d. plain (leb-false 0x80 b d))))

need-one : (g r : ℕ) → Voice r → 1 ≤ need r
need-one g r v = ⊎_elim (λ n. rw n (omega arith)) (λ n. rw n (omega arith)) (need-ways g r v.low v.high)

module _ (g b : ℕ) (bs : List ℕ) (l : Later g bs) where
  at-between : (r : ℕ) → Voice r → Alike g (idle r) (idle r) (b ∷ bs) (in_full r 0 (b ∷ bs))
  at-between r v =
      classes b (λ h. rw (full-real r 0 b bs h) (alike-real g _ _ b bs _ h (l.between r v)))
      (λ lo hi. rw (full-system r 0 b bs lo hi) (status-system g b bs l (idle r) (idle r) refl refl lo hi))
      (λ w. rw (full-voice r 0 b bs w.low w.high) (status-voice g b bs l (idle r) (idle r) refl refl w))
      (λ h. rw (full-first r 0 b bs h v.low refl) (running-data g b bs l r v h))

  -- with a voice message open, of which these bytes are held
  at_open : (r p q k : ℕ) (hs : List ℕ) → Voice r
      → Alike g (holding p r 0 hs) (holding q r 0 hs) bs (in_full r k bs)
      → (b < 0x80 → Alike g (holding p r 0 hs) (holding q r 0 hs) (b ∷ bs) (in_full r k (b ∷ bs)))
      → Alike g (holding p r 0 hs) (holding q r 0 hs) (b ∷ bs) (in_full r k (b ∷ bs))
  at_open r p q k hs v on plain =
      classes b (λ h. rw (full-real r k b bs h) (alike-real g _ _ b bs _ h on))
      (λ lo hi.
      rw (full-system r k b bs lo hi)
      (dropping g b bs l r p q v hs _ (omega arith) hi (status-system g b bs l (idle p) (idle q) refl refl lo hi)))
      (λ w.
      let lo = w.low in
      let hi = w.high in
      rw (full-voice r k b bs lo hi)
      (dropping g b bs l r p q v hs _ lo (omega arith) (status-voice g b bs l (idle p) (idle q) refl refl w)))
      plain

  at_other : (s : Cable) → Other s → Alike g s s (b ∷ bs) (in_full 0 0 (b ∷ bs))
  at_other s o =
      classes b (λ h. rw (full-real 0 0 b bs h) (alike-real g s s b bs _ h (l.other s o)))
      (λ lo hi.
      rw (full-system 0 0 b bs lo hi)
      (ends g b bs l s o _ (omega arith) hi (λ _. l.other (idle 0) other-idle)
      (λ u e. status-system g b bs l u u e e lo hi)))
      (λ w.
      let lo = w.low in
      let hi = w.high in
      rw (full-voice 0 0 b bs lo hi)
      (ends g b bs l s o _ lo (omega arith) (λ z. absurd (omega arith)) (λ u e. status-voice g b bs l u u e e w)))
      (λ h. rw (full-none 0 0 b bs h refl) (data-other g b bs l s o h))

  more : Later g (b ∷ bs)
  more =
      record {
        between = λ r v. at-between r v;
        opened = λ r p q v. at_open r p q (need r) [] v (l.opened r p q v)
            (λ h. rw (full-more r (need r) b bs h v.low (need-one g r v)) (first-data g b bs l r v h p q));
        waiting = λ r p q x v k. at_open r p q 1 (x ∷ []) v (l.waiting r p q x v k)
            (λ h. rw (full-more r 1 b bs h v.low (omega arith)) (last-data g b bs l r v h p q x k));
        other = λ s o. at_other s o;
      }

later : (g : ℕ) (bs : List ℕ) → Later g bs
unfolding in_full
later g [] =
    record {
      between = λ r v. alike-none g (idle r) (idle r);
      opened = λ r p q v. alike-none g (holding p r 0 []) (holding q r 0 []);
      waiting = λ r p q x v k. alike-none g (holding p r 0 (x ∷ [])) (holding q r 0 (x ∷ []));
      other = λ s o. alike-none g s s;
    }
later g (b ∷ bs) = more g b bs (later g bs)

-- from any running status
alike : (g r : ℕ) (bs : List ℕ) → (eqb r 0 || voice_byte r) ≡ true → Alike g (idle r) (idle r) bs (in_full r 0 bs)
alike g r bs h =
    by_bool (eqb r 0) (λ e. rw (eqb-true r 0 e) ((later g bs).other (idle 0) other-idle))
    (λ e.
    let v : voice_byte r ≡ true = rw e at h in
    let lo = leb-true 0x80 r (and_left (leb 0x80 r) (ltb r 0xF0) v) in
    let hi = ltb-true r 0xF0 (and_right (leb 0x80 r) (ltb r 0xF0) v) in
    (later g bs).between r (record { low = lo; high = hi }))

pub proved-running : RunningStatus
proved-running = record { notes = λ g r bs h. (alike g r bs h).notes; words = λ g r bs h. (alike g r bs h).words }

-- Every call leaves a sound cable sound: way by way. Assumes nothing.
use Prim.Native.Nat.{ℕ, zero, suc, ◌+◌, ◌-◌, ◌≤◌, ◌<◌}
use mathlib.Core.Path.{◌≡◌, refl, sym}
use mathlib.Core.Bool.{Bool, true, false, ◌&&◌, ◌||◌}
use mathlib.Core.Logic.{◌⊎◌, inl, inr, ⊎_elim}
use mathlib.Core.List.{List, [], ◌∷◌}
use native.Mathlib.Omega.{arith}
use lib.Dec.{eqb, leb, ltb}
use lib.ListN.{get_or, length, set}
use lib.Seq.{get_or-set_other}
use borrow.Author.Tests.{eq-eqb, eqb-false, eqb-true, le-leb, le-ltb, leb-false, leb-true, lt-ltb, ltb-false, ltb-true}
use borrow.Author.Tests.{ne_eqb}
use Rattle.ground.proofs.Bools.{and_left, and_right}
use Rattle.ground.proofs.Cases.{by_bool}
use Rattle.stream.specs.Run.{Ran}
use Rattle.cable.specs.declared.Cable.{Cable}
use Rattle.cable.specs.State.{exclusive, holding, idle, need, pushed, slot, slot_at, sound, sound_held, sound_open}
use Rattle.cable.specs.State.{sound_running, voice_byte}
use Rattle.cable.specs.Hearing.{Call, byte_in, data_in, end_in, exclusive_in, first_in, message_in, real_time_in}
use Rattle.cable.specs.Hearing.{runs_on, serving}
use Rattle.cable.specs.Hearing.{status_in}
use Rattle.cable.proofs.Ways.{either, told}
use Rattle.inlet.specs.Inlet.{Made, call_in, calls_in, fit_in, made, next_in, one_in, ran_in, run_in}
use Rattle.cable_claims.specs.StaysSound.{StaysSound}

or-ways : (a b : Bool) → (a || b) ≡ true → (a ≡ true) ⊎ (b ≡ true)
or-ways true b h = inl refl
or-ways false b h = inr h

-- What is open in a sound cable.
record Waits (s : Cable) : Type 0 where
  pub low : 0x80 ≤ s.status
  pub high : s.status < 0xF4
  pub few : s.count < need s.status
  pub serves : (eqb s.running 0 || eqb s.running s.status) ≡ true

record Excludes (s : Cable) : Type 0 where
  pub status : s.status ≡ 0xF0
  pub running : s.running ≡ 0
  pub begun : s.begun ≤ 1
  pub some : s.begun ≤ s.count

module _ (s : Cable) (ok : sound s ≡ true) where
  runs : sound_running s ≡ true
  unfolding sound
  runs = and_left (sound_running s) (sound_open s && sound_held s) ok

  open-held : (sound_open s && sound_held s) ≡ true
  unfolding sound
  open-held = and_right (sound_running s) (sound_open s && sound_held s) ok

  holds : sound_held s ≡ true
  holds = and_right (sound_open s) (sound_held s) open-held

  -- nothing, an exclusive, or a message
  opens : (s.status ≡ 0) ⊎ (Excludes s ⊎ Waits s)
  opens =
      let held = eqb s.count 0 && eqb s.begun 0 in
      let begins = leb s.begun 1 && leb s.begun s.count in
      let six = leb s.count 6 && begins in
      let known = leb 0x80 s.status && ltb s.status 0xF4 in
      let serves = eqb s.running 0 || eqb s.running s.status in
      let unbegun = eqb s.begun 0 && serves in
      let waits = ltb s.count (need s.status) && unbegun in
      let first = eqb s.status 0 && held in
      let other = eqb s.status 0xF0 && (eqb s.running 0 && six) in
      ⊎_elim (λ h. inl (eqb-true s.status 0 (and_left (eqb s.status 0) held h)))
      (λ h. inr (⊎_elim
      (λ k.
      let a = and_right (eqb s.status 0xF0) (eqb s.running 0 && six) k in
      let b = and_right (leb s.count 6) begins (and_right (eqb s.running 0) six a) in
      inl (record {
        status = eqb-true s.status 0xF0 (and_left (eqb s.status 0xF0) (eqb s.running 0 && six) k);
        running = eqb-true s.running 0 (and_left (eqb s.running 0) six a);
        begun = leb-true s.begun 1 (and_left (leb s.begun 1) (leb s.begun s.count) b);
        some = leb-true s.begun s.count (and_right (leb s.begun 1) (leb s.begun s.count) b);
      }))
      (λ k.
      let a = and_left known waits k in
      let b = and_right known waits k in
      inr (record {
        low = leb-true 0x80 s.status (and_left (leb 0x80 s.status) (ltb s.status 0xF4) a);
        high = ltb-true s.status 0xF4 (and_right (leb 0x80 s.status) (ltb s.status 0xF4) a);
        few = ltb-true s.count (need s.status) (and_left (ltb s.count (need s.status)) unbegun b);
        serves = and_right (eqb s.begun 0) serves (and_right (ltb s.count (need s.status)) unbegun b);
      }))
      (or-ways other (known && waits) h)))
      (or-ways first (other || (known && waits)) (and_left (sound_open s) (sound_held s) open-held))

-- a sound state, of what is built
sound-idle : (r : ℕ) → (eqb r 0 || voice_byte r) ≡ true → sound (idle r) ≡ true
unfolding sound
sound-idle r h = rw h

sound-exclusive : sound (exclusive 0 []) ≡ true
unfolding sound
sound-exclusive = refl

sound-runs : (st : ℕ) → 0x80 ≤ st → sound (idle (runs_on st)) ≡ true
sound-runs st lo =
    by_bool (ltb st 0xF0)
    (λ e. rw e (sound-idle st (rw (ne_eqb st 0 (λ z. omega arith), le-leb 0x80 st lo, e))))
    (λ e. rw e (sound-idle 0 refl))

sound-first : (b : ℕ) → b < 0x80 → sound (exclusive 1 (b ∷ [])) ≡ true
unfolding sound
sound-first b h = rw (le-leb b 127 (omega arith))

sound-one : (r st b : ℕ) → (eqb r 0 || voice_byte r) ≡ true → (eqb r 0 || eqb r st) ≡ true → 0x80 ≤ st → st < 0xF4
    → need st ≡ 2 → b < 0x80 → sound (holding r st 0 (b ∷ [])) ≡ true
unfolding sound need
sound-one r st b h k lo hi n l =
    by_bool (eqb st 0xF0) (λ e. absurd (excluded (eqb-true st 0xF0 e) n))
    (λ e.
    rw (h, ne_eqb st 0 (λ z. omega arith), e, le-leb 0x80 st lo, lt-ltb st 0xF4 hi, n, k, le-leb b 127 (omega arith)))
  where
    excluded : st ≡ 0xF0 → need st ≡ 2 → ⊥
    excluded e m = omega (arith, rw e at m)

past : (b k : ℕ) → k ≤ b → (b ≡ k → ⊥) → suc k ≤ b
past b k h n = omega (arith, n)

no_less : (a b : ℕ) → a ≤ b → b < a → ⊥
no_less a b h k = omega arith

none_of_four : (b : ℕ) → 0xF0 ≤ b → b < 0xF4 → (b ≡ 0xF0 → ⊥) → (b ≡ 0xF1 → ⊥) → (b ≡ 0xF2 → ⊥) → (b ≡ 0xF3 → ⊥) → ⊥
none_of_four b lo hi n o p q =
    no_less 0xF4 b (past b 0xF3 (past b 0xF2 (past b 0xF1 (past b 0xF0 lo n) o) p) q) hi

-- every status byte below F4 but F0 has data bytes
need-some : (b : ℕ) → 0x80 ≤ b → b < 0xF4 → (b ≡ 0xF0 → ⊥) → 0 < need b
unfolding need
need-some b lo hi n =
    by_bool (eqb b 0xF2) (λ e. rw e (omega arith))
    (λ e.
    by_bool (eqb b 0xF1 || (eqb b 0xF3 || (leb 0xC0 b && ltb b 0xE0))) (λ f. rw (e, f) (omega arith))
    (λ f.
    by_bool (leb 0xF0 b)
    (λ h.
    by_bool (eqb b 0xF1) (λ x. absurd (clash (rw x at f)))
    (λ x. by_bool (eqb b 0xF3) (λ y. absurd (clash (rw (x, y) at f)))
    (λ y.
    let a = leb-true 0xF0 b h in
    let p = eqb-false b 0xF2 e in
    let q = eqb-false b 0xF1 x in
    let r = eqb-false b 0xF3 y in
    absurd (none_of_four b a hi n q p r))))
    (λ h. rw (e, f, h) (omega arith))))
  where
    clash : true ≡ false → ⊥
    clash e = let z : ◌≡◌ {A = ℕ} 0 1 = cc in omega arith

sound-open : (b : ℕ) → 0x80 ≤ b → b < 0xF4 → (b ≡ 0xF0 → ⊥) → sound (holding 0 b 0 []) ≡ true
unfolding sound
sound-open b lo hi n =
    rw (
      ne_eqb b 0 (λ z. omega arith),
      ne_eqb b 0xF0 n,
      le-leb 0x80 b lo,
      lt-ltb b 0xF4 hi,
      lt-ltb 0 (need b) (need-some b lo hi n),
    )

-- one more byte held
set-small : (l : List ℕ) (n b : ℕ) → b ≤ 127 → get_or (set l n b) n 0 ≤ 127
set-small [] n b h = omega arith
set-small (x ∷ l) zero b h = h
set-small (x ∷ l) (suc n) b h = set-small l n b h

slot-more : (l : List ℕ) (n b k : ℕ) → b ≤ 127 → slot n k (get_or l k 0) ≡ true
    → slot (n + 1) k (get_or (set l n b) k 0) ≡ true
slot-more l n b k h e =
    by_bool (eqb n k)
    (λ q.
    let z = eqb-true n k q in
    rw (← z, lt-ltb n (n + 1) (omega arith)) (le-leb (get_or (set l n b) n 0) 127 (set-small l n b h)))
    (λ q.
    let m = eqb-false n k q in
    rw (get_or-set_other l n k b 0 (λ z. m (sym z)))
    (by_bool (ltb k n)
    (λ t. let a = ltb-true k n t in rw (lt-ltb k (n + 1) (omega arith)) (rw t at e))
    (λ t.
    let a = ltb-false k n t in
    rw (le-ltb k (n + 1) (omega (arith, m))) (rw t at e))))

module _ (s : Cable) (ok : sound s ≡ true) (x : Excludes s) (b : ℕ) (few : s.count < 6) (h : b ≤ 127) where
  slots : sound_held (pushed b s) ≡ true
  slots =
      let n = s.count in
      let l = s.held in
      let e = holds s ok in
      let p = and_left (slot_at s 0 && (slot_at s 1 && slot_at s 2)) (slot_at s 3 && (slot_at s 4 && slot_at s 5)) e in
      let q = and_right (slot_at s 0 && (slot_at s 1 && slot_at s 2)) (slot_at s 3 && (slot_at s 4 && slot_at s 5)) e in
      let p' = and_right (slot_at s 0) (slot_at s 1 && slot_at s 2) p in
      let q' = and_right (slot_at s 3) (slot_at s 4 && slot_at s 5) q in
      rw (
        slot-more l n b 0 h (and_left (slot_at s 0) (slot_at s 1 && slot_at s 2) p),
        slot-more l n b 1 h (and_left (slot_at s 1) (slot_at s 2) p'),
        slot-more l n b 2 h (and_right (slot_at s 1) (slot_at s 2) p'),
        slot-more l n b 3 h (and_left (slot_at s 3) (slot_at s 4 && slot_at s 5) q),
        slot-more l n b 4 h (and_left (slot_at s 4) (slot_at s 5) q'),
        slot-more l n b 5 h (and_right (slot_at s 4) (slot_at s 5) q'),
      )

  sound-pushed : sound (pushed b s) ≡ true
  unfolding sound
  sound-pushed =
      rw (
        slots,
        x.status,
        x.running,
        le-leb (s.count + 1) 6 (omega arith),
        le-leb s.begun 1 x.begun,
        le-leb s.begun (s.count + 1) (omega (arith, x.some)),
      )

-- the status that data bytes belong to, where there is one and no exclusive is open
record Served (s : Cable) : Type 0 where
  pub low : 0x80 ≤ serving s
  pub high : serving s < 0xF4
  pub serves : (eqb s.running 0 || eqb s.running (serving s)) ≡ true

-- what is left of a call is sound
record Sound (c : Call) : Type 0 where
  pub ok : sound c.after ≡ true

module _ (s : Cable) (ok : sound s ≡ true) where
  excludes : eqb s.status 0xF0 ≡ true → Excludes s
  unfolding need
  excludes e =
      let f = eqb-true s.status 0xF0 e in
      ⊎_elim (λ z. absurd (omega (arith, f, z)))
      (⊎_elim (λ x. x) (λ (w : Waits s). let n = w.few in absurd (omega (arith, rw f at n))))
      (opens s ok)

  served : eqb s.status 0xF0 ≡ false → eqb (serving s) 0 ≡ false → Served s
  served e z =
      ⊎_elim
      (λ o.
      let f = eq-eqb s.status 0 o in
      let n : eqb s.running 0 ≡ false = rw f at z in
      let v : voice_byte s.running ≡ true = rw n at (runs s ok) in
      let a = leb-true 0x80 s.running (and_left (leb 0x80 s.running) (ltb s.running 0xF0) v) in
      let b = ltb-true s.running 0xF0 (and_right (leb 0x80 s.running) (ltb s.running 0xF0) v) in
      record {
        low = rw f a;
        high = rw f (omega (arith, b));
        serves = rw (f, n, eq-eqb s.running s.running refl);
      })
      (⊎_elim (λ (x : Excludes s). absurd (eqb-false s.status 0xF0 e x.status))
      (λ (w : Waits s).
      let lo = w.low in
      let f = ne_eqb s.status 0 (λ q. omega arith) in
      record { low = rw f lo; high = rw f w.high; serves = rw f w.serves }))
      (opens s ok)

  same : {a r : ℕ} {ws : List ℕ} → Sound (record { answer = a; read = r; sends = ws; after = s })
  same = record { ok = ok }

  data-sound : (g b : ℕ) → b < 0x80 → Sound (data_in s g b)
  unfolding data_in exclusive_in message_in first_in
  data-sound g b h =
      told Sound _
      (λ e. told Sound _
      (λ t. record { ok = sound-pushed s ok (excludes e) b (ltb-true s.count 6 t) (omega arith) })
      (λ _. record { ok = sound-first b h }))
      (λ e. told Sound _ (λ _. same)
      (λ z.
      let v = served e z in
      told Sound _
      (λ _. told Sound _
      (λ n. record {
        ok = sound-one s.running (serving s) b (runs s ok) v.serves v.low v.high
            (eqb-true (need (serving s)) 2 n) h;
      })
      (λ _. record { ok = sound-runs (serving s) v.low }))
      (λ _. record { ok = sound-runs (serving s) v.low })))

  heard-sound : (g b : ℕ) → Sound (byte_in s g b)
  unfolding byte_in real_time_in status_in end_in
  heard-sound g b =
      let fresh = sound-idle 0 refl in
      told Sound _ (λ _. either Sound _ same same)
      (λ hi. told Sound _ (λ lo. data-sound g b (ltb-true b 0x80 lo))
      (λ lo. told Sound _
      (λ _. told Sound _ (λ _. record { ok = sound-exclusive })
      (λ n. either Sound _ (record { ok = fresh })
      (told Sound _ (λ _. record { ok = fresh })
      (λ f. record { ok = sound-open b (ltb-false b 0x80 lo) (leb-false 0xF4 b f) (eqb-false b 0xF0 n) }))))
      (λ _. either Sound _ (either Sound _ (record { ok = fresh }) (record { ok = fresh }))
      (record { ok = sound-idle s.running (runs s ok) }))))

pub byte-sound : (s : Cable) (g b : ℕ) → sound s ≡ true → sound (byte_in s g b).after ≡ true
byte-sound s g b ok = (heard-sound s ok g b).ok

next-sound : (s : Cable) (g : ℕ) (bs : List ℕ) → sound s ≡ true → Sound (next_in s g bs)
unfolding next_in
next-sound s g [] ok = same s ok
next-sound s g (b ∷ bs) ok = heard-sound s ok g b

call-sound : (g room : ℕ) (s : Cable) (bs : List ℕ) → sound s ≡ true → Sound (one_in g room s bs)
unfolding one_in fit_in call_in
call-sound g room s bs ok =
    either Sound _ (either Sound _ (same s ok) (either Sound _ (next-sound s g bs ok) (same s ok))) (same s ok)

-- and so is what is left of a run
record SoundRan (r : Ran Cable) : Type 0 where
  pub ok : sound r.left ≡ true

record SoundFrom (room : ℕ) (s : Cable) (ms : List Made) : Type 0 where
  pub ran : SoundRan (ran_in room s ms)

cons-sound : (room : ℕ) (s : Cable) (m : Made) (ms : List Made) → sound s ≡ true
    → SoundFrom (room - length m.call.sends) m.call.after ms → SoundFrom room s (m ∷ ms)
unfolding ran_in
cons-sound room s m ms ok x = record { ran = either SoundRan _ (record { ok = x.ran.ok }) (record { ok = ok }) }

none-sound : (room : ℕ) (s : Cable) → sound s ≡ true → SoundFrom room s []
unfolding ran_in
none-sound room s ok = record { ran = record { ok = ok } }

ran-sound : (g : ℕ) (bs : List ℕ) (s : Cable) (room : ℕ) → sound s ≡ true → SoundFrom room s (calls_in g s bs)
unfolding calls_in
ran-sound g [] s room ok = none-sound room s ok
ran-sound g (b ∷ bs) s room ok =
    let u = (byte_in s g b).after in
    let v = (byte_in u g b).after in
    let e = byte-sound s g b ok in
    let left = room - length (byte_in s g b).sends in
    cons-sound room s (made g s b) _ ok
    (either (SoundFrom left u) (eqb (byte_in s g b).read 1) (ran-sound g bs u left e)
    (cons-sound left u (made g u b) _ e (ran-sound g bs v (left - length (byte_in u g b).sends) (byte-sound u g b e))))

run_sound : (g room : ℕ) (s : Cable) (bs : List ℕ) → sound s ≡ true → SoundRan (run_in g room s bs)
unfolding run_in
run_sound g room s bs ok =
    either SoundRan _ (record { ok = ok }) (either SoundRan _ (ran-sound g bs s room ok).ran (record { ok = ok }))

pub proved-sound : StaysSound
proved-sound =
    record {
      fresh = sound-idle 0 refl;
      calls = λ g room s bs ok. (call-sound g room s bs ok).ok;
      runs = λ g room s bs ok. (run_sound g room s bs ok).ok;
    }

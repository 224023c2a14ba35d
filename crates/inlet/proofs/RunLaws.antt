-- A call in its output, and a loop that makes call after call is the run. Assumes nothing.
use Prim.Native.Nat.{ℕ, zero, suc, ◌+◌, ◌-◌, ◌*◌, ◌≤◌, ◌<◌}
use mathlib.Core.Path.{◌≡◌, refl, sym, ap, ◌∙◌}
use mathlib.Core.Bool.{Bool, true, false, cond}
use mathlib.Core.List.{List, [], ◌∷◌, ◌++◌, append_assoc, append-nil}
use native.Mathlib.Omega.{arith}
use native.Mathlib.Nat.{add-zero, zero-add, add_assoc, sub-zero}
use lib.Dec.{eqb}
use lib.ListN.{drop, drop_of_length-le, get_or, length, length-append, length-drop, take, take-append-drop}
use lib.Seq.{drop_at, drop-cons, drop-drop, length-take-le, take_at}
use borrow.Author.Tests.{eq-eqb, le-leb, lt-leb, ne_eqb}
use Rattle.std.specs.Prelude.{Some, None}
use Rattle.ground.specs.Store.{at_start, written}
use Rattle.ground.proofs.StoreLaws.{start-written}
use Rattle.stream.specs.Answers.{no_room, sent}
use Rattle.stream.specs.Run.{Ran}
use Rattle.cable.specs.declared.Cable.{Cable}
use Rattle.cable.specs.State.{pick}
use Rattle.cable.specs.Put.{Puts}
use Rattle.cable.specs.Hearing.{Call, byte_in, unread}
use Rattle.cable.proofs.Ways.{Next, next-in}
use Rattle.inlet.specs.declared.Imported.{Imported}
use Rattle.inlet.specs.Inlet.{calls_in, fit_in, made, next_in, ran_in, reported, took}
use Rattle.inlet.proofs.CallLaws.{first-left}

-- the calls after one start at the bytes that it left
pub calls-cons : (g : ℕ) (s : Cable) (b : ℕ) (bs : List ℕ)
    → calls_in g s (b ∷ bs) ≡ made g s b ∷ calls_in g (byte_in s g b).after (drop (byte_in s g b).read (b ∷ bs))
unfolding calls_in pick
calls-cons g s b bs = go (byte_in s g b).read refl (next-in s g b)
  where
    go : (n : ℕ) → (byte_in s g b).read ≡ n → Next s g b (byte_in s g b)
        → calls_in g s (b ∷ bs) ≡ made g s b ∷ calls_in g (byte_in s g b).after (drop n (b ∷ bs))
    go zero e x = rw (e, x.next e)
    go (suc zero) e x = rw e
    go (suc (suc n)) e x = absurd (omega (arith, x.most))

-- whether something is open
abbrev pub opened : Cable → ℕ
opened s = cond (eqb s.status 0) 0 1

pub opened-most : (s : Cable) → opened s ≤ 1
opened-most s = go (eqb s.status 0)
  where
    go : (t : Bool) → cond t 0 1 ≤ 1
    go true = omega arith
    go false = omega arith

-- One more call of a loop over the bytes a, at the place i: which calls come after it, and that less is left to do.
module _ (g : ℕ) (a : List ℕ) (s : Cable) (i : ℕ) (h : i < length a) where
  abbrev heard : Call
  heard = byte_in s g (get_or a i 0)

  pub at_byte : calls_in g s (drop i a) ≡ made g s (get_or a i 0) ∷ calls_in g heard.after (drop (i + heard.read) a)
  at_byte =
      rw (
        drop-cons a i 0 h,
        calls-cons g s (get_or a i 0) (drop (suc i) a),
        ← drop-cons a i 0 h,
        drop-drop heard.read i a,
      )

  pub less : (2 * (length a - (i + heard.read)) + opened heard.after < 2 * (length a - i) + opened s)
      × (i + heard.read ≤ length a)
  less = go heard.read refl (next-in s g (get_or a i 0)) (opened-most heard.after)
    where
      go : (k : ℕ) → heard.read ≡ k → Next s g (get_or a i 0) heard → opened heard.after ≤ 1
          → (2 * (length a - (i + k)) + opened heard.after < 2 * (length a - i) + opened s) × (i + k ≤ length a)
      go zero e x o =
          rw (eq-eqb heard.after.status 0 (x.shut_after e), ne_eqb s.status 0 (x.open_before e))
          (omega arith, omega arith)
      go (suc zero) e x o = (omega arith, omega arith)
      go (suc (suc k)) e x o = absurd (omega (arith, x.most))

-- a run after i bytes were read and ws were sent
abbrev on_top : ℕ → List ℕ → Ran Cable → Ran Cable
on_top i ws r = record { answer = r.answer; read = i + r.read; sends = ws ++ r.sends; left = r.left }

module _ (g : ℕ) (s₀ : Cable) (a out₀ : List ℕ) where
  abbrev whole : Ran Cable
  whole = ran_in (length out₀) s₀ (calls_in g s₀ a)

  -- the loop's invariant: what was done, and then the run from here, is the whole run
  pub record Runs (s : Cable) (out : List ℕ) (i n : ℕ) : Type 0 where
    pub read : i ≤ length a
    pub wrote : n ≤ length out
    pub long : length out ≡ length out₀
    pub rest : drop n out ≡ drop n out₀
    pub runs : whole ≡ on_top i (take n out) (ran_in (length out - n) s (calls_in g s (drop i a)))

  pub begin : Runs s₀ out₀ 0 0
  begin =
      record {
        read = omega arith;
        wrote = omega arith;
        long = refl;
        rest = refl;
        runs = rw (sub-zero (length out₀), zero-add whole.read);
      }

  -- what is reported of the run, and what the output holds
  abbrev pub Told : Imported → List ℕ → Type 0
  Told r out = (r ≡ reported whole) × (out ≡ at_start whole.sends out₀)

  over : (s : Cable) (out : List ℕ) (i n A : ℕ)
      → whole ≡ record { answer = A; read = i; sends = take n out; left = s }
      → Runs s out i n → Told (record { answer = A; read = i; written = n; after = s }) out
  over s out i n A e r =
      let l = length-take-le n out r.wrote in
      rw e (rw l, sym (take-append-drop n out) ∙ rw (l, r.rest))

  pub end : (s : Cable) (out : List ℕ) (i n : ℕ) → Runs s out i n → length a ≤ i
      → Told (record { answer = sent; read = i; written = n; after = s }) out
  unfolding calls_in ran_in
  end s out i n r h =
      over s out i n sent (r.runs ∙ rw (drop_of_length-le a h, add-zero i, append-nil (take n out))) r

  module _ (s : Cable) (out : List ℕ) (i n : ℕ) (inv : Runs s out i n) (h : i < length a) where
    abbrev c : Call
    c = byte_in s g (get_or a i 0)

    abbrev free : ℕ
    free = length out - n

    stop : free < length c.sends → Told (record { answer = no_room; read = i; written = n; after = s }) out
    unfolding ran_in pick
    stop f =
        let t = lt-leb (length c.sends) free f in
        over s out i n no_room (inv.runs ∙ rw (at_byte g a s i h, t, add-zero i, append-nil (take n out))) inv

    goes : n + length c.sends ≤ length out → (after : List ℕ) → after ≡ written n c.sends out
        → Runs c.after after (i + c.read) (n + length c.sends)
    unfolding ran_in pick
    goes fits after f =
        let w = c.sends in
        let m = length w in
        let room : m ≤ free = omega arith in
        let t = le-leb m free room in
        let front : length (take n out ++ w) ≡ n + m =
        length-append (take n out) w ∙ omega (arith, length-take-le n out inv.wrote) in
        let split : after ≡ (take n out ++ w) ++ drop (n + m) out = f in
        let long : length after ≡ length out =
        ap length split ∙ omega (
          arith,
          length-append (take n out ++ w) (drop (n + m) out),
          length-drop (n + m) out,
        ) in
        let took : take (n + m) after ≡ take n out ++ w =
        rw split (take_at (take n out ++ w) (drop (n + m) out) (n + m) front) in
        let left : drop (n + m) after ≡ drop (n + m) out =
        rw split (drop_at (take n out ++ w) (drop (n + m) out) (n + m) front) in
        let spare : length after - (n + m) ≡ free - m = omega arith in
        let q = ran_in (free - m) c.after (calls_in g c.after (drop (i + c.read) a)) in
        record {
          read = (less g a s i h).1;
          wrote = omega arith;
          long = long ∙ inv.long;
          rest = left ∙ sym (drop-drop m n out) ∙ ap (drop m) inv.rest ∙ drop-drop m n out₀;
          runs = inv.runs
              ∙ rw (
                at_byte g a s i h,
                t,
                took,
                spare,
                add_assoc i c.read q.read,
                append_assoc (take n out) w q.sends,
              );
        }

    -- What one more call comes to: it has no room, or the invariant holds again and less is left to do.
    module _ (x : Call) (e : x ≡ c) (after : List ℕ) where
      pub stops : Puts x.sends n out None after
          → Told (record { answer = no_room; read = i; written = n; after = s }) after
      stops p = rw p.1 (stop (rw e at p.0))

      pub turn : (m : ℕ) → Puts x.sends n out (Some m) after
          → Runs x.after after (i + x.read) m
          × (2 * (length a - (i + x.read)) + opened x.after < 2 * (length a - i) + opened s)
      turn m p =
          let q : Puts c.sends n out (Some m) after = rw e at p in
          rw (e, q.1) (goes q.0 after q.2, (less g a s i h).0)

-- One call alone, at the start of its output: what it comes to where its words have no room, and where they have.
module _ (g : ℕ) (s : Cable) (bs out : List ℕ) (some : 0 < length bs) (x : Call) where
  abbrev pub single : Call
  single = fit_in (length out) s (next_in s g bs)

  abbrev pub Stored : Imported → List ℕ → Type 0
  Stored r after = (r ≡ took single) × (after ≡ at_start single.sends out)

  module _ (e : x ≡ byte_in s g (get_or bs 0 0)) (after : List ℕ) where
    next : next_in s g bs ≡ x
    next = first-left s g bs some ∙ sym e

    pub tight-one : Puts x.sends 0 out None after → Stored (took (unread no_room [] s)) after
    unfolding fit_in pick
    tight-one p =
        let t = lt-leb (length x.sends) (length out) (omega (arith, p.0)) in
        rw (next, t) (refl, p.1)

    pub roomy-one : (m : ℕ) → Puts x.sends 0 out (Some m) after
        → Stored (record { answer = x.answer; read = x.read; written = m; after = x.after }) after
    unfolding fit_in pick
    roomy-one m p =
        let t = le-leb (length x.sends) (length out) (omega (arith, p.0)) in
        rw (next, t, p.1, zero-add (length x.sends)) (refl, p.2 ∙ start-written x.sends out)

-- MT 2 packets out and in again: a word's bytes come back as the word, whatever the running status was. Assumes
-- nothing.
use mathlib.Core.Path.{◌≡◌, refl, sym, ap, ◌∙◌}
use mathlib.Core.Bool.{true, false, ◌||◌, ◌&&◌}
use mathlib.Core.Logic.{⊎_elim}
use mathlib.Core.List.{List, [], ◌∷◌, ◌++◌, map}
use Prim.Native.Nat.{ℕ, ◌-◌, ◌≤◌, ◌<◌, ◌+◌, ◌*◌, ◌/◌, ◌^◌}
use native.Mathlib.Omega.{arith}
use native.Mathlib.Nat.{mod-eq_of_lt}
use lib.Pow.{shr-shr}
use lib.Dec.{eqb, leb, ltb}
use lib.ListN.{length, length-append}
use borrow.Author.Tests.{eq-eqb, eqb-false, le-leb, leb-true, lt-leb, lt-ltb, ltb-true, ne_eqb}
use Rattle.ground.specs.Lists.{All}
use Rattle.ground.proofs.Bools.{and_left, and_right}
use Rattle.ground.proofs.Cases.{by_bool}
use Rattle.ump.specs.Word.{byte2, byte3, byte4, group_of, message_type, status}
use Rattle.ump.specs.Packet.{Whole, size}
use Rattle.fields.specs.Check.{bad_place, checked_fields, good_status, voice1_fields}
use Rattle.stream.specs.Answers.{sent}
use Rattle.stream.specs.Claims.{roomed}
use Rattle.screen.specs.Screen.{goes_on}
use Rattle.cable.specs.State.{idle, message_word, need, pick, sound}
use Rattle.inlet.specs.Inlet.{calls_in, run_in}
use Rattle.outlet.specs.Outlet.{amount, bytes_of, payload, run_out, screen_out}
use Rattle.cable_claims.specs.Words.{Fine, all_in}
use Rattle.cable_claims.specs.VoiceReturns.{Voice, VoiceReturns, cleaned}
use Rattle.cable_claims.proofs.InRuns.{Returned, heard, run-whole, whole-answer, whole-read}
use Rattle.cable_claims.proofs.OutRuns.{gives, gives_none, whole_out}
use Rattle.cable_claims.proofs.OutRuns as Out
use Rattle.cable_claims.proofs.Messages.{first-in, last-in, need-ways, only-in, status-in}

-- a word from its fields
joined : (w g : ℕ) → w < 2 ^ 32 → message_type w ≡ 2 → (group_of w).0 ≡ g
    → w ≡ 2 * 2 ^ 28 + g * 2 ^ 24 + byte2 w * 2 ^ 16 + byte3 w * 2 ^ 8 + byte4 w
joined w g h k e =
    let top : w / 2 ^ 24 ≡ 32 + g = omega (arith, shr-shr w 24 4) in
    let mid : w / 2 ^ 16 ≡ w / 2 ^ 24 * 256 + byte2 w = omega (arith, shr-shr w 16 8) in
    let low : w / 2 ^ 8 ≡ w / 2 ^ 16 * 256 + byte3 w = omega (arith, shr-shr w 8 8) in
    omega arith

-- the words of these bytes
abbrev spoken : List ℕ → List ℕ
spoken [] = []
spoken (w ∷ ws) = bytes_of w 0 ++ spoken ws

module _ (g w : ℕ) (few : g ≤ 15) (v : Voice g w) where
  low : 0x80 ≤ byte2 w
  low = omega (arith, v.low, shr-shr w 16 4)

  high : byte2 w < 0xF0
  high = omega (arith, v.high, shr-shr w 16 4)

  -- C and D are the voices with one data byte
  short : 0xC0 ≤ byte2 w → byte2 w < 0xE0 → (eqb (status w) 12 || eqb (status w) 13) ≡ true
  short lo hi =
      by_bool (eqb (status w) 12) (λ e. rw e)
      (λ e.
      let n = eqb-false (status w) 12 e in
      let a : 12 ≤ status w = omega (arith, shr-shr w 16 4) in
      let b : status w ≤ 13 = omega (arith, shr-shr w 16 4) in
      rw (e, eq-eqb (status w) 13 (omega (arith, n))))

  long : (leb 0xC0 (byte2 w) && ltb (byte2 w) 0xE0) ≡ false → need (byte2 w) ≡ 2
  unfolding need
  long t =
      rw (
        ne_eqb (byte2 w) 0xF2 (λ e. omega (arith, high)),
        ne_eqb (byte2 w) 0xF1 (λ e. omega (arith, high)),
        ne_eqb (byte2 w) 0xF3 (λ e. omega (arith, high)),
        t,
        lt-leb 0xF0 (byte2 w) high,
      )

  good-fields : bad_place (voice1_fields w) ≡ 0
  unfolding voice1_fields bad_place
  good-fields =
      let one = le-leb (byte3 w) 127 v.first in
      by_bool (leb 0xC0 (byte2 w) && ltb (byte2 w) 0xE0)
      (λ t.
      let a = leb-true 0xC0 (byte2 w) (and_left (leb 0xC0 (byte2 w)) (ltb (byte2 w) 0xE0) t) in
      let b = ltb-true (byte2 w) 0xE0 (and_right (leb 0xC0 (byte2 w)) (ltb (byte2 w) 0xE0) t) in
      rw (short a b, one))
      (λ t.
      let two = le-leb (byte4 w) 127 (v.second (long t)) in
      by_bool (eqb (status w) 12 || eqb (status w) 13) (λ u. rw (u, one)) (λ u. rw (u, one, two)))

  passes : (screen_out g (w ∷ [])).answer ≡ goes_on
  unfolding screen_out good_status checked_fields
  passes =
      rw (
        v.kind,
        v.group,
        eq-eqb g g refl,
        le-leb 8 (status w) v.low,
        le-leb (status w) 14 v.high,
        good-fields,
      )

  one_word : Whole (w ∷ [])
  unfolding Whole size
  one_word = rw v.kind

  rebuilt : w ≡ message_word g (byte2 w) (byte3 w) (byte4 w)
  rebuilt =
      rw (lt-ltb (byte2 w) 0xF0 high, mod-eq_of_lt {n = g} {m = 16} (omega arith))
      (joined w g v.word v.kind v.group)

  bytes_one : need (byte2 w) ≡ 1 → bytes_of w 0 ≡ byte2 w ∷ byte3 w ∷ []
  unfolding bytes_of payload amount pick
  bytes_one n = rw (v.kind, n)

  bytes-two : need (byte2 w) ≡ 2 → bytes_of w 0 ≡ byte2 w ∷ byte3 w ∷ byte4 w ∷ []
  unfolding bytes_of payload amount pick
  bytes-two n = rw (v.kind, n)

  bytes_most : length (bytes_of w 0) ≤ 3
  bytes_most =
      ⊎_elim (λ n. rw (bytes_one n) (omega arith)) (λ n. rw (bytes-two n) (omega arith))
      (need-ways g (byte2 w) low high)

  -- the bytes come back as the word
  module _ (r : ℕ) (bs ws : List ℕ) (t : Returned g (idle (byte2 w)) bs ws) where
    back_one : need (byte2 w) ≡ 1 → Returned g (idle r) (bytes_of w 0 ++ bs) (cleaned w ∷ ws)
    unfolding cleaned pick
    back_one n =
        let e : message_word g (byte2 w) (byte3 w) 0 ≡ w - byte4 w = omega (arith, rebuilt) in
        rw (bytes_one n, n, ← e)
        (heard g (idle r) (byte2 w) _ _ _ (status-in g (byte2 w) low high r) refl (omega arith)
        (heard g _ (byte3 w) _ _ _ (only-in g (byte2 w) low high 0 (byte3 w) v.first n) refl (omega arith) t))

    back-two : need (byte2 w) ≡ 2 → Returned g (idle r) (bytes_of w 0 ++ bs) (cleaned w ∷ ws)
    unfolding cleaned pick
    back-two n =
        let e = sym rebuilt in
        let z = heard g (idle r) (byte2 w) _ _ _ (status-in g (byte2 w) low high r) refl (omega arith)
        (heard g _ (byte3 w) _ _ _ (first-in g (byte2 w) low high 0 (byte3 w) v.first n) refl (omega arith)
        (heard g _ (byte4 w) _ _ _ (last-in g (byte2 w) low high 0 (byte3 w) v.first (byte4 w) (v.second n)) refl
        (omega arith) t)) in
        rw (bytes-two n, n) (record { sends = z.sends ∙ rw e; fine = z.fine })

back : (g : ℕ) → g ≤ 15 → (ws : List ℕ) → All (Voice g) ws → (r : ℕ) → Returned g (idle r) (spoken ws) (map cleaned ws)
unfolding calls_in all_in
back g few [] a r = record { sends = refl; fine = tt }
back g few (w ∷ ws) a r =
    let t = back g few ws a.1 (byte2 w) in
    ⊎_elim (back_one g w few a.0 r _ _ t) (back-two g w few a.0 r _ _ t)
    (need-ways g (byte2 w) (low g w few a.0) (high g w few a.0))

out : (g : ℕ) → g ≤ 15 → (ws : List ℕ) → All (Voice g) ws
    → whole_out g ws ≡ record { answer = sent; read = length ws; sends = spoken ws; left = tt }
out g few [] a = gives_none g
out g few (w ∷ ws) a =
    gives g (w ∷ []) ws (one_word g w few a.0) (passes g w few a.0)
    ∙ rw (out g few ws a.1)
    (ap (λ (n : ℕ). record { answer = sent; read = n; sends = bytes_of w 0 ++ spoken ws; left = tt })
    {x = length (w ∷ []) + length ws} {y = length (w ∷ ws)} (omega arith))

spoken-most : (g : ℕ) → g ≤ 15 → (ws : List ℕ) → All (Voice g) ws → length (spoken ws) ≤ 3 * length ws
spoken-most g few [] a = omega arith
spoken-most g few (w ∷ ws) a =
    omega (arith, length-append (bytes_of w 0) (spoken ws), bytes_most g w few a.0, spoken-most g few ws a.1)

cleaned-length : (ws : List ℕ) → length (map cleaned ws) ≡ length ws
cleaned-length [] = refl
cleaned-length (w ∷ ws) = omega (arith, cleaned-length ws)

module _ (g room : ℕ) (ws : List ℕ) (few : g ≤ 15) (a : All (Voice g) ws) (h : 3 * length ws ≤ room) where
  exported : run_out g room ws
      ≡ roomed room (record { answer = sent; read = length ws; sends = spoken ws; left = tt })
  exported =
      let e = out g few ws a in
      Out.run-whole g room ws few (rw e (omega (arith, spoken-most g few ws a))) ∙ rw e

  imported : (space : ℕ) → length ws ≤ space
      → let r = run_in g space (idle 0) (spoken ws) in
      (r.answer ≡ sent) × (r.read ≡ length (spoken ws)) × (r.sends ≡ map cleaned ws) × Fine g (idle 0) (spoken ws)
  unfolding sound
  imported space k =
      let t = back g few ws a 0 in
      let e = run-whole g space (idle 0) (spoken ws) few refl (rw t.sends (omega (arith, cleaned-length ws))) in (
        rw e (whole-answer (calls_in g (idle 0) (spoken ws)) (idle 0)),
        rw e (whole-read g (spoken ws) (idle 0)),
        rw e t.sends,
        t.fine,
      )

pub proved-voice : VoiceReturns
proved-voice =
    record {
      exports = λ g room ws few a h. let e = exported g room ws few a h in (rw e, rw e);
      returns = λ g room space ws few a h k. rw (exported g room ws few a h) (imported g room ws few a h space k);
    }

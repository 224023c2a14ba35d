-- Each answer in its case: the ways of a call, and the row of cases, by the same tests. Assumes nothing.
use Prim.Native.Nat.{ℕ, suc, ◌≤◌, ◌<◌}
use mathlib.Core.Path.{◌≡◌, refl, sym, ◌∙◌}
use mathlib.Core.Bool.{true, false, cond, ◌||◌}
use mathlib.Core.List.{List, [], ◌∷◌}
use native.Mathlib.Omega.{arith}
use lib.Dec.{eqb, leb, ltb, leb-zero}
use lib.ListN.{length}
use borrow.Author.Tests.{eq-eqb, eqb-false, eqb-true, le-leb, le-ltb, leb-false, leb-true, lt-leb, lt-ltb, ltb-false}
use borrow.Author.Tests.{ltb-true, ne_eqb}
use Rattle.ground.proofs.Bools.{bools}
use Rattle.ground.proofs.Cases.{by_bool, not-both}
use Rattle.ump.specs.Word.{message_type}
use Rattle.ump.specs.Packet.{first, packet, second}
use Rattle.fields.specs.Check.{bad_place_of, good_status}
use Rattle.stream.specs.Answers.{cut_off, cut_packet, dropped, no_room, not_sound, out_of_range, sent, taken_in}
use Rattle.stream.specs.Call.{refused, within}
use Rattle.screen.specs.Screen.{reserved, screened}
use Rattle.cable.specs.declared.Cable.{Cable}
use Rattle.cable.specs.State.{pick, sound}
use Rattle.cable.specs.Hearing.{Call, byte_in, data_in, end_in, exclusive_in, first_in, message_in, real_time_in}
use Rattle.cable.specs.Hearing.{sending, status_in, takes, unread}
use Rattle.cable.proofs.Ways.{either, told}
use Rattle.inlet.specs.Inlet.{call_in, fit_in, next_in, one_in}
use Rattle.inlet.proofs.CallLaws.{first-left, none_left, one-next, one-range, one-unsound, quiet-fits}
use Rattle.outlet.specs.Outlet.{bytes_of, one_out, ours, packet_out, screen_out, step_out}
use Rattle.stream.specs.Cases.{numbered}
use Rattle.cable_claims.specs.SocketRefusals.{LeavesIn, SocketRefusals, cases_in, cases_out, cuts_off, drops_at}

-- the answer of a byte, by its cases
abbrev answer_by : Cable → ℕ → ℕ → ℕ
answer_by s b n = cond (cuts_off s b) cut_off (cond (drops_at s b) dropped (cond (eqb n 0) taken_in sent))

record ByCase (s : Cable) (b : ℕ) (c : Call) : Type 0 where
  pub says : c.answer ≡ answer_by s b (length c.sends)

module _ (s : Cable) (g b : ℕ) where
  real : leb 0xF8 b ≡ true → ByCase s b (real_time_in s g b)
  unfolding real_time_in
  real h =
      let lo = leb-true 0xF8 b h in
      let t = le-ltb b 0x80 (omega arith) in
      let u = le-ltb b 0xF8 lo in
      told (ByCase s b) _ (λ e. record { says = simp (bools, e, t, u) }) (λ e. record { says = simp (bools, e, t, u) })

  plain : ltb b 0x80 ≡ true → ByCase s b (data_in s g b)
  unfolding data_in exclusive_in message_in first_in
  plain t =
      let lo = ltb-true b 0x80 t in
      let u = lt-leb 0x80 b lo in
      let x = ne_eqb b 0xF9 (λ q. omega arith) in
      let y = ne_eqb b 0xFD (λ q. omega arith) in
      told (ByCase s b) _
      (λ e.
      either (ByCase s b) _ (record { says = simp (bools, e, t, u, x, y) })
      (record { says = simp (bools, e, t, u, x, y) }))
      (λ e.
      told (ByCase s b) _ (λ z. record { says = simp (bools, e, t, u, x, y, z) })
      (λ z.
      either (ByCase s b) _
      (either (ByCase s b) _ (record { says = simp (bools, e, t, u, x, y, z) })
      (record { says = simp (bools, e, t, u, x, y, z) }))
      (record { says = simp (bools, e, t, u, x, y, z) })))

  -- a status byte below F8
  module _ (t : ltb b 0x80 ≡ false) (f : leb 0xF8 b ≡ false) where
    lo : 0x80 ≤ b
    lo = ltb-false b 0x80 t

    hi : b < 0xF8
    hi = leb-false 0xF8 b f

    a : leb 0x80 b ≡ true
    a = le-leb 0x80 b lo

    d : ltb b 0xF8 ≡ true
    d = lt-ltb b 0xF8 hi

    x : eqb b 0xF9 ≡ false
    x = ne_eqb b 0xF9 (λ q. omega (arith, hi))

    y : eqb b 0xFD ≡ false
    y = ne_eqb b 0xFD (λ q. omega (arith, hi))

    -- those of F4 to F7 that are not F6
    three : leb 0xF4 b ≡ true → eqb b 0xF6 ≡ false → (eqb b 0xF4 || (eqb b 0xF5 || eqb b 0xF7)) ≡ true
    three l n =
        by_bool (eqb b 0xF4) (λ p. rw p)
        (λ p. by_bool (eqb b 0xF5) (λ q. rw (p, q)) (λ q. rw (p, q) (eq-eqb b 0xF7 (last (leb-true 0xF4 b l) p q n))))
      where
        past : (k : ℕ) → k ≤ b → eqb b k ≡ false → suc k ≤ b
        past k h e = let n = eqb-false b k e in omega (arith, n)

        last : 0xF4 ≤ b → eqb b 0xF4 ≡ false → eqb b 0xF5 ≡ false → eqb b 0xF6 ≡ false → b ≡ 0xF7
        last h p q r = let z = past 0xF6 (past 0xF5 (past 0xF4 h p) q) r in omega (arith, z, hi)

    status : eqb s.status 0 ≡ true → ByCase s b (status_in g b)
    unfolding status_in
    status e =
        let z = eqb-true s.status 0 e in
        let n = ne_eqb s.status 0xF0 (λ q. omega (arith, z, q)) in
        told (ByCase s b) _
        (λ p.
        let k = eqb-true b 0xF0 p in
        let i = ne_eqb b 0xF4 (λ q. omega (arith, k, q)) in
        let j = ne_eqb b 0xF5 (λ q. omega (arith, k, q)) in
        let m = ne_eqb b 0xF7 (λ q. omega (arith, k, q)) in
        record { says = simp (bools, t, a, d, x, y, e, n, i, j, m) })
        (λ p.
        told (ByCase s b) _
        (λ h.
        let k = eqb-true b 0xF6 h in
        let i = ne_eqb b 0xF4 (λ q. omega (arith, k, q)) in
        let j = ne_eqb b 0xF5 (λ q. omega (arith, k, q)) in
        let m = ne_eqb b 0xF7 (λ q. omega (arith, k, q)) in
        record { says = simp (bools, t, a, d, x, y, e, n, i, j, m) })
        (λ h.
        told (ByCase s b) _ (λ l. record { says = simp (bools, t, a, d, x, y, e, n, three l h) })
        (λ l.
        let k = leb-false 0xF4 b l in
        let i = ne_eqb b 0xF4 (λ q. omega (arith, k, q)) in
        let j = ne_eqb b 0xF5 (λ q. omega (arith, k, q)) in
        let m = ne_eqb b 0xF7 (λ q. omega (arith, k, q)) in
        record { says = simp (bools, t, a, d, x, y, e, n, i, j, m) })))

    ending : eqb s.status 0 ≡ false → eqb s.status 0xF0 ≡ true → ByCase s b (end_in s g b)
    unfolding end_in
    ending e n =
        told (ByCase s b) _ (λ p. record { says = simp (bools, t, a, d, x, y, e, n, p) })
        (λ p. record { says = simp (bools, t, a, d, x, y, e, n, p) })

  by-case : ByCase s b (byte_in s g b)
  unfolding byte_in
  by-case =
      told (ByCase s b) _ (λ f. real f)
      (λ f. told (ByCase s b) _ (λ t. plain t)
      (λ t. told (ByCase s b) _ (λ e. status t f e)
      (λ e. told (ByCase s b) _ (λ n. ending t f e n)
      (λ n. record { says = simp (bools, t, a t f, d t f, x t f, y t f, e, n) }))))

-- a call in its output
module _ (g room : ℕ) (s : Cable) where
  sound-call : (b : ℕ) (bs : List ℕ) → g ≤ 15 → sound s ≡ true → call_in s g (b ∷ bs) ≡ byte_in s g b
  unfolding call_in next_in pick
  sound-call b bs few ok = rw (le-ltb 15 g few, ok)

  fitted : (b : ℕ) (c : Call) → ByCase s b c
      → (fit_in room s c).answer
      ≡ cond (ltb room (length c.sends)) no_room (answer_by s b (length c.sends))
  unfolding fit_in pick
  fitted b c h =
      by_bool (leb (length c.sends) room)
      (λ e. rw (e, le-ltb room (length c.sends) (leb-true (length c.sends) room e)) h.says)
      (λ e. rw (e, lt-ltb room (length c.sends) (leb-false (length c.sends) room e)))

  into : (bs : List ℕ) → (one_in g room s bs).answer ≡ numbered (cases_in g room s bs)
  into bs =
      by_bool (ltb 15 g) (λ t. rw (one-range g room s bs (ltb-true 15 g t), t))
      (λ t.
      let few = ltb-false 15 g t in
      by_bool (sound s) (λ k. go bs few t k) (λ k. rw (one-unsound g room s bs few k, t, k)))
    where
      go : (bs : List ℕ) → g ≤ 15 → ltb 15 g ≡ false → sound s ≡ true
          → (one_in g room s bs).answer ≡ numbered (cases_in g room s bs)
      go [] few t k = rw (one-next g room s [] few k, none_left s g [] refl, quiet-fits, t, k)
      go (b ∷ bs) few t k =
          rw (
            one-next g room s (b ∷ bs) few k,
            first-left s g (b ∷ bs) (omega arith),
            t,
            k,
            sound-call b bs few k,
            ne_eqb (length (b ∷ bs)) 0 (λ q. omega arith),
          )
          (fitted b (byte_in s g b) (by-case s g b))

-- what is left, by the answer
module _ (s : Cable) where
  stops : (a : ℕ) → (eqb a sent || eqb a taken_in) ≡ false → eqb a cut_off ≡ false → LeavesIn s (unread a [] s)
  stops a e f =
      record {
        untouched = λ _. (refl, refl, refl);
        quiet = λ _. refl;
        reads = λ h. not-both (sym e ∙ h);
        unread = λ h. not-both (sym f ∙ h);
      }

  taking : (u : Cable) → LeavesIn s (takes u)
  taking u =
      record { untouched = λ h. not-both h; quiet = λ _. refl; reads = λ _. refl; unread = λ h. not-both h }

  speaking : (ws : List ℕ) (u : Cable) → LeavesIn s (sending ws u)
  speaking ws u =
      record {
        untouched = λ h. not-both h;
        quiet = λ h. not-both h;
        reads = λ _. refl;
        unread = λ h. not-both h;
      }

  dropping : (r : ℕ) (u : Cable) → LeavesIn s (record { answer = dropped; read = r; sends = []; after = u })
  dropping r u =
      record {
        untouched = λ h. not-both h;
        quiet = λ _. refl;
        reads = λ h. not-both h;
        unread = λ h. not-both h;
      }

  cutting : (w v : ℕ) (u : Cable) → LeavesIn s (unread cut_off (w ∷ v ∷ []) u)
  cutting w v u =
      record {
        untouched = λ h. not-both h;
        quiet = λ h. not-both h;
        reads = λ h. not-both h;
        unread = λ _. (refl, refl);
      }

  leaves-byte : (g b : ℕ) → LeavesIn s (byte_in s g b)
  unfolding byte_in real_time_in data_in exclusive_in message_in first_in status_in end_in
  leaves-byte g b =
      let P = LeavesIn s in
      either P _ (either P _ (dropping 1 s) (speaking _ s))
      (either P _
      (either P _ (either P _ (taking _) (speaking _ _))
      (either P _ (dropping 1 s) (either P _ (either P _ (taking _) (speaking _ _)) (speaking _ _))))
      (either P _
      (either P _ (taking _) (either P _ (speaking _ _) (either P _ (dropping 1 _) (taking _))))
      (either P _ (either P _ (speaking _ _) (cutting _ _ _)) (dropping 0 _))))

  leaves-next : (g : ℕ) (bs : List ℕ) → LeavesIn s (next_in s g bs)
  unfolding next_in
  leaves-next g [] = stops cut_packet refl refl
  leaves-next g (b ∷ bs) = leaves-byte g b

  leaves : (g room : ℕ) (bs : List ℕ) → LeavesIn s (one_in g room s bs)
  unfolding one_in fit_in call_in
  leaves g room bs =
      let P = LeavesIn s in
      either P _
      (either P _ (stops out_of_range refl refl) (either P _ (leaves-next g bs) (stops not_sound refl refl)))
      (stops no_room refl refl)

-- out: the row of tests
out : (g room : ℕ) (ws : List ℕ) → (one_out g room ws).answer ≡ numbered (cases_out g room ws)
unfolding one_out within step_out packet_out screened screen_out refused
out g room ws =
    let p = packet ws in
    let n = length (bytes_of (first p) (second p)) in
    by_bool (ltb 15 g) (λ t. rw t)
    (λ t. by_bool (eqb (length p) 0) (λ u. rw (t, u))
    (λ u. by_bool (reserved (message_type (first p))) (λ v. rw (t, u, v, leb-zero room))
    (λ v. by_bool (ours g (first p))
    (λ w. by_bool (good_status (first p))
    (λ x. by_bool (eqb (bad_place_of p) 0)
    (λ y. by_bool (leb n room)
    (λ z. rw (t, u, v, w, x, y, z, le-ltb room n (leb-true n room z)))
    (λ z. rw (t, u, v, w, x, y, z, lt-ltb room n (leb-false n room z))))
    (λ y. rw (t, u, v, w, x, y, leb-zero room)))
    (λ x. rw (t, u, v, w, x, leb-zero room)))
    (λ w. rw (t, u, v, w, leb-zero room)))))

pub proved-refusals : SocketRefusals
proved-refusals =
    record {
      into = λ g room s bs. into g room s bs;
      leaves = λ g room s bs. leaves s g room bs;
      out = λ g room ws. out g room ws;
    }

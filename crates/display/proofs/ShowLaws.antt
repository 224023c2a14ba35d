-- A run of the desk: what one packet comes to, and a loop of them. Assumes nothing.
use Prim.Native.Nat.{ℕ, ◌+◌, ◌-◌, ◌<◌}
use mathlib.Core.Path.{◌≡◌, refl, sym, ap, ◌∙◌}
use mathlib.Core.Bool.{Bool, true, false, cond}
use mathlib.Core.List.{List, [], ◌∷◌, ◌++◌}
use native.Mathlib.Omega.{arith}
use native.Mathlib.Nat.{add-zero}
use lib.Dec.{leb, leb-zero}
use lib.ListN.{length, length-append}
use lib.Seq.{sets-eq}
use borrow.Author.Tests.{eq-eqb, leb-true, ne_eqb}
use Rattle.std.proofs.Common.{Option, None, Some, unwrap_or}
use Rattle.std.proofs.lemmas.Option.{none-some}
use Rattle.ground.specs.Store.{written}
use Rattle.ground.proofs.StoreLaws.{written_none}
use Rattle.stream.specs.declared.Done.{Done}
use Rattle.stream.specs.Answers.{no_room, sent, stops_run}
use Rattle.stream.specs.Call.{Call, fit, left_of, refused, sent_of, stopped, went}
use Rattle.stream.specs.Report.{counting, further, placing}
use Rattle.stream.proofs.CallLaws.{refusal, refused-fits}
use Rattle.text.specs.Lines.{decimal, place_if_put, with_row}
use Rattle.screen.specs.Screen.{Screened}
use Rattle.screen.specs.Screen.{goes_on, neither_type, open_rule, screen, screened}
use Rattle.screen.proofs.ScreenLaws.{cut-only, screen-place}
use Rattle.tuning.specs.declared.Desk.{Desk}
use Rattle.tuning.specs.Desk.{heard}
use Rattle.display.specs.declared.DeskAndReport.{DeskAndReport}
use Rattle.display.specs.Line.{count_below, fields_below, line_of, same_below}
use Rattle.display.specs.Run.{new_line, shown_of}

-- a line has its end
line-some : (d : Desk) (units : ℕ) → 0 < length (line_of d units)
unfolding line_of
line-some d units =
    omega (arith, length-append (decimal (count_below d units 128) ++ fields_below d units 128) (10 ∷ []))

-- ---- one packet p, after what was reported so far

module _ (units : ℕ) (past : Done) (d : Desk) (p text : List ℕ) where
  abbrev to : ℕ
  to = past.written

  abbrev room : ℕ
  room = length text - to

  abbrev x : Screened
  x = screen neither_type p

  abbrev e : Desk
  e = heard d p

  -- what the call comes to, as the desk and the report, and as the text
  abbrev pub Comes : Call (ℕ × Desk) → DeskAndReport → List ℕ → Type 0
  Comes c r after =
      (r ≡ record { desk = (left_of (0, d) c).1; done = further past p c }) × (after ≡ written to (sent_of c) text)

  abbrev pub At : DeskAndReport → List ℕ → Type 0
  At r after = Comes (fit room (shown_of units d p)) r after

  left-refused : (a : ℕ) → (left_of (0, d) (refused {T = ℕ × Desk} a (room, d))).1 ≡ d
  unfolding refused
  left-refused a = go (stops_run a)
    where
      go : (b : Bool) → (left_of (0, d) (cond {A = Call (ℕ × Desk)} b (stopped a) (went a [] (room, d)))).1 ≡ d
      go true = refl
      go false = refl

  pub at-refused : (s : Screened) → s ≡ x → (s.answer ≡ goes_on → ⊥)
      → At (record { desk = d; done = placing s.answer s.place (past.read + length p) to }) text
  unfolding screened
  at-refused s es n =
      let a = x.answer in
      let o = refusal {T = ℕ × Desk} a (room, d) p (cut-only open_rule neither_type p) in
      let other = ne_eqb a goes_on (λ q. n (ap (λ (y : Screened). y.answer) es ∙ q)) in
      rw (es, other, refused-fits room a d, screen-place open_rule neither_type p)
      (rw (left-refused a, o.0, o.1, o.2, add-zero to), rw o.2 (sym (written_none to text)))

  module _ (g : x.answer ≡ goes_on) where
    -- it acts
    acts : (ws : List ℕ) → new_line units d e ≡ ws → shown_of units d p ≡ went sent ws e
    unfolding screened
    acts ws h = rw (eq-eqb x.answer goes_on g, h)

    pub at_same : same_below d e units 128 ≡ true
        → At (record { desk = e; done = counting sent (past.read + length p) to }) text
    at_same s =
        rw (acts [] (rw s), leb-zero room) (rw (add-zero to), sym (written_none to text))

    -- with its line, where there is room for it
    pub at-line : same_below d e units 128 ≡ false → (end : Option ℕ) (after : List ℕ)
        → (end ≡ place_if_put text to (line_of e units)) × (after ≡ with_row text to (line_of e units))
        → (end ≡ None → At (record { desk = d; done = counting no_room past.read to }) after)
        × ((k : ℕ) → end ≡ Some k → At (record { desk = e; done = counting sent (past.read + length p) k }) after)
    at-line s end after h = rw (acts l (rw s)) (go (leb (length l) room) refl h)
      where
        l : List ℕ
        l = line_of e units

        c : Bool → Call (ℕ × Desk)
        c b = cond b (went sent l (room - length l, e)) (stopped no_room)

        go : (b : Bool) → leb (length l) room ≡ b
            → (end ≡ cond b (Some (to + length l)) None) × (after ≡ with_row text to l)
            → (end ≡ None → Comes (c b) (record { desk = d; done = counting no_room past.read to }) after)
            × ((k : ℕ) → end ≡ Some k
            → Comes (c b) (record { desk = e; done = counting sent (past.read + length p) k }) after)
        go true b m =
            let f = leb-true (length l) room b in
            let some = line-some e units in
            let q = rw b at m.1 in (
              λ z. absurd (none-some _ (sym z ∙ m.0)),
              λ k z. let w : k ≡ to + length l = ap (λ (o : Option ℕ). unwrap_or o 0) (sym z ∙ m.0) in
                  (rw w, q ∙ sets-eq l text to (omega (arith, f, some))),
            )
        go false b m =
            let q = rw b at m.1 in (
              λ z. (rw (add-zero past.read, add-zero to), q ∙ sym (written_none to text)),
              λ k z. absurd (none-some _ (sym m.0 ∙ z)),
            )

-- what a call leaves is the same, whatever room there is beside the desk
pub left-same : (d : Desk) (m k : ℕ) (x : Call (ℕ × Desk)) → (left_of (m, d) x).1 ≡ (left_of (k, d) x).1
left-same d m k (went a vs u) = refl
left-same d m k (stopped a) = refl

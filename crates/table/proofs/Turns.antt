-- What the loop of `treat` keeps: while there is more, what was done and then the run from here is the whole run; else
-- all is done. Assumes nothing.
use mathlib.Core.Path.{◌≡◌, refl, sym, ap, ◌∙◌, subst}
use Prim.Native.Nat.{ℕ, suc, ◌+◌, ◌-◌, ◌<◌, ◌≤◌}
use native.Mathlib.Omega.{arith}
use native.Mathlib.Nat.{zero-add, sub-zero}
use mathlib.Core.Bool.{Bool, true, false, cond, not, ◌&&◌, ◌||◌}
use mathlib.Core.List.{List}
use lib.ListN.{drop, length}
use lib.Dec.{eqb, ltb}
use borrow.Author.Tests.{eqb-true, eqb-false, eq-eqb, ltb-true, ltb-false}
use Rattle.ground.specs.Store.{written}
use Rattle.ground.proofs.Cases.{not-both}
use Rattle.ground.proofs.StoreLaws.{start-written}
use Rattle.ump.specs.Packet.{cut, packet}
use Rattle.stream.specs.Answers.{no_table, sent}
use Rattle.stream.specs.Call.{Call, answer_of, left_of, read_of, sent_of, within}
use Rattle.stream.specs.declared.Done.{Done}
use Rattle.stream.specs.Report.{counting, place_told, placing, reported, reported_call}
use Rattle.stream.specs.Run.{Ran, called, run}
use Rattle.stream.proofs.RunLoop.{DidRun, Runs, Then, finish, reports, start, turn}
use Rattle.channel.specs.declared.Record.{Record}
use Rattle.channel.specs.Record.{whole_table}
use Rattle.voice.specs.Turn.{next}
use Rattle.table.proofs.StepLaws.{step-inside, step-near, step-refuses}
use Rattle.table.specs.declared.Job.{Job}
use Rattle.table.specs.declared.Progress.{Progress}
use Rattle.table.specs.Job.{asked, asked_by, asked_report, table_step}
use Rattle.table.specs.Next.{call_at, output_after_call, report_after_call, state_after}

-- How far the loop is: before its first packet, in a table of n records and l words; and after a call that leaves the
-- report e, where d was the report before it.
abbrev pub begun : Bool → ℕ → ℕ → Progress
begun once n l =
    record {
      done = counting (cond (eqb n whole_table) sent no_table) 0 0;
      more = eqb n whole_table &&
          (once || ltb 0 l);
    }

abbrev pub moved : Bool → ℕ → Done → Done → Progress
moved once l d e =
    let last = once || eqb e.read d.read in
    record {
      done = placing (cond last e.answer sent) (cond once e.place 0) e.read e.written;
      more = not last && ltb e.read l;
    }

-- one call alone
called-did : {T : Type 0} (p : List ℕ) (room : ℕ) (t : T) (out : List ℕ) (c : Call (ℕ × T)) (i m : ℕ) → i ≡ 0 → m ≡ 0
    → DidRun (called p (room, t) c) out (answer_of c) (i + read_of p c) (m + length (sent_of c)) (left_of (room, t) c).1
    (written m (sent_of c) out)
called-did p room t out c i m e f =
    rw (e, f)
    (record {
      answers = refl;
      reads = zero-add (read_of p c);
      writes = zero-add (length (sent_of c));
      leaves = refl;
      holds
          = start-written (sent_of c) out;
    })

asked-run : (step : List Record → List ℕ → Call (List Record)) (room : ℕ) (t : List Record) (ws : List ℕ) → length t ≡
    whole_table
    → asked_by step false room t ws ≡ run (within step) (room, t) (cut ws)
asked-run step room t ws l = rw (eq-eqb (length t) whole_table l)

module _ (j : Job) (ws : List ℕ) (tb₀ : List Record) (out₀ : List ℕ) where
  abbrev pub Ended : Bool → Progress → List Record → List ℕ → Type 0
  Ended once p tb out =
      DidRun (asked_by (table_step j) once (length out₀) tb₀ ws) out₀ p.done.answer p.done.read p.done.written
      tb out
      × (p.done.place ≡ cond once (place_told p.done.answer (packet ws)) 0)

  -- one call stands at the start; a run, where a packet starts
  abbrev Place : Bool → Progress → List Record → List ℕ → Type 0
  Place true p tb out = (p.done.read ≡ 0) × (p.done.written ≡ 0) × (tb ≡ tb₀) × (out ≡ out₀)
  Place false p tb out = Runs (table_step j) (step-near j)
      (step-inside j) tb₀ ws out₀ tb out p.done.read p.done.written × (p.done.read < length ws)

  abbrev pub Stands : Bool → Bool → Progress → List Record → List ℕ → Type 0
  Stands once true p tb out = (length tb ≡ whole_table) × Place once p tb out
  Stands once false p tb out = Ended once p tb out

  module _ (l₀ : length tb₀ ≡ whole_table) (p : Progress) (tb : List Record) (out : List ℕ) where
    abbrev c : Call (ℕ × List Record)
    c = call_at (table_step j) ws p.done tb out

    abbrev k : ℕ
    k = read_of (next ws p.done) c

    abbrev tb' : List Record
    tb' = (left_of (length out - p.done.written, tb) c).1

    abbrev out' : List ℕ
    out' = written p.done.written (sent_of c) out

    abbrev i : ℕ
    i = p.done.read

    abbrev n : ℕ
    n = p.done.written

    abbrev m : ℕ
    m = length (sent_of c)

    abbrev Next : Bool → Progress → Type 0
    Next once q = Stands once q.more q tb' out' × (q.more ≡ true → (i < q.done.read) × (q.done.read ≤ length
        ws))

    abbrev at : Bool → Bool → Progress
    at b d = record { done = counting (cond b (answer_of c) sent) (i + k) (n + m); more = not b && d }

    -- one more call
    pub turned : (once : Bool) → length tb' ≡ length tb → Stands once true p tb out → Next once (moved once (length ws)
        p.done (report_after_call (table_step j) ws p.done tb out))
    turned true l s =
        let e : called (next ws p.done) (length out - n, tb) c ≡ asked_by (table_step j) true (length out₀) tb₀ ws = rw
        (s.1.0, s.1.1, s.1.2, s.1.3, sub-zero (length out₀)) in
        let d = called-did (next ws p.done) (length out - n) tb out c i n s.1.0 s.1.1 in (
          (
            subst (λ (r : Ran (ℕ × List Record)). DidRun r out₀ (answer_of c) (i + k) (n + m) tb' out') e
                (subst (λ (o : List ℕ). DidRun (called (next ws p.done) (length out - n, tb) c) o (answer_of c) (i +
                k) (n + m) tb' out') s.1.3 d),
            ap (λ (x : ℕ). place_told (answer_of c) (packet (drop x ws))) s.1.0,
          ),
          λ z. not-both z,
        )
    turned false l s = go (eqb (i + k) i) refl (ltb (i + k) (length ws)) refl
      where
        t : Then (table_step j) (step-near j) (step-inside j) tb₀ ws out₀ tb out i n (answer_of c) k m tb' out'
        t = turn (table_step j) (step-near j) (step-inside j) tb₀ ws out₀ tb out i n (answer_of c) k m tb' out' s.1.0
            s.1.1 (record { answers = refl; reads = refl; writes = refl; leaves = refl; holds = refl })

        go : (b : Bool) → eqb (i + k) i ≡ b → (d : Bool) → ltb (i + k) (length ws) ≡ d → Next false (at b d)
        go true e d f =
            let z : k ≡ 0 = omega (arith, eqb-true (i + k) i e) in
            let x = t.1 z in
            let y = x.0 in
            let e₁ : i + k ≡ i = omega (arith, z) in
            let e₂ : n + m ≡ n = omega (arith, x.1) in (
              (
                rw (asked-run (table_step j) (length out₀) tb₀ ws l₀) (record {
                  answers = y.answers;
                  reads = e₁ ∙ y.reads;
                  writes = e₂ ∙ y.writes;
                  leaves = y.leaves;
                  holds = y.holds;
                }),
                refl,
              ),
              λ q. not-both q,
            )
        go false e true f =
            let r = t.0 (λ q. eqb-false (i + k) i e (omega (arith, q))) in
            let h = ltb-true (i + k) (length ws) f in
            ((l ∙ s.0, (r.0, h)), λ q. (omega (arith, r.1), omega (arith, h)))
        go false e false f =
            let r = t.0 (λ q. eqb-false (i + k) i e (omega (arith, q))) in (
              (
                rw (asked-run (table_step j) (length out₀) tb₀ ws l₀)
                    (finish (table_step j) (step-near j) (step-inside j)
                    tb₀ ws out₀ tb' out' (i + k) (n + m) r.0 (ltb-false (i + k) (length ws) f)),
                refl,
              ),
              λ q. not-both q,
            )

  -- before the first packet
  refused : (once : Bool) → eqb (length tb₀) whole_table ≡ false → Ended once (record {
    done = counting no_table 0 0;
    more
        = false;
  }) tb₀ out₀
  refused true e = (
    rw (step-refuses j tb₀ (length out₀) ws e) (record {
      answers = refl;
      reads = refl;
      writes = refl;
      leaves = refl;
      holds = refl;
    }),
    refl,
  )
  refused false e = (rw e (record { answers = refl; reads = refl; writes = refl; leaves = refl; holds = refl }), refl)

  pub begins : (once : Bool) → Stands once (begun once (length tb₀) (length ws)).more (begun once (length tb₀) (length
      ws)) tb₀ out₀
  begins once = go once (eqb (length tb₀) whole_table) refl
    where
      first : Bool → Bool → Progress
      first once d = record { done = counting sent 0 0; more = once || d }

      goes : (l : length tb₀ ≡ whole_table) (once d : Bool) → ltb 0 (length ws) ≡ d
          → Stands once (once || d) (first once
          d) tb₀ out₀
      goes l true d e = (l, (refl, refl, refl, refl))
      goes l false true e = (
        l,
        (
          start (table_step j) (step-near j) (step-inside j) tb₀ ws out₀,
          ltb-true 0 (length ws)
              e,
        ),
      )
      goes l false false e = (
        rw (asked-run (table_step j) (length out₀) tb₀ ws l) (finish (table_step j) (step-near j)
            (step-inside j) tb₀ ws out₀ tb₀ out₀ 0 0 (start (table_step j) (step-near j) (step-inside j) tb₀ ws out₀)
            (ltb-false 0 (length ws) e)),
        refl,
      )

      go : (once b : Bool) → eqb (length tb₀) whole_table ≡ b
          → let q : Progress = record {
            done = counting (cond b sent no_table) 0 0;
            more = b && (once || ltb 0 (length
                ws));
          } in Stands once q.more q tb₀ out₀
      go once true e = goes (eqb-true (length tb₀) whole_table e) once (ltb 0 (length ws)) refl
      go once false e = refused once e

same : (p q : Progress) → p.done ≡ q.done → p.more ≡ q.more → p ≡ q
same p q e f =
    ap (λ (d : Done). record { done = d; more = p.more }) e ∙ ap (λ (b : Bool). record { done = q.done; more = b }) f

module _ (ws : List ℕ) (j : Job) (tb₀ : List Record) (out₀ : List ℕ) where
  -- what the loop keeps
  abbrev pub Keeps : Progress → List Record → List ℕ → Type 0
  Keeps p tb out = Stands j ws tb₀ out₀ j.once p.more p tb out

  pub opens : (p : Progress) → p.done ≡ (begun j.once (length tb₀) (length ws)).done
      → p.more ≡ (begun j.once (length tb₀) (length ws)).more → Keeps p tb₀ out₀
  opens p e f =
      subst (λ (q : Progress). Keeps q tb₀ out₀) (sym (same p (begun j.once (length tb₀) (length ws)) e f))
      (begins j ws tb₀ out₀ j.once)

  -- while there is more, a call has words to read
  abbrev pub left : Progress → ℕ
  left p = cond p.more (suc (length ws - p.done.read)) 0

  -- one more turn
  module _ (p : Progress) (tb : List Record) (out : List ℕ) (e : p.more ≡ true) (k : Keeps p tb out)
      (l : length tb ≡ length tb₀) where
    going : Stands j ws tb₀ out₀ j.once true p tb out
    going = subst (λ (b : Bool). Stands j ws tb₀ out₀ j.once b p tb out) e k

    further : (q : Progress) (tb' : List Record) (out' : List ℕ) → Keeps q tb' out'
        → (q.more ≡ true → (p.done.read < q.done.read) × (q.done.read ≤ length ws))
        → Keeps q tb' out' × (left q < left p)
    further q tb' out' h r =
        (h, subst (λ (b : Bool). left q < cond b (suc (length ws - p.done.read)) 0) (sym e) (go q.more r))
      where
        go : (b : Bool) → (b ≡ true → (p.done.read < q.done.read) × (q.done.read ≤ length ws))
            → cond b (suc (length ws - q.done.read)) 0 < suc (length ws - p.done.read)
        go true h = let x = h refl in omega (arith, x.0, x.1)
        go false h = omega arith

    pub steps : (d : Done) (q : Progress) (tb' : List Record) (out' : List ℕ)
        → d ≡ report_after_call (table_step j) ws p.done tb out → tb' ≡ state_after (table_step j) ws p.done tb out
        → out' ≡ output_after_call (table_step j) ws p.done tb out → length tb' ≡ length tb
        → q.done ≡ (moved j.once (length ws) p.done d).done → q.more ≡ (moved j.once (length ws) p.done d).more
        → Keeps q tb' out' × (left q < left p)
    steps d q tb' out' ed et eo lt eq em =
        let d₁ : Done = report_after_call (table_step j) ws p.done tb out in
        let q₁ : Progress = moved j.once (length ws) p.done d₁ in
        let same_q : q ≡ q₁ =
        same q (moved j.once (length ws) p.done d) eq em ∙ ap (λ (x : Done). moved j.once (length ws) p.done x) ed in
        let z = turned j ws tb₀ out₀ (sym l ∙ going.0) p tb out j.once
        (ap (λ (x : List Record). length x) (sym et) ∙ lt) going in
        rw (same_q, et, eo) (further q₁ (state_after (table_step j) ws p.done tb out)
        (output_after_call (table_step j) ws
        p.done tb out) z.0 z.1)

  -- where there is no more, all is done, and the report is that of what was asked for
  pub ended : (p : Progress) (tb : List Record) (out : List ℕ) → p.more ≡ false → Keeps p tb out
      → let r = asked j (length out₀) tb₀ ws in
      DidRun r out₀ p.done.answer p.done.read p.done.written tb out × (p.done ≡ asked_report j ws r)
  unfolding asked
  ended p tb out e k =
      let z = subst (λ (b : Bool). Stands j ws tb₀ out₀ j.once b p tb out) e k in (
        z.0,
        told j.once p.done (asked_by (table_step j) j.once (length out₀) tb₀ ws) (reports z.0) z.1,
      )
    where
      told : (once : Bool) (d : Done) (r : Ran (ℕ × List Record)) → counting d.answer d.read d.written ≡ reported r
          → d.place ≡ cond once (place_told d.answer (packet ws)) 0
          → d ≡ cond once (reported_call (packet ws) r) (reported r)
      told true d r e f =
          ap (λ (x : ℕ). placing d.answer x d.read d.written) f
          ∙ ap (λ (x : Done). placing x.answer (place_told x.answer (packet ws)) x.read x.written) e
      told false d r e f = ap (λ (x : ℕ). placing d.answer x d.read d.written) f ∙ e

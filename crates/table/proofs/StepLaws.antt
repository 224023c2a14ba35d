-- The call with a record beside the call with the table; and what the loop asks of a step. Assumes nothing.
use Prim.Native.Nat.{ℕ, ◌-◌, ◌<◌}
use mathlib.Core.Path.{◌≡◌, ap, sym, subst, ◌∙◌}
use mathlib.Core.Bool.{false, ◌||◌}
use mathlib.Core.List.{List, ◌∷◌}
use native.Mathlib.Omega.{arith}
use lib.ListN.{drop, get_or, length, set, take}
use lib.Seq.{set-get_or}
use lib.Dec.{eqb}
use Rattle.std.proofs.lemmas.List.{get_or_default}
use Rattle.ground.specs.Store.{written}
use Rattle.ump.specs.Word.{data1, place_of}
use Rattle.ump.specs.Packet.{size}
use Rattle.stream.specs.Answers.{no_table}
use Rattle.stream.specs.Call.{left_of, stopped, within}
use Rattle.stream.proofs.RunLoop.{Inside}
use Rattle.channel.specs.declared.Record.{Record}
use Rattle.channel.specs.Record.{empty, sound, whole_table}
use Rattle.voice.specs.declared.EffectAndReport.{EffectAndReport}
use Rattle.effect.specs.declared.Effect.TheVariants.{Leaves}
use Rattle.effect.specs.Effect.{effected}
use Rattle.voice.specs.Packet.{call_by}
use Rattle.voice.proofs.PacketLaws.{effect-at}
use Rattle.voice.specs.Turn.{next}
use Rattle.table.specs.declared.Job.{Job}
use Rattle.stream.specs.declared.Done.{Done}
use Rattle.table.specs.Table.{table_by}
use Rattle.table.specs.Job.{record_step, table_step}
use Rattle.table.specs.Next.{output_after_call, report_after_call, state_after, turn_at}
use Rattle.table.proofs.TableLaws.{own-call, place_at, table-inside, table-near}

pub place-lt : (t : List Record) (ws : List ℕ) (i : ℕ) → length t ≡ whole_table → place_at ws i < length t
place-lt t ws i l = subst (λ (n : ℕ). place_at ws i < n) (sym l) (small (get_or ws i 0))
  where
    small : (w : ℕ) → place_of w < 256
    small w = omega arith

-- what `one` says, from what `step` says
module _ (j : Job) (ws : List ℕ) (d : Done) (t : List Record) (out : List ℕ) where
  abbrev own : Record
  own = get_or t (place_at ws d.read) empty

  abbrev turn : EffectAndReport
  turn = turn_at (record_step j) ws d own out

  -- the record with the effect that `step` tells
  abbrev pub made : Record
  made = effected own turn.effect turn.after (data1 (get_or ws d.read 0))

  abbrev room : ℕ
  room = length out - d.written

  -- it is the record that the call leaves
  made-left : made ≡ (left_of (room, own) (within (call_by j.rule j.known) (room, own) (drop d.read ws))).1
  unfolding record_step within call_by
  made-left = effect-at j.rule room (j.known || sound own) own ws d.read

  pub as-table : length t ≡ whole_table
      → (turn.done ≡ report_after_call (table_step j) ws d t out)
      × (set t (place_at ws d.read) made ≡ state_after (table_step j) ws d t out)
      × (output_after_call (record_step j) ws d own out ≡ output_after_call (table_step j) ws d t out)
  unfolding record_step table_step within
  as-table l =
      let e = own-call j.rule j.known d (next ws d) room t ws d.read l in
      (e.0, ap (set t (place_at ws d.read)) made-left ∙ e.2, ap (λ (x : List ℕ). written d.written x out) e.1)

  -- without an effect the table stays as it was
  pub left_alone : turn.effect ≡ Leaves → set t (place_at ws d.read) own ≡ set t (place_at ws d.read)
      made
  unfolding effected
  left_alone h = rw h

  -- What `one` does with the record that stands at a place: `e` is what is read past the end, where it does not stand.
  module _ (l : length t ≡ whole_table) (i : ℕ) (p : i ≡ place_at ws d.read) (e : Record) (s : EffectAndReport)
      (z : s ≡ turn_at (record_step j) ws d (get_or t i e) out) where
    own_is : get_or t i e ≡ own
    own_is =
        ap (λ (n : ℕ). get_or t n e) p ∙ get_or_default t (place_at ws d.read) e empty (place-lt t ws d.read l)

    turn_is : s ≡ turn
    turn_is = z ∙ ap (λ (r : Record). turn_at (record_step j) ws d r out) own_is

    pub told : s.done ≡ report_after_call (table_step j) ws d t out
    told = ap (λ (x : EffectAndReport). x.done) turn_is ∙ (as-table l).0

    pub wrote : (o : List ℕ) → o ≡ output_after_call (record_step j) ws d (get_or t i e) out
        → o ≡ output_after_call (table_step j) ws d t out
    wrote o f = f ∙ ap (λ (r : Record). output_after_call (record_step j) ws d r out) own_is ∙ (as-table l).2

    pub stays : s.effect ≡ Leaves → t ≡ state_after (table_step j) ws d t out
    stays h =
        sym (set-get_or t (place_at ws d.read) empty)
        ∙ left_alone (sym (ap (λ (x : EffectAndReport). x.effect) turn_is) ∙ h)
        ∙ (as-table l).1

    pub replaced : (key : ℕ) → key ≡ data1 (get_or ws d.read 0) → (r : Record)
        → r ≡ effected (get_or t i e) s.effect s.after key → set t i r ≡ state_after (table_step j) ws d t out
    replaced key q r f =
        let made_is : r ≡ made = f ∙ rw (own_is, turn_is, q) in
        ap (λ (n : ℕ). set t n r) p ∙ ap (set t (place_at ws d.read)) made_is ∙ (as-table l).1

-- what the loop asks of a step: that it looks at its own packet alone, goes on only with a whole one, and refuses a
-- table
-- that is not whole
module _ (j : Job) (t : List Record) where
  pub step-near : (w : ℕ) (s : List ℕ) → table_step j t (take (size w) (w ∷ s)) ≡ table_step j t (w ∷ s)
  unfolding table_step
  step-near w s = table-near j.rule j.known t w s

  pub step-inside : (w : ℕ) (s : List ℕ) → Inside (w ∷ s) (table_step j t (w ∷ s))
  unfolding table_step
  step-inside w s = table-inside j.rule j.known t w s

  pub step-refuses : (room : ℕ) (s : List ℕ) → eqb (length t) whole_table ≡ false → within (table_step j) (room, t) s ≡
      stopped no_table
  unfolding within table_step table_by
  step-refuses room s e = rw e

-- The line of a call: what one packet's line makes of the text; and the step that lists stores the record as the call
-- with the table does. Assumes nothing.
use Prim.Native.Nat.{ℕ, ◌+◌, ◌-◌, ◌<◌, ◌≤◌}
use mathlib.Core.Path.{◌≡◌, refl, sym, ap, ap₂, ◌∙◌, subst}
use mathlib.Core.Bool.{Bool, true, false, cond}
use mathlib.Core.List.{List, ◌++◌, map}
use native.Mathlib.Omega.{arith}
use native.Mathlib.Nat.{add-zero, zero-add}
use lib.Dec.{leb}
use lib.ListN.{drop, get_or, length, length-append, length-map, replicate, set, take}
use lib.Seq.{sets-eq, take_at}
use borrow.Author.Tests.{le-leb, leb-true}
use Rattle.std.proofs.Common.{Option, None, Some, unwrap_or}
use Rattle.std.proofs.lemmas.Option.{none-some}
use Rattle.ground.specs.Store.{written}
use Rattle.ground.proofs.ListLaws.{get_d_any}
use Rattle.ground.proofs.StoreLaws.{written_none}
use Rattle.ump.specs.Packet.{packet}
use Rattle.ump.proofs.PacketLaws.{at_none, packet-four}
use Rattle.stream.specs.declared.Done.{Done}
use Rattle.stream.specs.Answers.{cut_packet, no_room, sent}
use Rattle.stream.specs.Call.{Call, left_of, refused, sent_of, stopped, went, within}
use Rattle.stream.specs.Report.{counting, further, place_told, placing}
use Rattle.stream.specs.Calls.{next_call}
use Rattle.screen.specs.Screen.{open_rule, screen_by, screened}
use Rattle.channel.specs.declared.Record.{Record}
use Rattle.channel.specs.Record.{empty, sound, whole_table}
use Rattle.flow.specs.declared.AfterAndReport.{AfterAndReport}
use Rattle.effect.specs.Effect.{effected}
use Rattle.ump.specs.Word.{data1}
use Rattle.voice.specs.declared.EffectAndReport.{EffectAndReport}
use Rattle.voice.specs.Packet.{call_by, effect_at, packet_if, packet_up}
use Rattle.voice.specs.Turn.{next, output_of, turned}
use Rattle.voice.proofs.PacketLaws.{effect-at, few-up}
use Rattle.text.specs.Lines.{line_of, place_if_put, with_row}
use Rattle.text.proofs.LineLaws.{line-length}
use Rattle.table.specs.Table.{stored, table_up}
use Rattle.table.proofs.TableLaws.{place_at, table_at, with-table}
use Rattle.flow.specs.Listing.{line_up, list_up, listed, record_turned}

-- the four words that a call is made into, before it
abbrev pub four₀ : List ℕ
four₀ = replicate 4 0

module _ (d : Done) (p text : List ℕ) (r : Record) (x : AfterAndReport Record) (four : List ℕ) where
  -- what the call c at the packet p says of itself and of the four words, and what its line then makes of the text
  abbrev pub Calls : Call Record → Type 0
  Calls c = (x ≡ record_turned (counting sent d.read 0) p four₀ r c) ×
      (four ≡ output_of (counting sent d.read 0) four₀ c)

  abbrev pub Lists : Call Record → AfterAndReport Record → List ℕ → Type 0
  Lists c y text' = (y ≡ record_turned d p text r (listed p c)) × (text' ≡ output_of d text (listed p c))

  abbrev pub Told : ℕ → AfterAndReport Record
  Told n = record { after = x.after; done = placing x.done.answer x.done.place x.done.read n }

  -- what is then told: no room for the line, or the place after it
  abbrev pub Lined : Call Record → Option ℕ → List ℕ → Type 0
  Lined c end text' =
      (end ≡ None → Lists c (record { after = r; done = counting no_room d.read d.written }) text')
      × ((k : ℕ) → end ≡ Some k → Lists c (Told k) text')

  -- a call that goes on: its words stand in the four
  went-four : (a : ℕ) (ws : List ℕ) (v : Record) → length ws ≤ 4 → Calls (went a ws v)
      → (x ≡ record { after = v; done = placing a (place_told a p) (d.read + length p) (length ws) })
      × (four ≡ ws ++ drop (length ws) four₀)
  went-four a ws v f e = rw (le-leb (length ws) 4 f, zero-add (length ws)) at e

  pub four-words : (c : Call Record) → length (sent_of c) ≤ 4 → Calls c
      → (d.read ≤ x.done.read) × (x.done.written ≤ length four) × (x.done.written ≡ length (take x.done.written four))
  four-words (stopped a) f e = rw (e.0, e.1) (omega arith, omega arith, refl)
  four-words (went a ws v) f e =
      let w = went-four a ws v f e in
      rw (w.0, w.1) (
        omega arith,
        omega (arith, length-append ws (drop (length ws) four₀)),
        sym (ap length (take_at ws (drop (length ws) four₀) (length ws) refl)),
      )

  -- a call that stops has no line
  pub line-none : (c : Call Record) → length (sent_of c) ≤ 4 → (length p ≡ 0 → c ≡ stopped cut_packet) → Calls c
      → x.done.read ≡ d.read → Lists c (Told d.written) text
  line-none (stopped a) f z e h = (rw (e.0, add-zero d.written), sym (written_none d.written text))
  line-none (went a ws v) f z e h =
      let g = ap (λ (y : AfterAndReport Record). y.done.read) (went-four a ws v f e).0 in
      let k : length p ≡ 0 = omega arith in
      let q = z k in
      absurd (let y : ◌≡◌ {A = ℕ} 0 1 = cc q in omega arith)

  -- a call that goes on has its line, where there is room for it
  pub line-some : (c : Call Record) (end : Option ℕ) (text' : List ℕ) → length (sent_of c) ≤ 4 → Calls c
      → (x.done.read ≡ d.read → ⊥)
      → let row = line_of x.done.answer (x.done.read - d.read) x.done.place (take x.done.written four) in
      (end ≡ place_if_put text d.written row) × (text' ≡ with_row text d.written row)
      → Lined c end text'
  line-some (stopped a) end text' f e h l =
      absurd (h (ap (λ (y : AfterAndReport Record). y.done.read) e.0 ∙ add-zero d.read))
  line-some (went a ws v) end text' f e h l =
      let w = went-four a ws v f e in
      let n : d.read + length p - d.read ≡ length p = omega arith in
      rw w.0 (go (leb (length line) room) refl
      (rw (w.0, w.1, take_at ws (drop (length ws) four₀) (length ws) refl, n) at l))
    where
      line : List ℕ
      line = line_of a (length p) (place_told a p) ws

      to : ℕ
      to = d.written

      room : ℕ
      room = length text - to

      go : (b : Bool) → leb (length line) room ≡ b
          → (end ≡ cond b (Some (to + length line)) None) × (text' ≡ with_row text to line)
          → (end ≡ None → Lists (went a ws v) (record { after = r; done = counting no_room d.read to }) text')
          × ((k : ℕ) → end ≡ Some k → Lists (went a ws v)
          (record { after = v; done = placing a (place_told a p) (d.read + length p) k }) text')
      go true b m =
          let h = leb-true (length line) room b in
          let q = line-length a (length p) (place_told a p) ws in
          let k = rw b at m.1 in (
            λ z. absurd (none-some _ (sym z ∙ m.0)),
            λ n z. let w : n ≡ to + length line = ap (λ (o : Option ℕ). unwrap_or o 0) (sym z ∙ m.0) in
                rw b (rw w, k ∙ sets-eq line text to (omega (arith, h, q))),
          )
      go false b m =
          let k = rw b at m.1 in (
            λ z. rw b (rw (add-zero d.read, add-zero to), k ∙ sym (written_none to text)),
            λ n z. absurd (none-some _ (sym m.0 ∙ z)),
          )

-- a call with the record that has its effect
pub call-made : (d : Done) (ws four : List ℕ) (r : Record) (x : EffectAndReport) (a : Record)
    → x ≡ turned d (next ws d) four r (effect_at (next ws d)) (packet_up r (next ws d))
    → a ≡ effected r x.effect x.after (data1 (get_or ws d.read 0))
    → record { after = a; done = x.done } ≡ record_turned d (next ws d) four r (packet_up r (next ws d))
call-made d ws four r x a e f =
    ap₂ (λ (u : Record) (v : Done). record { after = u; done = v })
    (f ∙ ap (λ (y : EffectAndReport). effected r y.effect y.after (data1 (get_or ws d.read 0))) e
    ∙ effect-at open_rule (length four - d.written) (sound r) r ws d.read)
    (ap (λ (y : EffectAndReport). y.done) e)

-- the call that the code makes after the report q
pub calls_at : (ws : List ℕ) (d q : Done) (text : List ℕ) (r : Record) (x : AfterAndReport Record) (four : List ℕ)
    → q ≡ counting sent d.read 0
    → (x ≡ record_turned q (next ws q) four₀ r (packet_up r (next ws q)))
    × (four ≡ output_of q four₀ (packet_up r (next ws q)))
    → Calls d (next ws d) text r x four (packet_up r (next ws d))
calls_at ws d q text r x four e h = rw e at h

-- ---- the step

pub up-few : (r : Record) (s : List ℕ) → length (sent_of (packet_up r (packet s))) ≤ 4
up-few r s = few-up open_rule r (packet s) (packet-four s)

pub up-cut : (r : Record) (p : List ℕ) → length p ≡ 0 → packet_up r p ≡ stopped cut_packet
unfolding packet_if screen_by screened refused
up-cut r p h = rw (at_none p h)

listed-stored : (p : List ℕ) (t : List Record) (k : ℕ) (c : Call Record)
    → listed p (stored t k c) ≡ stored t k (listed p c)
listed-stored p t k (went a ws r) = refl
listed-stored p t k (stopped a) = refl

pub up-own : (ws : List ℕ) (t : List Record) (i : ℕ) → length t ≡ whole_table
    → table_up t (drop i ws)
    ≡ stored t (place_at ws i) (packet_up (get_or t (place_at ws i) empty) (packet (drop i ws)))
unfolding call_by
up-own ws t i l = table_at open_rule false ws t i l

pub list-own : (ws : List ℕ) (t : List Record) (i : ℕ) → length t ≡ whole_table
    → list_up t (drop i ws) ≡ stored t (place_at ws i) (line_up (get_or t (place_at ws i) empty) (packet (drop i ws)))
unfolding list_up
list-own ws t i l = rw (up-own ws t i l)
    (listed-stored _ t (place_at ws i) (packet_up (get_or t (place_at ws i) empty) (packet (drop i ws))))

-- a table by value has as many records as its array: what owning it tells is of the list of their values
pub length-mapped : (X Y : Type 0) (f : X → Y) (l : List X) (n : ℕ) → length (map f l) ≡ n → length l ≡ n
length-mapped X Y f l n e = sym (length-map l f) ∙ e

-- the call of the run, at the packet that is next, is that packet's line with its own record
module _ (t : List Record) (ws text : List ℕ) (d : Done) (long : length t ≡ whole_table) where
  abbrev k : ℕ
  k = place_at ws d.read

  abbrev r : Record
  r = get_or t k empty

  abbrev p : List ℕ
  p = next ws d

  abbrev room : ℕ
  room = length text - d.written

  abbrev all : Call (ℕ × List Record)
  all = next_call list_up ws d (length text) t

  abbrev Made : AfterAndReport Record → List Record → List ℕ → Type 0
  Made x t' text' =
      (x.done ≡ further d p all) × (t' ≡ (left_of (room, t) all).1) × (text' ≡ written d.written (sent_of all) text)

  own-made : (x : AfterAndReport Record) (text' : List ℕ)
      → (x ≡ record_turned d p text r (line_up r p)) × (text' ≡ output_of d text (line_up r p))
      → Made x (set t k x.after) text'
  unfolding within
  own-made x text' e =
      let y = with-table room t k p (line_up r p) in
      rw (list-own ws t d.read long, y.0, y.1, y.2, y.3) (
        ap (λ (z : AfterAndReport Record). z.done) e.0,
        ap (λ (z : AfterAndReport Record). set t k z.after) e.0,
        e.1,
      )

  -- the same from what the code says, which reads and stores the record at j
  pub one-made : (j : ℕ) (d₀ : Record) (x : AfterAndReport Record) (text' : List ℕ) → j ≡ k → j < whole_table
      → (x ≡ record_turned d p text (get_or t j d₀) (line_up (get_or t j d₀) p))
      × (text' ≡ output_of d text (line_up (get_or t j d₀) p)) → Made x (set t j x.after) text'
  one-made j d₀ x text' ej h e =
      let same : get_or t j d₀ ≡ r =
      get_d_any t j d₀ empty (subst (λ (l : ℕ). j < l) (sym long) h) ∙ ap (λ (i : ℕ). get_or t i empty) ej in
      let f : (x ≡ record_turned d p text r (line_up r p)) × (text' ≡ output_of d text (line_up r p)) = rw same at e in
      rw ej (own-made x text' f)

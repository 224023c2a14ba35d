-- The number of a packet that goes down: what the screening and the words make of it, and what it says of the report
-- and of the run. Assumes nothing.
use Prim.Native.Nat.{ℕ, zero, suc, ◌+◌, ◌-◌, ◌≤◌, ◌<◌}
use mathlib.Core.Path.{◌≡◌, refl, sym, ap, ◌∙◌}
use mathlib.Core.Bool.{Bool, true, false, cond, not, ◌&&◌}
use mathlib.Core.List.{List, [], ◌∷◌, map}
use native.Mathlib.Omega.{arith}
use native.Mathlib.Nat.{add-zero}
use lib.Dec.{eqb, leb}
use lib.ListN.{drop, get_or, length, length-drop, length-map, length-take, take}
use lib.Seq.{drop-cons, take_all}
use borrow.Author.Tests.{eqb-false, eqb-true, ne_eqb}
use Rattle.ground.proofs.Cases.{by_bool}
use Rattle.ground.proofs.StoreLaws.{written_none}
use Rattle.ump.specs.Word.{channel_of, group_of, message_type, status, voice1, voice2}
use Rattle.ump.specs.Packet.{first, packet, second, size}
use Rattle.ump.proofs.PacketLaws.{packet-whole-at, size-range}
use Rattle.stream.specs.declared.Done.{Done}
use Rattle.stream.specs.Answers.{cut_packet, no_form, no_room, sent}
use Rattle.stream.specs.Call.{Call, refused, sent_of, went}
use Rattle.stream.specs.Report.{counting, place_told, placing}
use Rattle.screen.specs.declared.Rule.{Rule}
use Rattle.screen.specs.Screen.{Screened}
use Rattle.screen.specs.Screen.{goes_on, open_rule, ruled, screen_by, screened}
use Rattle.fields.specs.Check.{good_fields, voice2_fields}
use Rattle.screen.proofs.DownLaws.{unruled-lets, voice2-goes}
use Rattle.screen.proofs.ScreenLaws.{cut-only, screen-place, unruled}
use Rattle.message.specs.Message.{Midi1, read2, write1}
use Rattle.lower.specs.declared.UpToFourWords.{UpToFourWords}
use Rattle.lower.specs.Lower.{lower}
use Rattle.lower.specs.Values.{packed}
use Rattle.lower.proofs.LowerLaws.{lower-few}
use Rattle.voice.specs.Down.{goes_down, none_fit, output_down, refused_down, sent_down, sent_in, words_down}
use Rattle.voice.specs.Output.{sent_words}
use Rattle.voice.specs.Packet.{act_down, packet_down_by, sending_down, speak_down}
use Rattle.voice.specs.Turn.{output_of, report_of, stored_in}
use Rattle.voice.proofs.TurnLaws.{packed-words, passes, refused-output, refused-report, refuses}

-- the words of a MIDI 2.0 voice message, and of any other packet
module _ (p : List ℕ) where
  abbrev ms : List Midi1
  ms = lower (read2 (first p) (second p))

  abbrev written1 : List ℕ
  written1 = map (write1 (group_of (first p)) (channel_of (first p))) ms

  pub voice-words : message_type (first p) ≡ voice2 → words_down p ≡ written1
  unfolding words_down speak_down
  voice-words h = rw h (go ms)
    where
      go : (xs : List Midi1)
          → sent_of (sending_down (group_of (first p)) (channel_of (first p)) xs)
          ≡ map (write1 (group_of (first p)) (channel_of (first p))) xs
      go [] = refl
      go (x ∷ xs) = refl

  pub other-words : (message_type (first p) ≡ voice2 → ⊥) → words_down p ≡ p
  unfolding words_down
  other-words n = rw (ne_eqb (message_type (first p)) voice2 n)

  pub few-written : length written1 ≤ 4
  few-written = omega (
    arith,
    lower-few (read2 (first p) (second p)),
    length-map ms
        (write1 (group_of (first p)) (channel_of (first p))),
  )

  pub few_words : length p ≤ 4 → length (words_down p) ≤ 4
  few_words few =
      by_bool (eqb (message_type (first p)) voice2) (λ e. rw (voice-words (eqb-true (message_type (first p)) voice2 e))
      few-written)
      (λ e. rw (other-words (eqb-false (message_type (first p)) voice2 e)) few)

  -- a packet that goes on sends its words, or has no form where there are none
  act-sends : eqb (length p) 0 ≡ false
      → act_down p ≡ went (cond (eqb (length (words_down p)) 0) no_form sent) (words_down p) tt
  unfolding words_down speak_down
  act-sends some = by_bool (eqb (message_type (first p)) voice2) (λ e. rw e (go ms)) (λ e. rw (e, some))
    where
      go : (xs : List Midi1) → let c = sending_down (group_of (first p)) (channel_of (first p)) xs in
          c ≡ went (cond (eqb (length (sent_of c)) 0) no_form sent) (sent_of c) tt
      go [] = refl
      go (x ∷ xs) =
          rw (ne_eqb (suc (length (map (write1 (group_of (first p)) (channel_of (first p))) xs))) 0
          (λ q. omega (arith, q)))

-- what a function hands back of a packet, and what the output then holds
abbrev pub Sends : Rule → ℕ → List ℕ → List ℕ → ℕ → List ℕ → Type 0
Sends rule to out p r o = (r ≡ sent_down rule (length out - to) p) × (o ≡ output_down rule to out p)

module _ (rule : Rule) (to : ℕ) (out p : List ℕ) where
  pub refused-sends : goes_down rule p ≡ false → Sends rule to out p refused_down out
  refused-sends n = rw n (refl, refl)

  -- up to four words that were stored
  pub stored-sends : goes_down rule p ≡ true → (x : UpToFourWords) → x ≡ packed (words_down p)
      → length (words_down p) ≤ 4
      → (r : ℕ) (o : List ℕ) → r ≡ sent_in (length out - to) (sent_words x) → o ≡ stored_in to out (sent_words x)
      → Sends rule to out p r o
  stored-sends g x e few r o f k =
      let ws : sent_words x ≡ words_down p = ap sent_words e ∙ packed-words (words_down p) few in
      rw g (f ∙ ap (sent_in (length out - to)) ws, k ∙ ap (stored_in to out) ws)

  -- a rule that asks nothing
  pub unruled-sends : ruled rule ≡ false → (r : ℕ) (o : List ℕ) → Sends open_rule to out p r o → Sends rule to out p r o
  unruled-sends e r o s = rw (unruled rule voice1 p e) s

-- no row of up to four words has the number of a refusal
below-refused : (room : ℕ) (ws : List ℕ) → length ws ≤ 4 → sent_in room ws ≡ refused_down → ⊥
below-refused room ws few e = by_bool (leb (length ws) room) (λ l. omega (arith, rw l at e))
    (λ l. omega (arith, rw l at e))

-- What the number says of the report, and of the output.
module _ (rule : Rule) (d : Done) (p out : List ℕ) (some : eqb (length p) 0 ≡ false) (few : length p ≤ 4) where
  abbrev room : ℕ
  room = length out - d.written

  abbrev number : ℕ
  number = sent_down rule room p

  abbrev call : Call (Unit {0})
  call = packet_down_by rule p

  abbrev found : Screened
  found = screen_by rule voice1 p

  abbrev ws : List ℕ
  ws = words_down p

  abbrev answer : ℕ
  answer = cond (eqb (length ws) 0) no_form sent

  acts : goes_down rule p ≡ true → call ≡ went answer ws tt
  unfolding packet_down_by
  acts g = passes {T = Unit {0}} found tt (act_down p) (eqb-true found.answer goes_on g) ∙ act-sends p some

  acts-not : goes_down rule p ≡ false → call ≡ refused found.answer tt
  unfolding packet_down_by
  acts-not n = refuses {T = Unit {0}} found tt (act_down p) (eqb-false found.answer goes_on n)

  pub is-refused : number ≡ refused_down → goes_down rule p ≡ false
  is-refused e =
      by_bool (goes_down rule p) (λ g. absurd (below-refused room ws (few_words p few) (rw g at e))) (λ n. n)

  is-not-refused : (number ≡ refused_down → ⊥) → goes_down rule p ≡ true
  is-not-refused n = by_bool (goes_down rule p) (λ g. g) (λ e. absurd (n (rw e)))

  -- there is room for the words, or there is not
  no_place : (t : Bool) → place_told (cond t no_form sent) p ≡ 0
  no_place true = refl
  no_place false = refl

  in-room : goes_down rule p ≡ true → leb (length ws) room ≡ true
      → counting answer (d.read + length p) (d.written + length ws) ≡ report_of d p out call
  in-room g l =
      rw (acts g, l)
      (ap (λ (x : ℕ). placing answer x (d.read + length p) (d.written + length ws))
      (sym (no_place (eqb (length ws) 0))))

  no_room_lem : goes_down rule p ≡ true → leb (length ws) room ≡ false
      → counting no_room d.read d.written ≡ report_of d p out call
  no_room_lem g l = rw (acts g, l, add-zero d.read, add-zero d.written)

  pub refused-told : number ≡ refused_down
      → placing found.answer found.place (d.read + length p) d.written ≡ report_of d p out call
  refused-told e =
      rw (acts-not (is-refused e), screen-place rule voice1 p)
      (sym (refused-report {T = Unit {0}} d p out tt found.answer (cut-only rule voice1 p)))

  pub none-fit-told : number ≡ none_fit → counting no_room d.read d.written ≡ report_of d p out call
  none-fit-told e =
      let g = is-not-refused (λ r. omega (arith, sym e ∙ r)) in
      by_bool (leb (length ws) room) (λ l. absurd (omega (arith, few_words p few, rw (g, l) at e)))
      (λ l. no_room_lem g l)

  pub sent-told : (number ≡ refused_down → ⊥) → (number ≡ none_fit → ⊥)
      → counting (cond (eqb number 0) no_form sent) (d.read + length p) (d.written + number) ≡ report_of d p out call
  sent-told r n =
      let g = is-not-refused r in
      by_bool (leb (length ws) room) (λ l. let k : number ≡ length ws = rw (g, l) in rw k (in-room g l))
      (λ l. absurd (n (rw (g, l))))

  pub output-told : output_down rule d.written out p ≡ output_of d out call
  output-told =
      by_bool (goes_down rule p)
      (λ g. by_bool (leb (length ws) room) (λ l. rw (g, acts g, l)) (λ l. rw (g, acts g, l)
      (sym (written_none d.written out))))
      (λ n. rw (n, acts-not n) (refused-output {T = Unit {0}} d p out tt found.answer (cut-only rule voice1 p)))

  -- what a run goes on with
  pub goes_further : (number ≡ none_fit → ⊥)
      → (d.read + length p ≡ (report_of d p out call).read)
      × (d.written + cond (eqb number refused_down) 0 number ≡ (report_of d p out call).written)
  goes_further n =
      by_bool (eqb number refused_down)
      (λ e. let t = refused-told (eqb-true number refused_down e) in
      (ap (λ (x : Done). x.read) t, rw (e, add-zero d.written) (ap (λ (x : Done). x.written) t)))
      (λ e. let t = sent-told (eqb-false number refused_down e) n in
      (ap (λ (x : Done). x.read) t, rw e (ap (λ (x : Done). x.written) t)))

-- where there is no packet nothing is read and nothing written
module _ (rule : Rule) (d : Done) (p out : List ℕ) (none : p ≡ []) where
  pub cut-told : counting cut_packet d.read d.written ≡ report_of d p out (packet_down_by rule p)
  unfolding packet_down_by screen_by screened refused
  cut-told = rw (none, add-zero d.read, add-zero d.written)

  pub cut-output : out ≡ output_of d out (packet_down_by rule p)
  unfolding packet_down_by screen_by screened refused
  cut-output = rw none (sym (written_none d.written out))

-- the whole packet that stands at a place of the words, as a part of them of its size n
module _ (words : List ℕ) (i n : ℕ) (e : n ≡ size (get_or words i 0)) (h : i < length words)
    (k : n ≤ length words - i) where
  abbrev part : List ℕ
  part = take (i + n - i) (drop i words)

  part-taken : part ≡ take n (get_or words i 0 ∷ drop (suc i) words)
  part-taken = let z : i + n - i ≡ n = omega arith in rw (z, drop-cons words i 0 h)

  pub part-next : part ≡ packet (drop i words)
  part-next =
      let z : i + n - i ≡ size (get_or words i 0) = omega (arith, e) in
      rw z (sym (packet-whole-at words i h (omega (arith, e, k))))

  pub part_length : length part ≡ n
  part_length = omega (arith, length-take (i + n - i) (drop i words), length-drop i words, k)

  part-first : first part ≡ get_or words i 0
  part-first = rw part-taken (go n (size-range (get_or words i 0)) e)
    where
      go : (m : ℕ) → (1 ≤ size (get_or words i 0)) × (size (get_or words i 0) ≤ 4) → m ≡ size (get_or words i 0)
          → first (take m (get_or words i 0 ∷ drop (suc i) words)) ≡ get_or words i 0
      go zero r q = absurd (omega (arith, r, q))
      go (suc m) r q = refl

  pub part-whole : length part ≡ size (first part)
  part-whole = part_length ∙ e ∙ ap size (sym part-first)

  pub next-length : length (packet (drop i words)) ≡ n
  next-length = ap length (sym part-next) ∙ part_length

  pub next-some : eqb (length (packet (drop i words))) 0 ≡ false
  next-some = ne_eqb (length (packet (drop i words))) 0 (λ q. omega (
    arith,
    next-length,
    q,
    size-range
        (get_or words i 0),
    e,
  ))

-- a part that is the whole
pub whole_part : (p : List ℕ) → take (length p - 0) (drop 0 p) ≡ p
whole_part p = take_all (length p - 0) p (omega arith)

-- a whole packet of MIDI 2.0 voice has two words, and any packet one to four
pub voice-two : (p : List ℕ) → length p ≡ size (first p) → message_type (first p) ≡ voice2 → length p ≡ 2
unfolding size
voice-two p e h = e ∙ rw h

pub two-words : (p : List ℕ) → length p ≡ 2 → p ≡ first p ∷ second p ∷ []
two-words [] h = absurd (omega arith)
two-words (a ∷ []) h = absurd (omega arith)
two-words (a ∷ b ∷ []) h = refl
two-words (a ∷ b ∷ c ∷ s) h = absurd (omega arith)

-- where no rule asks anything a MIDI 2.0 voice message goes on if it is good
pub open-goes : (p : List ℕ) → eqb (length p) 0 ≡ false → message_type (first p) ≡ voice2
    → goes_down open_rule p ≡ (not (eqb (status (first p)) 7) && good_fields (voice2_fields (first p) (second p)))
open-goes p some h = voice2-goes open_rule p some h ∙ rw (unruled-lets open_rule (first p) refl)

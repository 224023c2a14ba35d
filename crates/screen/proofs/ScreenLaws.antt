-- Laws of the screening: a MIDI 1.0 voice message is screened by its one word; only a cut packet is refused by an answer
-- that stops a run; the place goes with the answer; what passes, also under a rule. Assumes nothing.
use mathlib.Core.Path.{◌≡◌, refl, sym, ◌∙◌}
use mathlib.Core.Bool.{Bool, true, false, true≢false, cond, not}
use mathlib.Core.List.{List, [], ◌∷◌}
use Prim.Native.Nat.{ℕ}
use native.Mathlib.Omega.{arith}
use lib.Dec.{eqb, leb}
use lib.ListN.{length}
use borrow.Author.Tests.{eqb-false, eqb-true}
use Rattle.ground.proofs.Bools.{neither_left, neither_right}
use Rattle.ground.proofs.Cases.{by_bool, choose, not-both}
use Rattle.ump.specs.Word.{message_type, voice2}
use Rattle.ump.specs.Packet.{first, second}
use Rattle.ump.proofs.PacketLaws.{at_none}
use Rattle.stream.specs.Answers.{bad_data, bad_status, cut_packet, not_for_room, not_yours, reserved_type, stops_run}
use Rattle.stream.specs.Answers.{taken_in, wrong_protocol}
use Rattle.stream.specs.Call.{Call, refused}
use Rattle.stream.specs.Report.{place_told}
use Rattle.screen.specs.declared.Rule.{Rule}
use Rattle.screen.specs.Screen.{Screened}
use Rattle.fields.specs.Check.{Field, bad_place, bad_place_of, checked_fields, good_fields, good_status, unchanged}
use Rattle.std.specs.Prelude.{Option, Some, None, Ok, Err, is_ok, is_some}
use Rattle.screen.specs.declared.Refusal.{Refusal}
use Rattle.screen.specs.Screen.{beyond, judged, admitted, answering, beginners_rule, check_voice1, checking, for_beginners}
use Rattle.screen.specs.Screen.{fenced_rule, goes_on, outside, reserved, ruled, screen, screen_by, screen_voice1, screened}

-- no packet lies outside where there is no fence
pub unfenced : (fence : Option ℕ) (w : ℕ) → is_some fence ≡ false → beyond fence w ≡ false
unfenced None w e = refl
unfenced (Some groups) w e = absurd (true≢false e)

-- a rule that asks nothing is the open one
pub unruled : (rule : Rule) (wrong : ℕ) (p : List ℕ) → ruled rule ≡ false → screen_by rule wrong p ≡ screen wrong p
unfolding screen_by outside admitted
unruled rule wrong p e =
    rw (neither_left rule.beginners (is_some rule.fence) e, unfenced rule.fence (first p) (neither_right rule.beginners (is_some rule.fence) e))

-- a MIDI 1.0 voice message, going up: by its one word, without a rule and with any
pub screen-voice1 : (w : ℕ) → message_type w ≡ 2 → screen voice2 (w ∷ []) ≡ check_voice1 w
unfolding screen_by outside admitted good_status checked_fields check_voice1
screen-voice1 w h = rw h

pub screen-word : (rule : Rule) (w : ℕ) → message_type w ≡ 2 → screen_voice1 rule w ≡ screen_by rule voice2 (w ∷ [])
unfolding screen_voice1
screen-word rule w h =
    by_bool (ruled rule) (λ e. rw e) (λ e. rw e (sym (screen-voice1 w h) ∙ sym (unruled rule voice2 (w ∷ []) e)))

-- no type that is passed on unchanged is reserved
pub unchanged-free : (t : ℕ) → unchanged t ≡ true → reserved t ≡ false
unchanged-free t h =
    by_bool (eqb t 0) (λ e. rw (eqb-true t 0 e)) (λ a. by_bool (eqb t 1) (λ e. rw (eqb-true t 1 e))
    (λ b. by_bool (eqb t 3) (λ e. rw (eqb-true t 3 e)) (λ c. by_bool (eqb t 5) (λ e. rw (eqb-true t 5 e))
    (λ d. by_bool (eqb t 13) (λ e. rw (eqb-true t 13 e)) (λ f. rw (eqb-true t 15 (rw (a, b, c, d, f) at h)))))))

-- what a good packet is answered with goes on, or is not for this room
admits : (P : ℕ → Type 0) (rule : Rule) (w : ℕ) → P goes_on → P not_for_room → P (admitted rule w)
unfolding admitted
admits P rule w on room =
    choose P rule.beginners (λ _. choose P (for_beginners w) (λ _. on) (λ _. room)) (λ _. on)

-- what holds of every answer of the check holds of it, and so of the screening
checks : (P : Screened → Type 0) (b : Bool) (fs : List Field) (rule : Rule) (w : ℕ) → P (answering bad_status)
    → ((bad_place fs ≡ 0 → ⊥) → P (record { answer = bad_data; place = bad_place fs }))
    → P (answering not_for_room)
    → P (answering goes_on) → P (checking b fs (admitted rule w))
checks P b fs rule w status fields room good =
    choose P (not b) (λ _. status)
    (λ _. choose P (eqb (bad_place fs) 0) (λ _. admits (λ (a : ℕ). P (answering a)) rule w good room)
    (λ e. fields (eqb-false (bad_place fs) 0 e)))

screens : (P : Screened → Type 0) (rule : Rule) (wrong : ℕ) (p : List ℕ) → (p ≡ [] → P (answering cut_packet))
    → P (answering reserved_type) → P (answering wrong_protocol) → P (answering not_yours) → P (answering bad_status)
    → ((bad_place_of p ≡ 0 → ⊥) → P (record { answer = bad_data; place = bad_place_of p }))
    → P (answering not_for_room)
    → P (answering goes_on) → P (screen_by rule wrong p)
unfolding screen_by
screens P rule wrong p none reserved-type protocol fence status fields room good =
    choose P (eqb (length p) 0) (λ e. none (at_none p (eqb-true (length p) 0 e)))
    (λ _. choose P (reserved (message_type (first p))) (λ _. reserved-type)
    (λ _. choose P (eqb (message_type (first p)) wrong) (λ _. protocol)
    (λ _. choose P (outside rule (first p)) (λ _. fence)
    (λ _. checks P (good_status (first p)) (checked_fields (first p) (second p)) rule (first p) status fields room good))))

-- the place goes with the answer
pub screen-place : (rule : Rule) (wrong : ℕ) (p : List ℕ)
    → (screen_by rule wrong p).place ≡ place_told (screen_by rule wrong p).answer p
screen-place rule wrong p =
    screens (λ (s : Screened). s.place ≡ place_told s.answer p) rule wrong p
    (λ _. refl) refl refl refl refl (λ _. refl) refl refl

-- only where no packet is whole does the screening stop a run
pub cut-only : (rule : Rule) (wrong : ℕ) (p : List ℕ) → stops_run (screen_by rule wrong p).answer ≡ true → p ≡ []
cut-only rule wrong p =
    screens (λ (s : Screened). stops_run s.answer ≡ true → p ≡ []) rule wrong p
    (λ e _. e) not-both not-both not-both not-both (λ _. not-both) not-both not-both

-- a refusal is neither `sent` nor `taken_in`
abbrev Above : Screened → Type 0
Above s = (s.answer ≡ goes_on → ⊥) → leb s.answer taken_in ≡ false

pub refused-above : (rule : Rule) (wrong : ℕ) (p : List ℕ) → ((screen_by rule wrong p).answer ≡ goes_on → ⊥)
    → leb (screen_by rule wrong p).answer taken_in ≡ false
refused-above rule wrong p =
    screens Above rule wrong p (λ _ _. refl) (λ _. refl) (λ _. refl) (λ _. refl) (λ _. refl) (λ _ _. refl) (λ _. refl)
    (λ n. absurd (n refl))

-- a packet that goes on is no empty part, nothing is wrong with it, and it lies behind the fence
pub record Passed (rule : Rule) (wrong : ℕ) (p : List ℕ) : Type 0 where
  pub some : eqb (length p) 0 ≡ false
  pub free : reserved (message_type (first p)) ≡ false
  pub right : eqb (message_type (first p)) wrong ≡ false
  pub inside : outside rule (first p) ≡ false
  pub status : good_status (first p) ≡ true
  pub data_fields : good_fields (checked_fields (first p) (second p)) ≡ true

pub passed : (rule : Rule) (wrong : ℕ) (p : List ℕ) → (screen_by rule wrong p).answer ≡ goes_on → Passed rule wrong p
unfolding screen_by
passed rule wrong p =
    go (eqb (length p) 0) (reserved (message_type (first p))) (eqb (message_type (first p)) wrong)
    (outside rule (first p)) (good_status (first p))
    (good_fields (checked_fields (first p) (second p))) refl refl refl refl refl refl
  where
    go : (a b c f d e : Bool) → eqb (length p) 0 ≡ a → reserved (message_type (first p)) ≡ b
        → eqb (message_type (first p)) wrong ≡ c → outside rule (first p) ≡ f
        → good_status (first p) ≡ d → good_fields (checked_fields (first p) (second p)) ≡ e
        → (cond a (answering cut_packet) (cond b (answering reserved_type) (cond c (answering wrong_protocol)
        (cond f (answering not_yours)
        (cond (not d) (answering bad_status)
        (cond e (answering (admitted rule (first p))) (record { answer = bad_data; place = bad_place_of p }))))))
        ).answer ≡ goes_on
        → Passed rule wrong p
    go true b c f d e x y z i v u h = absurd (omega (arith, h))
    go false true c f d e x y z i v u h = absurd (omega (arith, h))
    go false false true f d e x y z i v u h = absurd (omega (arith, h))
    go false false false true d e x y z i v u h = absurd (omega (arith, h))
    go false false false false false e x y z i v u h = absurd (omega (arith, h))
    go false false false false true false x y z i v u h = absurd (omega (arith, h))
    go false false false false true true x y z i v u h =
        record { some = x; free = y; right = z; inside = i; status = v; data_fields = u }

-- under the beginners' rule what is for that room is screened as without a rule; and what is not goes nowhere
pub for-room : (wrong : ℕ) (p : List ℕ) → for_beginners (first p) ≡ true → screen_by beginners_rule wrong p ≡ screen wrong p
unfolding screen_by outside admitted
for-room wrong p e = rw e

pub not-for-room : (wrong : ℕ) (p : List ℕ) → for_beginners (first p) ≡ false
    → (screen_by beginners_rule wrong p).answer ≡ goes_on → ⊥
unfolding screen_by outside admitted
not-for-room wrong p n =
    rw n (choose Refuses (eqb (length p) 0) (λ _. no cut_packet refl)
    (λ _. choose Refuses (reserved (message_type (first p))) (λ _. no reserved_type refl)
    (λ _. choose Refuses (eqb (message_type (first p)) wrong) (λ _. no wrong_protocol refl)
    (λ _. choose Refuses (not (good_status (first p))) (λ _. no bad_status refl)
    (λ _. choose Refuses (eqb (bad_place_of p) 0) (λ _. no not_for_room refl) (λ _. no bad_data refl))))))
  where
    Refuses : Screened → Type 0
    Refuses s = s.answer ≡ goes_on → ⊥

    no : (a : ℕ) → eqb a goes_on ≡ false → a ≡ goes_on → ⊥
    no a e = eqb-false a goes_on e

-- under a fence what lies behind it is screened as without a rule; and what does not goes nowhere
pub behind-fence : (groups wrong : ℕ) (p : List ℕ) → outside (fenced_rule groups) (first p) ≡ false
    → screen_by (fenced_rule groups) wrong p ≡ screen wrong p
unfolding screen_by admitted outside
behind-fence groups wrong p e = rw e

pub outside-fence : (rule : Rule) (wrong : ℕ) (p : List ℕ) → outside rule (first p) ≡ true
    → (screen_by rule wrong p).answer ≡ goes_on → ⊥
outside-fence rule wrong p e f = true≢false (sym e ∙ (passed rule wrong p f).inside)

-- a screened call is the act, or one refusal
pub screened-cases : {T : Type 0} (P : Call T → Type 0) (s : Screened) (t : T) (act : Call T)
    → (s.answer ≡ goes_on → P act)
    → ((s.answer ≡ goes_on → ⊥) → P (refused s.answer t)) → P (screened s t act)
unfolding screened
screened-cases P s t act f g =
    choose P (eqb s.answer goes_on) (λ e. f (eqb-true s.answer goes_on e)) (λ e. g (eqb-false s.answer goes_on e))

pub screened-cond : {T : Type 0} (s : Screened) (t : T) (b : Bool) (x y : Call T)
    → screened s t (cond b x y) ≡ cond b (screened s t x) (screened s t y)
screened-cond s t true x y = refl
screened-cond s t false x y = refl

-- a screening as a result, by whether the packet goes on
pub judged-good : (s : Screened) → eqb s.answer goes_on ≡ true → judged s ≡ Ok tt
judged-good s e = rw e

pub judged-bad : (s : Screened) → eqb s.answer goes_on ≡ false
    → judged s ≡ Err (record { answer = s.answer; place = s.place })
judged-bad s e = rw e

-- and what a result says of the screening that it is of
pub judged-ok : (s : Screened) → judged s ≡ Ok tt → s.answer ≡ goes_on
judged-ok s h = by_bool (eqb s.answer goes_on) (λ e. eqb-true s.answer goes_on e)
    (λ e. let bad = sym h ∙ judged-bad s e in absurd (cc bad))

pub judged-err : (s : Screened) (x : Refusal) → judged s ≡ Err x
    → (s.answer ≡ goes_on → ⊥) × ((x.answer ≡ s.answer) × (x.place ≡ s.place))
judged-err s x h = by_bool (eqb s.answer goes_on)
    (λ e. let good = sym h ∙ judged-good s e in absurd (cc good))
    (λ e. let bad = sym h ∙ judged-bad s e in
    let answer : x.answer ≡ s.answer = cc bad in
    let place : x.place ≡ s.place = cc bad in
    (eqb-false s.answer goes_on e, (answer, place)))

pub judged-is_ok : (s : Screened) → is_ok (judged s) ≡ eqb s.answer goes_on
judged-is_ok s = by_bool (eqb s.answer goes_on) (λ e. rw e) (λ e. rw e)

-- The coarse mark: data entry on a marked channel, that each mark stays, and the call that sets it. Assumes nothing.
use Prim.Native.Nat.{ℕ, ◌+◌, ◌*◌, ◌%◌, ◌^◌}
use mathlib.Core.Path.{◌≡◌, refl, sym, ◌∙◌}
use mathlib.Core.Bool.{true, true≢false}
use mathlib.Core.List.{List}
use native.Mathlib.Omega.{arith}
use lib.Dec.{eqb}
use lib.ListN.{get_or, length, length-set, set}
use lib.Seq.{get_or-set_other, get_or-set_same, set-get_or}
use borrow.Author.Tests.{eqb-false}
use Rattle.ground.proofs.Cases.{by_bool, choose}
use Rattle.ump.specs.Word.{message_type, place_of, voice1, voice2}
use Rattle.ump.specs.Packet.{first, packet}
use Rattle.stream.specs.Answers.{answered, no_table, not_sound, out_of_range}
use Rattle.memory.specs.declared.Memory.{Memory}
use Rattle.memory.specs.Memory.{address_open, data_high_present, marked, sound, with_data_high}
use Rattle.memory.proofs.Sound.{data-unmarked, proved-stays-sound}
use Rattle.screen.specs.Screen.{goes_on, open_rule, screen}
use Rattle.channel.specs.declared.Record.{Record}
use Rattle.channel.specs.Record.{EmptyButMarks, empty, whole_table, with_mark}
use Rattle.channel.specs.Record as Channel
use Rattle.message.specs.Message.{read1}
use Rattle.lift.specs.Lift.{control_of, controlled, data_high, data_low, lift}
use Rattle.lift.specs.Played.{record_after}
use Rattle.lift.proofs.LiftLaws.{lift-marks}
use Rattle.table.specs.Table.{SoundTable, one_up, run_up}
use Rattle.table.proofs.KeptLaws.{at_set, one-keeps, run-keeps}
use Rattle.question.specs.Question.{in_range, place_asked}
use Rattle.mark.specs.Mark.{mark_answer, named, record_of, table_marked}
use Rattle.mark.proofs.LessonLaws.{Bare, bare}
use Rattle.mark.proofs.PlaceLaws.{named-inside}
use Rattle.stream.specs.Cases.{numbered}
use Rattle.claims.specs.Marks.{Coarsely, Marks, Setting, cases_mark, mark_on}

coarsely : (r : Memory) → sound r ≡ true → marked r ≡ true → Coarsely r
unfolding lift control_of controlled data_high data_low with_data_high
coarsely r ok m =
    record {
      at_6 = λ v h.
          let low : (v * 2 ^ 7 + 0) % 2 ^ 14 ≡ v * 2 ^ 7 = omega (arith, h) in
          by_bool (address_open r) (λ o. rw (m, o, low)) (λ o. rw (m, o));
      at_38 = λ v.
          by_bool (data_high_present r) (λ p. absurd (true≢false (sym m ∙ data-unmarked r ok p))) (λ p. rw p);
    }

-- the marks of a table at their places
module _ (t : List Record) where
  abbrev Same : ℕ → Record → Type 0
  Same k r = r.memory.coarse ≡ mark_on t k

  same_after : (k : ℕ) (r : Record) (s : List ℕ) → k ≡ place_of (first s) → (screen voice2 (packet s)).answer ≡ goes_on
      → eqb (message_type (first (packet s))) voice1 ≡ true
      → sound r.memory ≡ true → Same k r → Same k (record_after r (read1 (first (packet s))))
  same_after k r s _ _ _ _ h = lift-marks r.memory (read1 (first (packet s))) ∙ h

-- the setting call, by whether a record is named and whether it is sound
module _ (t : List Record) (group channel : ℕ) where
  abbrev own : Record
  own = record_of t group channel

  answers : mark_answer t group channel ≡ numbered (cases_mark t group channel)
  unfolding mark_answer
  answers =
      by_bool (eqb (length t) whole_table)
      (λ e. by_bool (in_range group channel)
      (λ f. by_bool (Channel.sound own) (λ h. rw (e, f, h)) (λ h. rw (e, f, h))) (λ f. rw (e, f)))
      (λ e. rw e)

  -- an answer of 0 is that of a sound record that is named
  given : mark_answer t group channel ≡ answered → (named (length t) group channel ≡ true) × (Channel.sound own ≡ true)
  unfolding mark_answer
  given =
      by_bool (eqb (length t) whole_table)
      (λ e. by_bool (in_range group channel)
      (λ f. by_bool (Channel.sound own) (λ h _. (rw (e, f), h)) (λ h a. absurd (eqb-false not_sound answered refl (rw (e, f, h) at a))))
      (λ f a. absurd (eqb-false out_of_range answered refl (rw (e, f) at a))))
      (λ e a. absurd (eqb-false no_table answered refl (rw e at a)))

  -- and then the record is replaced; else the table stays
  module _ (coarse : ℕ) where
    abbrev after : List Record
    after = table_marked t group channel coarse

    by_answer : (P : List Record → Type 0) → (Channel.sound own ≡ true → P (set t (place_asked group channel) (with_mark own coarse)))
        → P t
        → P after
    unfolding table_marked
    by_answer P replaced same =
        choose P (named (length t) group channel)
        (λ _. by_bool (Channel.sound own) (λ h. rw h (replaced h))
        (λ h. rw (h, set-get_or t (place_asked group channel) empty) same)) (λ _. same)

    refused : (mark_answer t group channel ≡ answered → ⊥) → after ≡ t
    unfolding mark_answer table_marked
    refused n =
        by_bool (named (length t) group channel)
        (λ e. by_bool (Channel.sound own) (λ h. absurd (n (rw (e, h))))
        (λ h. rw (e, h) (set-get_or t (place_asked group channel) empty))) (λ e. rw e)

    marks : mark_answer t group channel ≡ answered → record_of after group channel ≡ with_mark own coarse
    unfolding table_marked
    marks a =
        let g = given a in
        rw (g.0, g.1)
        (get_or-set_same t (place_asked group channel) (with_mark own coarse) empty
        (named-inside (length t) group channel g.0))

    others : (k : ℕ) → (k ≡ place_asked group channel → ⊥) → get_or after k empty ≡ get_or t k empty
    others k n =
        by_answer (λ (u : List Record). get_or u k empty ≡ get_or t k empty)
        (λ _. get_or-set_other t (place_asked group channel) k (with_mark own coarse) empty n) refl

    long : length after ≡ length t
    long =
        by_answer (λ (u : List Record). length u ≡ length t)
        (λ _. length-set t (place_asked group channel) (with_mark own coarse)) refl

    sounds : SoundTable t → SoundTable after
    sounds h =
        by_answer SoundTable
        (λ ok. at_set (λ _ (r : Record). Channel.sound r ≡ true) t (place_asked group channel) (with_mark own coarse)
        (proved-stays-sound.mark own.memory coarse ok) h) h

    empties : EmptyButMarks t → EmptyButMarks after
    empties m =
        record {
          whole = long ∙ m.whole;
          each =
              by_answer (λ (u : List Record). (k : ℕ) → Bare (get_or u k empty))
              (λ _. at_set (λ _. Bare) t (place_asked group channel) (with_mark own coarse)
              (rw (m.each (place_asked group channel)) (bare coarse)) m.each) m.each;
        }

setting : Setting
setting =
    record {
      answers = answers;
      refused = refused;
      marks = marks;
      others = others;
      table = long;
      sounds = sounds;
      empties = empties;
    }

pub proved-marks : Marks
unfolding one_up run_up
proved-marks =
    record {
      coarsely = coarsely;
      messages = lift-marks;
      calls = λ room t s.
          one-keeps open_rule (Same t) (λ _. Unit {0}) tt tt tt (λ _ _ _ _. tt) (same_after t) room t s (λ _. refl);
      runs = λ room t s.
          (run-keeps open_rule (Same t) (λ _. Unit {0}) tt tt tt (λ _ _ _ _. tt) (same_after t) tt room t s (λ _. refl)).0;
      setting = setting;
    }

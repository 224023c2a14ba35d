-- Records stay sound: each message keeps its record sound, so no call meets one that is not. Assumes nothing.
use Prim.Native.Nat.{ℕ}
use mathlib.Core.Path.{◌≡◌, refl, sym, ◌∙◌}
use mathlib.Core.Bool.{true, false}
use mathlib.Core.List.{List}
use lib.Dec.{eqb}
use borrow.Author.Tests.{eqb-false}
use Rattle.ground.proofs.Cases.{not-both}
use Rattle.ump.specs.Word.{message_type, place_of, voice1, voice2}
use Rattle.ump.specs.Packet.{cut, first, packet}
use Rattle.stream.specs.Answers.{cut_packet, no_room, no_table, not_sound, sent}
use Rattle.stream.specs.Call.{Call, stopped, went}
use Rattle.screen.specs.Screen.{goes_on, open_rule, screen}
use Rattle.channel.specs.declared.Record.{Record}
use Rattle.channel.specs.Record.{fresh, sound}
use Rattle.message.specs.Message.{read1}
use Rattle.lift.specs.Played.{record_after}
use Rattle.lift.proofs.LiftLaws.{lift-sound, read1-fits}
use Rattle.table.specs.Table.{SoundTable, one_up, run_up, table_after}
use Rattle.table.proofs.KeptLaws.{Keeps, calls-keep, fresh_unmarked, marked-sound, one-keeps, run-keeps}
use Rattle.claims.specs.Soundness.{SoundFrom, Soundly, Soundness}

abbrev Sound : ℕ → Record → Type 0
Sound k r = sound r ≡ true

abbrev NotEight : ℕ → Type 0
NotEight a = a ≡ not_sound → ⊥

unmet : (k : ℕ) (r : Record) → Sound k r → sound r ≡ false → NotEight not_sound
unmet k r ok n = not-both (sym n ∙ ok)

stays : (k : ℕ) (r : Record) (s : List ℕ) → k ≡ place_of (first s) → (screen voice2 (packet s)).answer ≡ goes_on
    → eqb (message_type (first (packet s))) voice1 ≡ true
    → sound r ≡ true → Sound k r → Sound k (record_after r (read1 (first (packet s))))
stays k r s _ _ _ _ ok = lift-sound r.memory ok (read1 (first (packet s))) (read1-fits (first (packet s)))

soundly : (c : Call (ℕ × List Record)) → Keeps Sound NotEight c → Soundly c
soundly (went a ws u) d = d
soundly (stopped a) d = d

-- the laws of what is kept, for soundness
module _ (t : List Record) (h : SoundTable t) where
  abbrev three : NotEight cut_packet
  three = eqb-false cut_packet not_sound refl

  abbrev nine : NotEight no_room
  nine = eqb-false no_room not_sound refl

  abbrev ten : NotEight no_table
  ten = eqb-false no_table not_sound refl

  after_run : (room : ℕ) (s : List ℕ)
      → SoundTable (table_after (run_up room t s)) × NotEight (run_up room t s).answer
  unfolding run_up
  after_run room s = run-keeps open_rule Sound NotEight three nine ten unmet stays (eqb-false sent not_sound refl) room t s h

  sound-from : SoundFrom t
  unfolding one_up run_up
  sound-from =
      record {
        packets = λ room s. calls-keep open_rule Sound NotEight three nine ten unmet stays Soundly soundly (cut s) (room, t) h;
        call_leaves = λ room s. one-keeps open_rule Sound NotEight three nine ten unmet stays room t s h;
        run_leaves = λ room s. (after_run room s).0;
        run_answers = λ room s. (after_run room s).1;
      }

pub proved-soundness : Soundness
proved-soundness =
    record {
      sounds = sound-from;
      marked = λ t m. sound-from t (marked-sound t m);
      at_fresh = sound-from fresh (marked-sound fresh fresh_unmarked);
    }

-- A call tells a place exactly with answer 7: only a bad field gives it. Assumes nothing.
use Prim.Native.Nat.{ℕ}
use mathlib.Core.Path.{◌≡◌, refl, sym, ◌∙◌}
use mathlib.Core.Bool.{Bool, true, false, true≢false, not, ◌&&◌}
use mathlib.Core.List.{List, [], ◌∷◌}
use native.Mathlib.Omega.{arith}
use lib.Dec.{eqb, ltb}
use lib.ListN.{get_or, length}
use borrow.Author.Tests.{ne_eqb}
use Rattle.ump.specs.Word.{message_type, place_of, voice1, voice2}
use Rattle.ump.specs.Packet.{first, packet, second}
use Rattle.fields.specs.Check.{bad_place_of, good_status}
use Rattle.fields.proofs.CheckLaws.{all-good, is-first}
use Rattle.stream.specs.Answers.{bad_data, bad_status, cut_packet, no_form, no_room, no_table, not_sound, reserved_type}
use Rattle.stream.specs.Answers.{taken_in, wrong_protocol}
use Rattle.stream.specs.Call.{Call, answer_of, sent_of, within}
use Rattle.screen.specs.Screen.{reserved}
use Rattle.channel.specs.declared.Record.{Record}
use Rattle.channel.specs.Record.{empty, sound, whole_table}
use Rattle.message.specs.Message.{read2}
use Rattle.lower.specs.Lower.{lower}
use Rattle.voice.specs.Packet.{call_down}
use Rattle.table.specs.Table.{table_up}
use Rattle.claims.specs.Places.{PlaceTold, Places}
use Rattle.stream.specs.Cases.{case, numbered}
use Rattle.claims.proofs.RefusalLaws.{proved-refusals}

told : {T : Type 0} (p : List ℕ) (c : Call T) → (answer_of c ≡ bad_data → bad_place_of p ≡ 0 → ⊥) → PlaceTold p c
told p c h =
    record {
      with_7 = λ e. (rw e, h e);
      without = λ n. rw (ne_eqb (answer_of c) bad_data n);
    }

-- among the cases of a call only that of bad data has its answer
only-up : (a b c d e f g h i : Bool)
    → numbered (case no_table a ∷ case cut_packet b ∷ case reserved_type c ∷ case wrong_protocol d ∷ case bad_status e
    ∷ case bad_data f ∷ case not_sound g ∷ case no_room h ∷ case taken_in i ∷ []) ≡ bad_data → f ≡ true
only-up true b c d e f g h i z = absurd (omega (arith, z))
only-up false true c d e f g h i z = absurd (omega (arith, z))
only-up false false true d e f g h i z = absurd (omega (arith, z))
only-up false false false true e f g h i z = absurd (omega (arith, z))
only-up false false false false true f g h i z = absurd (omega (arith, z))
only-up false false false false false true g h i z = refl
only-up false false false false false false true h i z = absurd (omega (arith, z))
only-up false false false false false false false true i z = absurd (omega (arith, z))
only-up false false false false false false false false true z = absurd (omega (arith, z))
only-up false false false false false false false false false z = absurd (omega (arith, z))

only-down : (b c d e f g h : Bool)
    → numbered (case cut_packet b ∷ case reserved_type c ∷ case wrong_protocol d ∷ case bad_status e ∷ case bad_data f
    ∷ case no_form g ∷ case no_room h ∷ []) ≡ bad_data → f ≡ true
only-down true c d e f g h z = absurd (omega (arith, z))
only-down false true d e f g h z = absurd (omega (arith, z))
only-down false false true e f g h z = absurd (omega (arith, z))
only-down false false false true f g h z = absurd (omega (arith, z))
only-down false false false false true g h z = refl
only-down false false false false false true h z = absurd (omega (arith, z))
only-down false false false false false false true z = absurd (omega (arith, z))
only-down false false false false false false false z = absurd (omega (arith, z))

-- so the packet has a bad field
bad : (n : ℕ) → not (eqb n 0) ≡ true → n ≡ 0 → ⊥
bad n h e = true≢false (sym h ∙ rw e)

up-bad : (room : ℕ) (t : List Record) (s : List ℕ) → answer_of (within table_up (room, t) s) ≡ bad_data
    → bad_place_of (packet s) ≡ 0 → ⊥
up-bad room t s z =
    let p = packet s in
    bad (bad_place_of p)
    (only-up (not (eqb (length t) whole_table)) (eqb (length p) 0) (reserved (message_type (first p)))
    (eqb (message_type (first p)) voice2) (not (good_status (first p))) (not (eqb (bad_place_of p) 0))
    (eqb (message_type (first p)) voice1 && not (sound (get_or t (place_of (first s)) empty)))
    (ltb room (length (sent_of (table_up t s)))) (eqb (length (sent_of (table_up t s))) 0)
    (sym (proved-refusals.up room t s) ∙ z))

down-bad : (room : ℕ) (s : List ℕ) → answer_of (within call_down (room, tt) s) ≡ bad_data → bad_place_of (packet s) ≡ 0 → ⊥
down-bad room s z =
    let p = packet s in
    bad (bad_place_of p)
    (only-down (eqb (length p) 0) (reserved (message_type (first p))) (eqb (message_type (first p)) voice1)
    (not (good_status (first p))) (not (eqb (bad_place_of p) 0))
    (eqb (message_type (first p)) voice2 && eqb (length (lower (read2 (first p) (second p)))) 0)
    (ltb room (length (sent_of (call_down tt s)))) (sym (proved-refusals.down room s) ∙ z))

pub proved-places : Places
proved-places =
    record {
      first_bad = is-first;
      none_bad = all-good;
      up = λ room t s. told (packet s) (within table_up (room, t) s) (up-bad room t s);
      down = λ room s. told (packet s) (within call_down (room, tt) s) (down-bad room s);
    }

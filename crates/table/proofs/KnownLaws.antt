-- Over a table of sound records: whether they are asked or known makes no difference, and a run finishes, is cut or
-- lacks
-- room. Assumes nothing.
use Prim.Native.Nat.{ℕ}
use mathlib.Core.Path.{◌≡◌, refl, sym, ◌∙◌}
use mathlib.Core.Bool.{true}
use mathlib.Core.List.{List, [], ◌∷◌}
use lib.ListN.{get_or, length, length-set, set}
use borrow.Author.Tests.{eq-eqb}
use Rattle.ground.proofs.Cases.{not-both}
use Rattle.ump.specs.Word.{place_of}
use Rattle.ump.specs.Packet.{cut, first, packet}
use Rattle.stream.specs.Answers.{cut_packet, no_room, sent}
use Rattle.stream.specs.Call.{Call, stopped, went, within}
use Rattle.stream.specs.Run.{run, then_run}
use Rattle.stream.proofs.RunLaws.{Does, run-does, within-does}
use Rattle.screen.specs.Screen.{open_rule}
use Rattle.channel.specs.declared.Record.{Record}
use Rattle.channel.specs.Record.{empty, sound, whole_table}
use Rattle.message.specs.Message.{read1}
use Rattle.lift.specs.Played.{record_after}
use Rattle.lift.proofs.LiftLaws.{lift-sound, read1-fits}
use Rattle.voice.specs.Packet.{call_by, call_up}
use Rattle.voice.proofs.PacketLaws.{up-does}
use Rattle.table.specs.Table.{SoundTable, run_by, run_up, stored, table_by, table_up}
use Rattle.table.proofs.KeptLaws.{at_set}

-- a whole table of sound records, which each call keeps
abbrev pub Good : List Record → Type 0
Good t = SoundTable t × (length t ≡ whole_table)

module _ (A : ℕ → Type 0) (three : A cut_packet) where
  stops : (t : List Record) (s : List ℕ) → Good t → Does Good A (table_up t s)
  unfolding table_by call_by
  stops t s good =
      rw (eq-eqb (length t) whole_table good.1)
      (go (call_up r s)
      (up-does (λ (x : Record). Good (set t k x)) A open_rule r (packet s) (keep r (good.0 k)) three
      (λ n. not-both (sym n ∙ good.0 k))
      (λ _ _ ok. keep (record_after r (read1 (first (packet s)))) (lift-sound r.memory ok _ (read1-fits (first (packet
      s)))))))
    where
      k : ℕ
      k = place_of (first s)

      r : Record
      r = get_or t k empty

      keep : (x : Record) → sound x ≡ true → Good (set t k x)
      keep x e = (at_set (λ _ (y : Record). sound y ≡ true) t k x e good.0, length-set t k x ∙ good.1)

      go : (c : Call Record) → Does (λ (x : Record). Good (set t k x)) A c → Does Good A (stored t k c)
      go (went a ws u) d = d
      go (stopped a) d = d

  within-stops : A no_room → (u : ℕ × List Record) (s : List ℕ) → Good u.1
      → Does (λ (v : ℕ × List Record). Good v.1) A (within table_up u s)
  within-stops nine u s good = within-does table_up Good A nine u s (stops u.1 s good)

  -- what holds of 0, 3 and 9 holds of the answer of a run
  pub three-answers : A no_room → A sent → (room : ℕ) (t : List Record) (s : List ℕ) → Good t → A (run_up room t s
      ).answer
  unfolding run_up
  three-answers nine ended room t s good =
      rw (eq-eqb (length t) whole_table good.1)
      (run-does (within table_up) (λ (v : ℕ × List Record). Good v.1) A ended (within-stops nine) (cut s) (room, t)
      good
      ).1

-- one call over known records is one over records that are asked
same-call : (t : List Record) (s : List ℕ) → SoundTable t → table_by open_rule true t s ≡ table_up t s
unfolding table_by call_by
same-call t s h = rw (h (place_of (first s)))

-- and so is a run
same-run : (ps : List (List ℕ)) (u : ℕ × List Record) → Good u.1
    → run (within (table_by open_rule true)) u ps ≡ run (within table_up) u ps
unfolding run within
same-run [] u good = refl
same-run (p ∷ ps) u good =
    rw (same-call u.1 p good.0)
    (go (within table_up u p) (within-stops (λ _. Unit {0}) tt tt u p good) (λ v. same-run ps v))
  where
    go : (c : Call (ℕ × List Record)) → Does (λ (v : ℕ × List Record). Good v.1) (λ _. Unit {0}) c
        → ((v : ℕ × List Record) → Good v.1 → run (within (table_by open_rule true)) v ps ≡ run (within table_up) v ps)
        → then_run p u c (λ v. run (within (table_by open_rule true)) v ps)
        ≡ then_run p u c (λ v. run (within table_up) v
        ps)
    go (went a ws v) d ih = rw (ih v d)
    go (stopped a) d ih = refl

pub known-run : (room : ℕ) (t : List Record) (s : List ℕ) → Good t
    → run_by (table_by open_rule true) room t s ≡ run_up room
    t s
unfolding run_up
known-run room t s good = rw (same-run (cut s) (room, t) good)

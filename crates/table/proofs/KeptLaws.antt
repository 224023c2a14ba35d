-- What holds of every record of a table, and what calls and runs keep of it. Assumes nothing.
use Prim.Native.Nat.{ℕ, zero, suc}
use mathlib.Core.Path.{◌≡◌, refl}
use mathlib.Core.Bool.{true, false}
use mathlib.Core.List.{List, [], ◌∷◌}
use lib.Dec.{eqb}
use lib.ListN.{get_or, length, length-replicate, replicate, set}
use Rattle.ground.specs.Lists.{All}
use Rattle.ground.proofs.Cases.{choose}
use Rattle.ump.specs.Word.{message_type, place_of, voice1, voice2}
use Rattle.ump.specs.Packet.{cut, first, packet}
use Rattle.stream.specs.Answers.{cut_packet, no_room, no_table, not_sound, sent}
use Rattle.stream.specs.Call.{Call, stopped, went, within}
use Rattle.stream.specs.Claims.{Made, calls, then_calls}
use Rattle.stream.specs.Run.{Ran}
use Rattle.stream.proofs.RunLaws.{Does, does-left, run-does, within-does}
use Rattle.screen.specs.declared.Rule.{Rule}
use Rattle.screen.specs.Screen.{goes_on, screen_by}
use Rattle.channel.specs.declared.Record.{Record}
use Rattle.channel.specs.Record.{EmptyButMarks, empty, fresh, sound, whole_table}
use Rattle.memory.proofs.Sound.{proved-stays-sound}
use Rattle.message.specs.Message.{read1}
use Rattle.lift.specs.Played.{record_after}
use Rattle.voice.specs.Packet.{call_by}
use Rattle.voice.proofs.PacketLaws.{up-does}
use Rattle.table.specs.Table.{SoundTable, one_by, run_by, stored, table_after, table_by}

-- what holds of each record at its place, and of one that replaces one
pub at_set : (P : ℕ → Record → Type 0) (t : List Record) (k : ℕ) (r : Record) → P k r
    → ((j : ℕ) → P j (get_or t j empty))
    → (j : ℕ) → P j (get_or (set t k r) j empty)
at_set P [] k r p h j = h j
at_set P (x ∷ t) zero r p h zero = p
at_set P (x ∷ t) zero r p h (suc j) = h (suc j)
at_set P (x ∷ t) (suc k) r p h zero = h zero
at_set P (x ∷ t) (suc k) r p h (suc j) = at_set (λ (i : ℕ). P (suc i)) t k r p (λ i. h (suc i)) j

-- a fresh table is empty, and has no marks; and with any marks it is sound
pub all-empty : (n j : ℕ) → get_or (replicate n empty) j empty ≡ empty
all-empty zero j = refl
all-empty (suc n) zero = refl
all-empty (suc n) (suc j) = all-empty n j

pub fresh_unmarked : EmptyButMarks fresh
fresh_unmarked =
    record { whole = length-replicate whole_table empty; each = λ k. rw (all-empty whole_table k) }

pub marked-sound : (t : List Record) → EmptyButMarks t → SoundTable t
marked-sound t m k =
    rw (m.each k) (proved-stays-sound.mark empty.memory
    (get_or t k empty).memory.coarse proved-stays-sound.at_start_lem)

-- what a call with the table leaves, if it goes on, and what it stops with, by what the call with the packet's own
-- record does
pub table_does : (I : List Record → Type 0) (A : ℕ → Type 0) (rule : Rule) (t : List Record) (s : List ℕ) → A no_table
    → Does (λ (x : Record). I (set t (place_of (first s)) x)) A
    (call_by rule false (get_or t (place_of (first s)) empty) s)
    → Does I A (table_by rule false t s)
unfolding table_by
table_does I A rule t s ten d =
    choose (Does I A) (eqb (length t) whole_table)
    (λ _. go (call_by rule false (get_or t (place_of (first s)) empty) s) d) (λ _. ten)
  where
    go : (c : Call Record) → Does (λ (x : Record). I (set t (place_of (first s)) x)) A c
        → Does I A (stored t (place_of (first s)) c)
    go (went a ws u) d = d
    go (stopped a) d = d

-- of every record of a table, at its place; and of what a call leaves, if it goes on, and what it stops with
abbrev pub Each : (ℕ → Record → Type 0) → List Record → Type 0
Each P t = (k : ℕ) → P k (get_or t k empty)

abbrev pub Keeps : (ℕ → Record → Type 0) → (ℕ → Type 0) → Call (ℕ × List Record) → Type 0
Keeps P A = Does (λ (u : ℕ × List Record). Each P u.1) A

-- What every message that passes a rule keeps of a record at its place, each call and each run under it keeps of the
-- table. They stop with 3, 9 and 10, and with 8 only at a record that is not sound.
module _
    (rule : Rule)
    (P : ℕ → Record → Type 0)
    (A : ℕ → Type 0)
    (three : A cut_packet)
    (nine : A no_room)
    (ten : A no_table)
    (eight : (k : ℕ) (r : Record) → P k r → sound r ≡ false → A not_sound)
    (kept : (k : ℕ) (r : Record) (s : List ℕ) → k ≡ place_of (first s)
    → (screen_by rule voice2 (packet s)).answer ≡ goes_on
    → eqb (message_type (first (packet s))) voice1 ≡ true
    → sound r ≡ true → P k r → P k (record_after r (read1 (first (packet s)))))
  where
    abbrev step : List Record → List ℕ → Call (List Record)
    step = table_by rule false

    pub call-keeps : (u : ℕ × List Record) (s : List ℕ) → Each P u.1 → Keeps P A (within step u s)
    unfolding call_by
    call-keeps u s h =
        within-does step (Each P) A nine u s
        (table_does (Each P) A rule t s ten
        (up-does (λ (x : Record). Each P (set t k x)) A rule r (packet s) (keep r (h k)) three (eight k r (h k))
        (λ f v ok. keep _ (kept k r s refl f v ok (h k)))))
      where
        t : List Record
        t = u.1

        k : ℕ
        k = place_of (first s)

        r : Record
        r = get_or t k empty

        keep : (x : Record) → P k x → Each P (set t k x)
        keep x e = at_set P t k x e h

    -- so do all calls of a run, said in any words
    pub calls-keep : (Q : Call (ℕ × List Record) → Type 0) → ((c : Call (ℕ × List Record)) → Keeps P A c → Q c)
        → (ps : List (List ℕ)) (u : ℕ × List Record) → Each P u.1
        → All (λ (m : Made (ℕ × List Record)). Q m.call) (calls (within step) u ps)
    unfolding calls
    calls-keep Q said [] u h = tt
    calls-keep Q said (p ∷ ps) u h =
        let d = call-keeps u p h in
        (said (within step u p) d, go (λ v. calls-keep Q said ps v) (within step u p) d)
      where
        go : ((v : ℕ × List Record) → Each P v.1
            → All (λ (m : Made (ℕ × List Record)). Q m.call) (calls (within step) v ps)) → (c : Call (ℕ × List
            Record))
            → Keeps P A c
            → All (λ (m : Made (ℕ × List Record)). Q m.call) (then_calls c (λ v. calls (within step) v ps))
        go ih (went a ws v) d = ih v d
        go ih (stopped a) d = tt

    -- the table after one call
    pub one-keeps : (room : ℕ) (t : List Record) (s : List ℕ) → Each P t → Each P (table_after (one_by step room t s))
    one-keeps room t s h =
        does-left (λ (u : ℕ × List Record). Each P u.1) A (room, t) (within step (room, t) s) h
        (call-keeps (room, t) s h)

    -- the table after a run, and its answer
    pub run-keeps : A sent → (room : ℕ) (t : List Record) (s : List ℕ) → Each P t
        → Each P (table_after (run_by step room t s)) × A (run_by step room t s).answer
    run-keeps ended room t s h =
        choose (λ (r : Ran (ℕ × List Record)). Each P (table_after r) × A r.answer) (eqb (length t) whole_table)
        (λ _. run-does (within step) (λ (u : ℕ × List Record). Each P u.1) A ended call-keeps (cut s) (room, t) h)
        (λ _. (h, ten))

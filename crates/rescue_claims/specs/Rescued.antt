-- What a rescue makes of a whole recording (RULES 15; 02 M-109), by definitions over its pieces that know no run and no
-- buffer, and what is claimed of them.
use Rattle.std.specs.Prelude.{ℕ, ◌+◌, ◌*◌, ◌-◌, ◌%◌, ◌^◌, ◌<◌, ◌≤◌, ◌≡◌, Bool, true, false, cond, not, ◌||◌, Option, None, Some, Ok, List, [], ◌∷◌, ◌++◌, map, eqb, drop, get_or, length, take}
use Rattle.ground.specs.Lists.{All, joined, sum}
use Rattle.ump.specs.Packet.{Whole, cut, first, packet}
use Rattle.stream.specs.Answers.{bad_data, bad_status, no_room, reserved_type, wrong_protocol}
use Rattle.stream.specs.Run.{run}
use Rattle.recording.specs.declared.Past.{Past}
use Rattle.recording.specs.declared.Line.{Line}
use Rattle.recording.specs.declared.Line.TheVariants.{Drop, Ticks, Bytes, Answer}
use Rattle.recording.specs.Recording.{cut_line, found, header, header_answer, is_stamp, line_kept, passes, past_after}
use Rattle.recording.specs.Recording.{stamp_of, start, text_of, ticks_between}
use Rattle.rescuing.specs.Rescue.{run_keep, run_tell, tell}

-- 02 M-109: of the pieces of a stream, those that are kept; a cut one is not
unfoldable pub kept_packets : List (List ℕ) → List (List ℕ)
kept_packets [] = []
kept_packets (p ∷ ps) = cond (passes (packet p)) (p ∷ kept_packets ps) (kept_packets ps)

-- the words of the clean recording
abbrev pub clean : List ℕ → List ℕ
clean s = joined (kept_packets (cut s))

-- 02 M-109: what is said of a piece after what went before it
abbrev pub piece_line : Past → List ℕ → Option Line
piece_line past p =
    cond (passes (packet p)) (line_kept past.stamp (first p))
    (Some (Drop past.place (found (packet p)).answer (length p) (found (packet p)).place))

-- and of one piece after another; where nothing is said of one, that stands there too
unfoldable pub lines_from : Past → List (List ℕ) → List (Option Line)
lines_from past [] = []
lines_from past (p ∷ ps) = piece_line past p ∷ lines_from (past_after past p) ps

abbrev pub lines_of : List ℕ → List (Option Line)
lines_of s = lines_from start (cut s)

abbrev pub texts : List (Option Line) → List ℕ
texts ls = joined (map text_of ls)

-- a line of a drop, the words that it tells of, and the lines without those of drops
abbrev pub is_drop : Option Line → Bool
is_drop None = false
is_drop (Some (Drop place answer count bad)) = true
is_drop (Some (Ticks n)) = false
is_drop (Some (Bytes n)) = false
is_drop (Some (Answer n)) = false

abbrev pub drop_words : Option Line → ℕ
drop_words None = 0
drop_words (Some (Drop place answer count bad)) = count
drop_words (Some (Ticks n)) = 0
drop_words (Some (Bytes n)) = 0
drop_words (Some (Answer n)) = 0

unfoldable pub undropped : List (Option Line) → List (Option Line)
undropped [] = []
undropped (l ∷ ls) = cond (is_drop l) (undropped ls) (l ∷ undropped ls)

-- The header: what is written is a header, and nothing else is taken for one; a wrong or cut mark comes first.
pub record Headers : Type 0 where
  pub written : (s : List ℕ) → header_answer (header ++ s) ≡ Ok tt
  pub taken : (s : List ℕ) → header_answer s ≡ Ok tt → take 5 s ≡ header

-- What is kept is every whole packet that 4, 6 and 7 do not refuse, in order and unchanged; no protocol is wrong.
pub record KeptExactly : Type 0 where
  pub refusals : (p : List ℕ) → Whole p
      → let a = (found p).answer in
      passes p ≡ not (eqb a reserved_type || eqb a bad_status || eqb a bad_data)
  pub protocols : (p : List ℕ) → (found p).answer ≡ wrong_protocol → ⊥
  pub keeps : (s : List ℕ) (room : ℕ) → ((run_keep room s).answer ≡ no_room → ⊥) → (run_keep room s).sends ≡ clean s
  pub roomy : (s : List ℕ) (room : ℕ) → length s ≤ room → (run_keep room s).answer ≡ no_room → ⊥

-- Rescuing the result again keeps all of it, drops nothing and says the same ticks.
pub record RescuedAgain : Type 0 where
  pub same : (s : List ℕ) → clean (clean s) ≡ clean s
  pub drops : (s : List ℕ) → All (λ l. is_drop l ≡ false) (lines_of (clean s))
  pub ticks : (s : List ℕ) → lines_of (clean s) ≡ undropped (lines_of s)

-- The lines add up: what is kept and the counts of the drops are all words; and each drop has a line of its own, at
-- the number of words that stand before it, with its answer, its words and its place.
pub record AddsUp : Type 0 where
  pub words : (s : List ℕ) → length (clean s) + sum (map drop_words (lines_of s)) ≡ length s
  pub places : (s : List ℕ) (ps : List (List ℕ)) (p : List ℕ) (qs : List (List ℕ)) → length s < 2 ^ 64
      → cut s ≡ ps ++ (p ∷ qs) → passes (packet p) ≡ false
      → get_or (lines_of s) (length ps) None
      ≡ Some (Drop (length (joined ps)) (found (packet p)).answer (length p) (found (packet p)).place)

-- The ticks count from the earlier stamp to the later one, round at 65,536. They stand at the later of two stamps with
-- none between them, whatever else does; and a stamp is always kept.
pub record TicksRound : Type 0 where
  pub round : (earlier later : ℕ) → earlier < 2 ^ 16 → later < 2 ^ 16
      → (ticks_between earlier later < 2 ^ 16) × ((earlier + ticks_between earlier later) % 2 ^ 16 ≡ later)
  pub stamps : (w : ℕ) → is_stamp w ≡ true → passes (packet (w ∷ [])) ≡ true
  pub neighbours : (past : Past) (v w : ℕ) (ps qs : List (List ℕ)) → is_stamp v ≡ true → is_stamp w ≡ true
      → All (λ p. is_stamp (first p) ≡ false) ps
      → get_or (lines_from past ((v ∷ []) ∷ (ps ++ ((w ∷ []) ∷ qs)))) (length ps + 1) None
      ≡ Some (Ticks (ticks_between (stamp_of v) (stamp_of w)))

-- Buffer by buffer: the words `ws` of a buffer, of which a text with any room lets some be read, and what comes after
-- them. What is said and kept of all is what is said and kept of the words read, and then of the rest with what
-- follows. What a last buffer leaves is told as a cut end.
pub record BufferByBuffer : Type 0 where
  pub told : (ws more : List ℕ) (room : ℕ) (past : Past)
      → let r = run_tell room past ws in
      (run tell past (cut (ws ++ more))).sends
      ≡ r.sends ++ (run tell r.left.1 (cut (drop r.read ws ++ more))).sends
  pub kept : (ws more : List ℕ) (room : ℕ) (past : Past)
      → let n = (run_tell room past ws).read in
      clean (ws ++ more) ≡ clean (take n ws) ++ clean (drop n ws ++ more)
  pub ends : (s : List ℕ) (past : Past)
      → let r = run tell past (cut s) in
      texts (lines_from past (cut s)) ≡ r.sends ++ text_of (cut_line r.left.place (4 * (length s - r.read)))

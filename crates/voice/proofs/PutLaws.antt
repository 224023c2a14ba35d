-- Up to four words stored into a lent output, or none where they do not fit. Assumes nothing.
use mathlib.Core.Path.{◌≡◌, refl, sym, ◌∙◌}
use mathlib.Core.Bool.{Bool, true, false}
use mathlib.Core.List.{List, [], ◌∷◌}
use Prim.Native.Nat.{ℕ, ◌+◌, ◌-◌, ◌≤◌, ◌<◌}
use native.Mathlib.Omega.{arith}
use borrow.Author.Tests.{le-leb, lt-leb}
use lib.Dec.{leb, leb-zero}
use lib.ListN.{length, length-take}
use lib.Seq.{sets, sets-eq}
use Rattle.ground.proofs.StoreLaws.{written_none}
use Rattle.lower.specs.declared.UpToFourWords.{UpToFourWords}
use Rattle.voice.specs.Output.{sent_words}
use Rattle.voice.specs.Turn.{report_after, stored_in}
use Rattle.stream.specs.declared.Done.{Done}
use Rattle.stream.specs.Answers.{no_room, sent}
use Rattle.stream.specs.Report.{counting}

pub words-length : (s : UpToFourWords) → s.count ≤ 4 → length (sent_words s) ≡ s.count
unfolding sent_words
words-length s h = length-take s.count (s.first ∷ s.second ∷ s.third ∷ s.fourth ∷ []) ∙ omega arith

module _ (s : UpToFourWords) (to : ℕ) (out : List ℕ) (few : s.count ≤ 4) where
  -- what storing answers, and what the output then holds
  abbrev Put : Bool → List ℕ → Type 0
  Put r after = (r ≡ leb (length (sent_words s)) (length out - to)) × (after ≡ stored_in to out (sent_words s))

  pub put-short : length out - to < s.count → Put false out
  put-short h =
      let n = words-length s few in
      rw (lt-leb (length (sent_words s)) (length out - to) (omega arith)) (refl, refl)

  pub put-none : s.count ≡ 0 → Put true out
  unfolding sent_words
  put-none h = rw (h, leb-zero (length out - to)) (refl, sym (written_none to out))

  pub put_all : (ws : List ℕ) → sent_words s ≡ ws → 0 < length ws → length ws ≤ length out - to
      → Put true (sets out to ws)
  put_all ws e i h = rw (e, le-leb (length ws) (length out - to) h) (refl, sets-eq ws out to (omega arith))

module _ (d : Done) (n : ℕ) (out : List ℕ) (s : UpToFourWords) where
  pub room-report : s.count ≤ 4 → leb (length (sent_words s)) (length out - d.written) ≡ true
      → counting sent (d.read + n) (d.written + s.count) ≡ report_after d n out (sent_words s)
  room-report few k = rw (k, words-length s few)

  pub tight-report : leb (length (sent_words s)) (length out - d.written) ≡ false
      → counting no_room d.read d.written ≡ report_after d n out (sent_words s)
  tight-report k = rw k

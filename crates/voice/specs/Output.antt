-- Up to four words, of their values.
use Rattle.std.specs.Prelude.{ℕ, List, [], ◌∷◌, take}
use Rattle.lower.specs.declared.UpToFourWords.{UpToFourWords}

unfoldable pub sent_words : UpToFourWords → List ℕ
sent_words s = take s.count (s.first ∷ s.second ∷ s.third ∷ s.fourth ∷ [])

-- Cases in their order, each with its answer (RULES 3.2).
use Rattle.std.specs.Prelude.{ℕ, Bool, cond, List, [], ◌∷◌}
use Rattle.stream.specs.Answers.{sent}

-- An answer, and whether its case holds.
pub record Case : Type 0 where
  pub says : ℕ
  pub holds : Bool

abbrev pub case : ℕ → Bool → Case
case a b = record { says = a; holds = b }

-- the first case that holds; and else `sent`
abbrev pub numbered : List Case → ℕ
numbered [] = sent
numbered (c ∷ cs) = cond c.holds c.says (numbered cs)

-- A call and a run by what is asked first: the group, the state, whether a byte is left. Assumes nothing.
use Prim.Native.Nat.{ℕ, ◌≤◌, ◌<◌}
use mathlib.Core.Path.{◌≡◌, refl, ◌∙◌}
use mathlib.Core.Bool.{true, false}
use mathlib.Core.List.{List, [], ◌∷◌}
use native.Mathlib.Omega.{arith}
use lib.Dec.{leb-zero, ltb}
use lib.ListN.{get_or, length}
use borrow.Author.Tests.{le-ltb, lt-ltb, ltb-false, ltb-true}
use Rattle.std.specs.Prelude.{Option, Some, None}
use Rattle.ground.proofs.Cases.{by_bool}
use Rattle.stream.specs.Answers.{cut_packet, not_sound, out_of_range}
use Rattle.cable.specs.declared.Cable.{Cable}
use Rattle.cable.specs.State.{pick, sound}
use Rattle.cable.specs.Hearing.{byte_in, unread}
use Rattle.inlet.specs.Inlet.{call_in, calls_in, fit_in, next_in, nothing_done, one_in, ran_in, run_in}
use Rattle.inlet.specs.Taking.{refusal}

-- what sends nothing has room
pub quiet-fits : (room a : ℕ) (s : Cable) → fit_in room s (unread a [] s) ≡ unread a [] s
unfolding fit_in pick
quiet-fits room a s = rw (leb-zero room)

pub none_left : (s : Cable) (g : ℕ) (bs : List ℕ) → length bs ≡ 0 → next_in s g bs ≡ unread cut_packet [] s
unfolding next_in
none_left s g [] h = refl
none_left s g (b ∷ bs) h = absurd (omega arith)

pub first-left : (s : Cable) (g : ℕ) (bs : List ℕ) → 0 < length bs → next_in s g bs ≡ byte_in s g (get_or bs 0 0)
unfolding next_in
first-left s g [] h = absurd (omega arith)
first-left s g (b ∷ bs) h = refl

-- a value by what refuses
abbrev pub by_refusal : {A : Type 0} → Option ℕ → (ℕ → A) → A → A
by_refusal None f x = x
by_refusal (Some a) f x = f a

module _ (g room : ℕ) (s : Cable) (bs : List ℕ) where
  pub one-range : 15 < g → one_in g room s bs ≡ unread out_of_range [] s
  unfolding one_in call_in pick
  one-range h = rw (lt-ltb 15 g h) (quiet-fits room out_of_range s)

  pub run-range : 15 < g → run_in g room s bs ≡ nothing_done out_of_range s
  unfolding run_in pick
  run-range h = rw (lt-ltb 15 g h)

  module _ (few : g ≤ 15) where
    pub one-unsound : sound s ≡ false → one_in g room s bs ≡ unread not_sound [] s
    unfolding one_in call_in pick
    one-unsound e = rw (le-ltb 15 g few, e) (quiet-fits room not_sound s)

    pub one-next : sound s ≡ true → one_in g room s bs ≡ fit_in room s (next_in s g bs)
    unfolding one_in call_in pick
    one-next e = rw (le-ltb 15 g few, e)

    pub run-unsound : sound s ≡ false → run_in g room s bs ≡ nothing_done not_sound s
    unfolding run_in pick
    run-unsound e = rw (le-ltb 15 g few, e)

    pub run-goes : sound s ≡ true → run_in g room s bs ≡ ran_in room s (calls_in g s bs)
    unfolding run_in pick
    run-goes e = rw (le-ltb 15 g few, e)

  pub one-refusal : one_in g room s bs
      ≡ by_refusal (refusal g s) (λ a. unread a [] s) (fit_in room s (next_in s g bs))
  unfolding refusal pick
  one-refusal =
      by_bool (ltb 15 g)
      (λ t. one-range (ltb-true 15 g t) ∙ rw t refl)
      (λ t.
      let few = ltb-false 15 g t in
      by_bool (sound s) (λ u. one-next few u ∙ rw (t, u) refl) (λ u. one-unsound few u ∙ rw (t, u) refl))

  pub run-refusal : run_in g room s bs
      ≡ by_refusal (refusal g s) (λ a. nothing_done a s) (ran_in room s (calls_in g s bs))
  unfolding refusal pick
  run-refusal =
      by_bool (ltb 15 g)
      (λ t. run-range (ltb-true 15 g t) ∙ rw t refl)
      (λ t.
      let few = ltb-false 15 g t in
      by_bool (sound s) (λ u. run-goes few u ∙ rw (t, u) refl) (λ u. run-unsound few u ∙ rw (t, u) refl))

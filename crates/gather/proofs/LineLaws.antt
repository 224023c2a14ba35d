-- A line is never longer than the room that is asked for: a finished chain has no more bytes than its part, the head of
-- a line has at most twelve, and the answers that drop have two digits. Assumes nothing.
use Prim.Native.Nat.{ℕ, ◌≤◌, ◌<◌}
use mathlib.Core.Path.{◌≡◌, sym, ◌∙◌}
use mathlib.Core.Bool.{Bool, true, false, ◌&&◌}
use mathlib.Core.List.{List, []}
use native.Mathlib.Omega.{arith}
use lib.Dec.{eqb, ltb}
use lib.ListN.{drop, length, length-take}
use borrow.Author.Tests.{eq-eqb, eqb-true, ne_eqb}
use Rattle.ground.proofs.Bools.{and_right}
use Rattle.ground.proofs.Cases.{by_bool, choose, not-both}
use Rattle.stream.specs.Answers.{out_of_turn, sent, too_long, too_many_packets}
use Rattle.chains.specs.declared.Chain.{Chain}
use Rattle.chains.specs.declared.Collected.{Collected}
use Rattle.chains.specs.Collect.{buffer_of, chain_at, chain_of, collected, piece_of, report_of, share}
use Rattle.chains.specs.Run.{drops, open_at}
use Rattle.chains.proofs.CollectLaws.{report-piece}
use Rattle.chains.proofs.StepLaws.{step-answer, step-within}
use Rattle.chains.proofs.WithinLaws.{finished-asked}
use Rattle.text.specs.Messages.{dropped_line, head_of, message_line, sort_name}
use Rattle.text.proofs.LineLaws.{few}
use Rattle.text.proofs.MessageLaws.{dropped-length, head-most, message-length}
use Rattle.gather.specs.Gather.{Held, bytes_of, collected_at, line_at, line_by, longest}

-- a finished chain has no more bytes than its part
pub finished-short : (cs : List Chain) (b s : List ℕ) → (report_of cs b s).answer ≡ sent
    → (report_of cs b s).length ≤ share b
unfolding collected
finished-short cs b s h =
    let c = chain_at (chain_of s) cs in
    let e = finished-asked c (share b) s h in
    let x = piece_of s in
    let r = rw (report-piece c (share b) s e) at h in
    let l = step-within c (share b) x (omega (arith, sym (step-answer c (share b) x) ∙ r)) in
    rw (report-piece c (share b) s e) (omega (arith, l))

-- the head of a line
name-ten : (chain : ℕ) → length (sort_name chain) ≤ 10
unfolding sort_name
name-ten chain = choose (λ (l : List ℕ). length l ≤ 10) (ltb chain 16) (λ _. omega arith) (λ _. omega arith)

head-twelve : (chain : ℕ) → length (head_of chain) ≤ 12
head-twelve chain = omega (arith, head-most chain, name-ten chain)

-- an answer that drops is below a hundred
drops-few : (a : ℕ) → drops a ≡ true → a < 100
drops-few a h =
    by_bool (eqb a out_of_turn) (λ e. omega (arith, eqb-true a out_of_turn e))
    (λ e. by_bool (eqb a too_many_packets) (λ f. omega (arith, eqb-true a too_many_packets f))
    (λ f. by_bool (eqb a too_long) (λ g. omega (arith, eqb-true a too_long g)) (λ g. not-both (rw (e, f, g) at h))))

-- the line of a call by its answer
module _ (dropped : Bool) (r : Collected) (b : List ℕ) where
  pub finished-line : r.answer ≡ sent → line_by dropped r b ≡ message_line r.chain (bytes_of r b)
  unfolding line_by
  finished-line e = rw (eq-eqb r.answer sent e)

  pub dropped_line_lem : (r.answer ≡ sent → ⊥) → dropped ≡ true → line_by dropped r b ≡ dropped_line r.answer r.chain
  unfolding line_by
  dropped_line_lem n e = rw (ne_eqb r.answer sent n, e)

  pub no_line : (r.answer ≡ sent → ⊥) → dropped ≡ false → line_by dropped r b ≡ []
  unfolding line_by
  no_line n e = rw (ne_eqb r.answer sent n, e)

pub line-short : (h : Held) (s : List ℕ) → length (line_at h s) ≤ longest (length h.buffer)
unfolding line_by
line-short h s =
    choose Short (eqb r.answer sent) finishes
    (λ _. choose Short (open_at h.chains r.chain && drops r.answer) dropping (λ _. omega arith))
  where
    r : Collected
    r = collected_at h s

    Short : List ℕ → Type 0
    Short l = length l ≤ longest (length h.buffer)

    finishes : eqb r.answer sent ≡ true
        → Short (message_line r.chain (bytes_of r (buffer_of h.chains h.buffer s)))
    finishes e =
        let b = buffer_of h.chains h.buffer s in
        omega (
          arith,
          finished-short h.chains h.buffer s (eqb-true r.answer sent e),
          message-length r.chain (bytes_of r b),
          length-take r.length (drop r.start b),
          head-twelve r.chain,
        )

    dropping : (open_at h.chains r.chain && drops r.answer) ≡ true → Short (dropped_line r.answer r.chain)
    dropping e =
        let a = r.answer in
        let f = drops-few a (and_right (open_at h.chains r.chain) (drops a) e) in
        omega (arith, dropped-length a r.chain, few a 1 a (omega (arith, f)), head-twelve r.chain)

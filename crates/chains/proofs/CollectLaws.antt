-- Parts of the buffer, and a call by its refusal: with one chain, and with a list of 32. Assumes nothing.
use Prim.Native.Nat.{ℕ, ◌+◌, ◌*◌, ◌/◌, ◌≤◌, ◌<◌}
use mathlib.Core.Path.{◌≡◌, ◌∙◌}
use mathlib.Core.List.{List}
use native.Mathlib.Omega.{arith}
use native.Mathlib.Nat.{add-mul, div-mul-le_self, mul-le-mul_right}
use lib.ListN.{length, drop, length-drop, length-take}
use borrow.Author.Tests.{eq-eqb, ne_eqb}
use lib.Seq.{set-get_or}
use Rattle.chains.specs.declared.Chain.{Chain}
use Rattle.ump.specs.Packet.{packet}
use Rattle.stream.specs.Answers.{bad_address}
use Rattle.screen.specs.Screen.{goes_on}
use Rattle.chains.specs.Step.{fresh, part_of, step_of}
use Rattle.chains.specs.Collect.{beside, buffer_after, buffer_of, buffer_with, chain_at, chain_of, chain_with}
use Rattle.chains.specs.Collect.{chains_after, chains_of, collected, collected_of, kept_open, part_at, piece_of}
use Rattle.chains.specs.Collect.{refusal_of, report_of, report_with, share, sorted, whole_list, with_part}

-- part k ends within the buffer
pub part_end : (k n : ℕ) → k < 32 → k * (n / 32) + n / 32 ≤ n
part_end k n h =
    let m : (k + 1) * (n / 32) ≤ 32 * (n / 32) = mul-le-mul_right (n / 32) (omega arith) in
    omega (arith, add-mul k 1 (n / 32), div-mul-le_self n 32)

pub part_length : (k : ℕ) (b : List ℕ) → k < 32 → length (part_at k b) ≡ share b
part_length k b h =
    length-take (share b) (drop (k * share b) b) ∙ omega (arith, length-drop (k * share b) b, part_end k (length b) h)

-- a call with one chain, by its refusal
module _ (c : Chain) (n : ℕ) (s : List ℕ) where
  pub report-piece : refusal_of s ≡ goes_on → report_with c n s
      ≡ collected c n (chain_of s) (length (packet s)) (piece_of s)
  unfolding report_with
  report-piece e = rw e

  pub report-kept : refusal_of s ≡ bad_address → report_with c n s ≡ kept_open c n (chain_of s) (length (packet s))
  unfolding report_with
  report-kept e = rw e

  pub report-beside : (refusal_of s ≡ goes_on → ⊥) → (refusal_of s ≡ bad_address → ⊥)
      → report_with c n s ≡ beside (sorted (packet s)) (length (packet s))
  unfolding report_with
  report-beside e f = rw (ne_eqb (refusal_of s) goes_on e, ne_eqb (refusal_of s) bad_address f)

  pub chain-piece : refusal_of s ≡ goes_on → chain_with c n s ≡ (step_of c n (piece_of s)).chain
  unfolding chain_with
  chain-piece e = rw e

  pub chain_same : (refusal_of s ≡ goes_on → ⊥) → chain_with c n s ≡ c
  unfolding chain_with
  chain_same e = rw (ne_eqb (refusal_of s) goes_on e)

module _ (c : Chain) (b s : List ℕ) where
  pub buffer-piece : refusal_of s ≡ goes_on
      → buffer_with c b s ≡ with_part (chain_of s) (part_of c (part_at (chain_of s) b) (piece_of s)) b
  unfolding buffer_with
  buffer-piece e = rw e

  pub buffer-same : (refusal_of s ≡ goes_on → ⊥) → buffer_with c b s ≡ b
  unfolding buffer_with
  buffer-same e = rw (ne_eqb (refusal_of s) goes_on e)

-- a call with a list of 32 is that with the packet's own chain
module _ (cs : List Chain) (b s : List ℕ) (full : length cs ≡ whole_list) where
  pub whole-report : collected_of cs b s ≡ report_of cs b s
  unfolding collected_of
  whole-report = rw (eq-eqb (length cs) whole_list full)

  pub whole-chains : chains_after cs b s ≡ chains_of cs b s
  unfolding chains_after
  whole-chains = rw (eq-eqb (length cs) whole_list full)

  pub whole-buffer : buffer_after cs b s ≡ buffer_of cs b s
  unfolding buffer_after
  whole-buffer = rw (eq-eqb (length cs) whole_list full)

-- with no chain asked the list is as it was
pub chains-same : (cs : List Chain) (b s : List ℕ) → (refusal_of s ≡ goes_on → ⊥) → chains_of cs b s ≡ cs
chains-same cs b s n =
    rw (chain_same (chain_at (chain_of s) cs) (share b) s n) (set-get_or cs (chain_of s) fresh)

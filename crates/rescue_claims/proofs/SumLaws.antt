-- The places and counts of the lines add up. Assumes nothing.
use Prim.Native.Nat.{ℕ, ◌+◌, ◌%◌, ◌^◌, ◌<◌}
use mathlib.Core.Path.{◌≡◌, refl, sym, ap, ◌∙◌}
use mathlib.Core.Bool.{false}
use mathlib.Core.List.{List, [], ◌∷◌, ◌++◌, append_assoc, map}
use native.Mathlib.Omega.{arith}
use native.Mathlib.Nat.{add-zero, zero-add}
use lib.ListN.{get_or, length, length-append}
use Rattle.ground.specs.Lists.{joined, sum}
use Rattle.ground.proofs.Cases.{by_bool}
use Rattle.ump.specs.Packet.{cut, first, packet}
use Rattle.recording.specs.declared.Past.{Past}
use Rattle.std.specs.Prelude.{None, Some}
use Rattle.recording.specs.declared.Line.TheVariants.{Drop}
use Rattle.recording.specs.Recording.{found, passes, past_after, start}
use Rattle.rescue_claims.specs.Rescued.{AddsUp, drop_words, kept_packets, lines_from}
use Rattle.rescue_claims.proofs.PieceLaws.{joined-cut}
use Rattle.rescue_claims.proofs.AgainLaws.{kept-no-words}

pub joined-append : (ps qs : List (List ℕ)) → joined (ps ++ qs) ≡ joined ps ++ joined qs
joined-append [] qs = refl
joined-append (p ∷ ps) qs = rw (joined-append ps qs) (sym (append_assoc p (joined ps) (joined qs)))

words : (ps : List (List ℕ)) (past : Past)
    → length (joined (kept_packets ps)) + sum (map drop_words (lines_from past ps)) ≡ length (joined ps)
unfolding kept_packets lines_from
words [] past = refl
words (p ∷ ps) past =
    let i = words ps (past_after past p) in
    let a = length-append p (joined ps) in
    let b = length-append p (joined (kept_packets ps)) in
    by_bool (passes (packet p)) (λ e. rw (e, kept-no-words past.stamp (first p)) (omega arith)) (λ e. rw e (omega arith))

placed : (ps : List (List ℕ)) (past : Past) (p : List ℕ) (qs : List (List ℕ)) → passes (packet p) ≡ false
    → past.place + length (joined ps) < 2 ^ 64
    → get_or (lines_from past (ps ++ (p ∷ qs))) (length ps) None
    ≡ Some (Drop (past.place + length (joined ps)) (found (packet p)).answer (length p) (found (packet p)).place)
unfolding lines_from past_after
placed [] past p qs e h = rw (e, add-zero past.place)
placed (q ∷ ps) past p qs e h =
    let a = length-append q (joined ps) in
    let m : (past.place + length q) % 2 ^ 64 ≡ past.place + length q = omega arith in
    placed ps (past_after past q) p qs e (omega arith)
    ∙ ap (λ (n : ℕ). Some (Drop n (found (packet p)).answer (length p) (found (packet p)).place))
    {x = (past.place + length q) % 2 ^ 64 + length (joined ps)} {y = past.place + length (q ++ joined ps)} (omega arith)

pub proved-adds-up : AddsUp
proved-adds-up =
    record {
      words = λ s. words (cut s) start ∙ ap length (joined-cut s);
      places = λ s ps p qs h e d.
          let l = length-append (joined ps) (joined (p ∷ qs)) in
          let z : length s ≡ length (joined ps) + length (joined (p ∷ qs)) =
          ap length (sym (joined-cut s) ∙ ap joined e ∙ joined-append ps (p ∷ qs)) ∙ l in
          rw (← e, zero-add (length (joined ps))) at (placed ps start p qs d (omega arith));
    }

-- The ticks between two stamps, and where they stand. Assumes nothing.
use Prim.Native.Nat.{ℕ}
use mathlib.Core.Path.{◌≡◌, sym}
use mathlib.Core.Bool.{true, false}
use mathlib.Core.List.{List, [], ◌∷◌, ◌++◌}
use native.Mathlib.Omega.{arith}
use native.Mathlib.Numerals.{add-one}
use lib.ListN.{get_or, length}
use Rattle.ground.specs.Lists.{All}
use Rattle.ump.specs.Packet.{Whole, first, packet}
use Rattle.ump.proofs.PacketLaws.{packet-whole}
use Rattle.std.specs.Prelude.{None, Some}
use Rattle.recording.specs.declared.Past.{Past}
use Rattle.recording.specs.declared.Line.TheVariants.{Ticks}
use Rattle.recording.specs.Recording.{is_stamp, line_kept, passes, past_after, stamp_after, stamp_of, ticks_between}
use Rattle.rescue_claims.specs.Rescued.{TicksRound, lines_from}
use Rattle.rescue_claims.proofs.PieceLaws.{stamp-passes, stamp-size}

one : (w : ℕ) → is_stamp w ≡ true → Whole (w ∷ [])
unfolding Whole
one w e = sym (stamp-size w e)

kept : (w : ℕ) → is_stamp w ≡ true → passes (packet (w ∷ [])) ≡ true
kept w e = rw (packet-whole (w ∷ []) (one w e)) (stamp-passes (w ∷ []) (one w e) e)

told : (ps : List (List ℕ)) (past : Past) (earlier w : ℕ) (qs : List (List ℕ)) → past.stamp ≡ Some earlier
    → is_stamp w ≡ true → All (λ p. is_stamp (first p) ≡ false) ps
    → get_or (lines_from past (ps ++ ((w ∷ []) ∷ qs))) (length ps) None
    ≡ Some (Ticks (ticks_between earlier (stamp_of w)))
unfolding lines_from line_kept past_after stamp_after
told [] past earlier w qs e h n = rw (kept w h, h, e)
told (p ∷ ps) past earlier w qs e h n = told ps (past_after past p) earlier w qs (rw n.0 e) h n.1

pub proved-ticks-round : TicksRound
unfolding lines_from past_after stamp_after
proved-ticks-round =
    record {
      round = λ earlier later a b. (omega arith, omega arith);
      stamps = kept;
      neighbours = λ past v w ps qs e h n.
          rw (add-one (length ps)) (told ps (past_after past (v ∷ [])) (stamp_of v) w qs (rw e) h n);
    }

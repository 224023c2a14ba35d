-- A run out with room enough: a packet that passes gives its bytes, and then the rest. Assumes nothing.
use Prim.Native.Nat.{ℕ, ◌≤◌}
use mathlib.Core.Path.{◌≡◌, refl}
use mathlib.Core.List.{List, [], ◌++◌}
use lib.ListN.{length}
use borrow.Author.Tests.{le-ltb}
use Rattle.ump.specs.Packet.{Whole, cut, cut_after, first, second}
use Rattle.ump.proofs.PacketLaws.{cut-whole, packet-whole}
use Rattle.stream.specs.Answers.{sent}
use Rattle.stream.specs.Claims.{roomed}
use Rattle.stream.specs.Run.{Ran, run, then_run}
use Rattle.stream.proofs.RunLaws.{ample}
use Rattle.screen.specs.Screen.{goes_on}
use Rattle.outlet.specs.Outlet.{bytes_of, giving, run_out, screen_out, step_out}
use Rattle.outlet.proofs.CallLaws.{goes-out}

abbrev pub whole_out : ℕ → List ℕ → Ran (Unit {0})
whole_out g ws = run (step_out g) tt (cut ws)

pub run-whole : (g room : ℕ) (ws : List ℕ) → g ≤ 15 → length (whole_out g ws).sends ≤ room
    → run_out g room ws ≡ roomed room (whole_out g ws)
unfolding run_out
run-whole g room ws few h = rw (le-ltb 15 g few) (ample (step_out g) (cut ws) tt room h)

pub cut-none : cut [] ≡ []
unfolding cut cut_after
cut-none = refl

-- no words give nothing
pub gives_none : (g : ℕ) → whole_out g [] ≡ record { answer = sent; read = 0; sends = []; left = tt }
unfolding run
gives_none g = rw cut-none

-- a whole packet that passes, in front of other words
pub gives : (g : ℕ) (p ws : List ℕ) → Whole p → (screen_out g p).answer ≡ goes_on
    → whole_out g (p ++ ws)
    ≡ then_run p tt (giving (bytes_of (first p) (second p))) (λ _. whole_out g ws)
unfolding run step_out
gives g p ws w e = rw (cut-whole p ws w, packet-whole p w, goes-out g p e)

-- `quernbrae::quernbrae_run_collect` meets its contract: what the turns left stands (`Stands` of the chains), and each has
-- read further. Assumes nothing.
use Rattle.std.proofs.Common.{◌≡◌, length}
use Rattle.chains.proofs.RunLaws.{Stands, left}
use Rattle.quernbrae.proofs.messages.quernbrae_run_collect.Given as goal

abbrev pub invariant-loop-progress : goal.invariant-loop-progress
invariant-loop-progress l =
    Stands l.initial.chains l.initial.buffer l.words l.progress l.chains l.buffer
    × (length l.chains ≡ length l.initial.chains)

abbrev pub decreases-loop-progress : goal.decreases-loop-progress
decreases-loop-progress l = left l.words l.progress

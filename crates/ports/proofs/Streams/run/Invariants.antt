-- `ports::Streams::run` is safe and ends. The loop's invariant: no more bytes are left than the buffer holds.
use Rattle.std.proofs.Common.{◌≤◌, length}
use Rattle.ports.proofs.Streams.run.Given as goal

abbrev pub invariant-loop : goal.invariant-loop
invariant-loop _ l = l.left ≤ length l.bytes

-- `salvage::read_header` is safe and ends. The loop's invariant: no more bytes are there than the buffer holds.
use Rattle.std.proofs.Common.{◌≤◌, length}
use Rattle.salvage.proofs.read_header.Given as goal

abbrev pub invariant-loop : goal.invariant-loop
invariant-loop _ l = l.have ≤ length l.bytes

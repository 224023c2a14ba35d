-- `hosts::with_group` meets its contract: one shifted to a place below 16 is the group's bit. Assumes nothing.
use mathlib.Core.Path.{ap}
use lib.Bits.{bit_or}
use Rattle.keys.specs.Keys.{with_bit}
use Rattle.hosts.proofs.HostLaws.{one_shl}
use Rattle.hosts.proofs.with_group.Goals as goal

pub returns-then-mine : goal.returns-then-mine
unfolding with_bit
returns-then-mine c =
    rw c.if-mine.true (ap (bit_or c.args.groups) (one_shl c.args.group c.requires))

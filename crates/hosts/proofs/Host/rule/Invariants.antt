-- `hosts::Host::rule` meets its contract. The loop's invariant: the bits so far are those of the groups below. Assumes
-- nothing.
use mathlib.Core.Path.{◌≡◌}
use Rattle.hosts.specs.Hosts.{groups_below}
use Rattle.hosts.proofs.Host.rule.Given as goal

abbrev pub invariant-loop-group : goal.invariant-loop-group
invariant-loop-group l = l.groups ≡ groups_below l.self.number l.self.owners.now l.group

-- `hosts::Host::rule` meets its contract. The loop's invariant: the bits so far are those of the groups below. Assumes
-- nothing.
use mathlib.Core.Path.{◌≡◌, refl, ap, ◌∙◌}
use native.Mathlib.Omega.{arith}
use Rattle.screen.specs.Screen.{fenced_rule}
use Rattle.hosts.specs.Hosts.{groups_below, host_rule}
use Rattle.hosts.proofs.HostLaws.{next-group}
use Rattle.hosts.proofs.Host.rule.Goals as goal

pub loop-group-init : goal.loop-group-init
unfolding groups_below
loop-group-init c = refl

pub loop-group-preserved : goal.loop-group-preserved
loop-group-preserved c =
    let a = c.args.self in
    let l = c.loop-group in
    next-group a.number a.owners.now l.group l.groups _ _ l.invariant c.owns.ensures c.with_group-groups.ensures

pub returns : goal.returns
unfolding host_rule
returns c =
    let a = c.args.self in
    let l = c.loop-group in
    let all : l.group ≡ 16 = omega (arith, l.auto.group-end, c.loop-group-test.false) in
    ap fenced_rule (l.invariant ∙ ap (groups_below a.number a.owners.now) all)

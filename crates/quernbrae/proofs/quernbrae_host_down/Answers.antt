-- `quernbrae::quernbrae_host_down` meets its contract: it is the call down of `voice` under the host's rule. Assumes
-- nothing.
use Rattle.std.proofs.Common.{◌∙◌}
use Rattle.hosts.specs.Hosts.{host_rule}
use Rattle.quernbrae.proofs.Said.{down-said}
use Rattle.quernbrae.proofs.quernbrae_host_down.Goals as goal

pub returns : goal.returns
returns c =
    let a = c.args in
    let r = rw (c.rule.ensures, c.report.ensures) at c.down.ensures.report in
    let o = rw (c.rule.ensures, c.report.ensures) at c.down.ensures.output in
    let z = down-said (host_rule a.host a.owners.now) a.words.now a.out.now in
    record { report = r ∙ z.0; output = o ∙ z.1 }

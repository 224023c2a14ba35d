-- `flow::lines::list_some`: the run of the calls over what the code keeps is the run over the table, which is a whole
-- one.
use Rattle.std.proofs.Common.{◌≡◌, ◌∙◌, ap, eq-eqb, length, refl}
use borrow.Author.Rules.{rules}
use Rattle.ground.specs.Store.{at_start}
use Rattle.stream.specs.Report.{reported}
use Rattle.stream.proofs.SeenLaws.{whole-seen}
use Rattle.channel.specs.Record.{whole_table}
use Rattle.flow.specs.declared.lines.Listing.{Listing}
use Rattle.flow.specs.Kept.{kept, listing}
use Rattle.flow.specs.Listing.{list_up, run_lines}
use Rattle.flow.proofs.ListLaws.{length-mapped}
use Rattle.flow.proofs.lines.list_some.Goals as goal

pub returns : goal.returns
unfolding run_lines
returns c =
    let a = c.args in
    let t = a.table.records in
    let r = c.run_calls-done.ensures in
    let whole : length t ≡ whole_table = search (length-mapped, rules) in
    let e = whole-seen kept list_up listing (λ t s. refl) a.words.now (length a.text.now) t in
    rw (eq-eqb (length t) whole_table whole) record {
      report = r.report ∙ ap reported e;
      table = ap (λ (x : Listing). x.table.records) (r.state ∙ ap (λ q. q.left.1) e);
      lines = r.output ∙ ap (λ q. at_start q.sends a.text.now) e;
    }

-- `tuning::silent`: each turn writes one more key over.
use Rattle.std.proofs.Common.{rules}
use Rattle.std.proofs.lemmas.List.Edits.{map_over_more}
use Rattle.tuning.specs.Desk.{silent_key}
use Rattle.tuning.proofs.silent.Goals as goal

pub loop-key-preserved : goal.loop-key-preserved
loop-key-preserved c = search (rules, map_over_more silent_key)

-- `scale::core_rules` meets its contract: the rules are proved in proofs/Laws.antt. Assumes nothing.
use Rattle.scale.proofs.Laws.{proved-core-rules}
use Rattle.scale.proofs.core_rules.Goals as goal

pub returns : goal.returns
returns c = proved-core-rules

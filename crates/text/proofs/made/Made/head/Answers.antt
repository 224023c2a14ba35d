-- `text::whole::Made::head`: the name of either sort, and the digits of the group.
use Rattle.text.proofs.MessageLaws.{exclusive_head, flex_head}
use Rattle.text.proofs.made.Made.head.Goals.{then-chain-lt-GROUPS, else-chain-lt-GROUPS}
use Rattle.text.proofs.made.Made.head.Goals as goal

pub returns-clause-text : goal.returns-clause-text
returns-clause-text g c =
    let a = c.args in
    elim c.if-chain-lt-GROUPS.branch [
      | then-chain-lt-GROUPS w ↦ rw (c.number.ensures.text, w.self-is, w.row.ensures.text)
          (exclusive_head a.self.now a.chain w.if-chain-lt-GROUPS.true)
      | else-chain-lt-GROUPS w ↦ rw (c.number.ensures.text, w.self-is, w.row-else-chain-lt-GROUPS.ensures.text)
          (flex_head a.self.now a.chain w.if-chain-lt-GROUPS.false)
    ]

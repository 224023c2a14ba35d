-- `argument::units::units_in` meets its contract: by how many bytes there are. Assumes nothing.
use Rattle.std.proofs.Common.{rules}
use Rattle.argument.proofs.UnitLaws.{more_bytes, no_byte, one_byte, three_bytes, two_bytes}
use Rattle.argument.proofs.units.units_in.Goals as goal

pub returns-in-len1 : goal.returns-in-len1
returns-in-len1 c = search (rules, one_byte)

pub returns-in-len2 : goal.returns-in-len2
returns-in-len2 c = search (rules, two_bytes)

pub returns-in-len3 : goal.returns-in-len3
returns-in-len3 c = search (rules, three_bytes)

pub returns-in_default : goal.returns-in_default
returns-in_default c = search (rules, no_byte)

pub returns-in_default-2 : goal.returns-in_default-2
returns-in_default-2 c = search (rules, more_bytes)

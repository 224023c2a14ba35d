-- `outlet::exclusives::is_data` meets its contract: the bytes are asked as one number. Assumes nothing.
use native.Mathlib.Omega.{arith}
use Rattle.outlet.proofs.PayloadLaws.{data_number}
use Rattle.outlet.proofs.exclusives.is_data.Goals as goal

pub returns : goal.returns
returns c = rw c.payload_number-p.ensures (data_number c.args.w c.args.v (omega arith) c.args.n c.requires)

-- `rescue_claims::buffer_by_buffer` meets its contract: the claim is proved in proofs/BufferLaws.antt.
use Rattle.rescue_claims.proofs.BufferLaws.{proved-buffer-by-buffer}
use Rattle.rescue_claims.proofs.buffer_by_buffer.Goals as goal

pub returns : goal.returns
returns c = proved-buffer-by-buffer

-- `claims::normal_form` meets its contract: the claim is proved in proofs/NormalForm.antt.
use Rattle.claims.proofs.NormalForm.{proved-normal-form}
use Rattle.claims.proofs.normal_form.Goals as goal

pub returns : goal.returns
returns c = proved-normal-form

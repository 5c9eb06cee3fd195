use Rattle.control.proofs.OneScript.{one_script}
use Rattle.control.proofs.parsing.one_script.Goals as goal

pub returns : goal.returns
returns c = one_script

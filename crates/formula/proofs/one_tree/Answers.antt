use Rattle.formula.proofs.Drive.{unique}
use Rattle.formula.proofs.Values.{postfix_injective}
use Rattle.formula.proofs.one_tree.Goals as goal

pub returns : goal.returns
returns c = record { text = unique; steps = postfix_injective }

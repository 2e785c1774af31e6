use Rattle.diagram.proofs.Canon.{handles_canonical}
use Rattle.diagram.proofs.handles_are_canonical.Goals as goal

pub returns : goal.returns
returns c = handles_canonical

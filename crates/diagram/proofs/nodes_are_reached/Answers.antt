use Rattle.diagram.proofs.Descent.{nodes_reached}
use Rattle.diagram.proofs.nodes_are_reached.Goals as goal

pub returns : goal.returns
returns c = nodes_reached

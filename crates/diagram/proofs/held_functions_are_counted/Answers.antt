use Rattle.diagram.proofs.Counting.{held_counted}
use Rattle.diagram.proofs.held_functions_are_counted.Goals as goal

pub returns : goal.returns
returns c = held_counted

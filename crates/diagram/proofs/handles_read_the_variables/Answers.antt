use Rattle.diagram.proofs.Tables.{levels_only}
use Rattle.diagram.proofs.handles_read_the_variables.Goals as goal

pub returns : goal.returns
returns c = levels_only

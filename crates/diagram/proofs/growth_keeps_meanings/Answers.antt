use Rattle.diagram.proofs.Growth.{growth_keeps}
use Rattle.diagram.proofs.growth_keeps_meanings.Goals as goal

pub returns : goal.returns
returns c = growth_keeps

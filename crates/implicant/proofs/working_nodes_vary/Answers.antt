use Rattle.implicant.proofs.Halves.{nodes_vary}
use Rattle.implicant.proofs.working_nodes_vary.Goals as goal

pub returns : goal.returns
returns c = nodes_vary

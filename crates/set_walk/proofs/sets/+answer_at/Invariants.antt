use Rattle.std.proofs.Common.{◌-◌}
use Rattle.diagram.specs.Nodes.{level_of}
use Rattle.set_walk.proofs.sets.+answer_at.Given as goal

abbrev pub decreases-answer_at : goal.decreases-answer_at
decreases-answer_at g l = 25 - level_of (g.T.NodeTable.nodes l.table.now) l.set

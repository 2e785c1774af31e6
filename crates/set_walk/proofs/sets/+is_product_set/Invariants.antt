use Rattle.std.proofs.Common.{◌-◌}
use Rattle.diagram.specs.Nodes.{level_of}
use Rattle.set_walk.proofs.sets.+is_product_set.Given as goal

abbrev pub decreases-is_product_set : goal.decreases-is_product_set
decreases-is_product_set g l = 25 - level_of (g.T.NodeTable.nodes l.table.now) l.h

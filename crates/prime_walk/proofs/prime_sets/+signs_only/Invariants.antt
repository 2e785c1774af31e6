use Rattle.std.proofs.Common.{◌-◌}
use Rattle.diagram.specs.Nodes.{level_of}
use Rattle.prime_walk.proofs.prime_sets.+signs_only.Given as goal

abbrev pub decreases-signs_only : goal.decreases-signs_only
decreases-signs_only g l = 25 - level_of (g.T.NodeTable.nodes l.table.now) l.h

use Rattle.std.proofs.Common.{◌-◌}
use Rattle.diagram.specs.Nodes.{level_of}
use Rattle.walk.proofs.manager.Manager.+restrict.Given as goal

abbrev pub decreases-restrict : goal.decreases-restrict
decreases-restrict g l = 25 - level_of (g.T.NodeTable.nodes l.self.now.table) l.f

use Rattle.std.proofs.Common.{◌-◌, min}
use Rattle.diagram.specs.Nodes.{level_of}
use Rattle.walk.proofs.manager.Manager.+apply.Given as goal

abbrev pub decreases-apply : goal.decreases-apply
decreases-apply g l = let ns = g.T.NodeTable.nodes l.self.now.table in 25 - min (level_of ns l.f) (level_of ns l.g)

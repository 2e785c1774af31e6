use Rattle.walk.proofs.Made.{split_node, split_deeper, split_constant}
use Rattle.walk.proofs.handles.branches.Goals as goal

pub returns-in-Ok : goal.returns-in-Ok
returns-in-Ok g c = split_node (g.met.T.NodeTable.sound c.args.table.now).formed c.in-Ok.ensures c.if-n-l.true

pub returns-in_default : goal.returns-in_default
returns-in_default g c = split_deeper c.requires.issued c.requires.level c.in-Ok.ensures c.if-n-l.false

pub returns-in_default-2 : goal.returns-in_default-2
returns-in_default-2 g c = split_constant c.requires.issued c.requires.last c.in_default.ensures

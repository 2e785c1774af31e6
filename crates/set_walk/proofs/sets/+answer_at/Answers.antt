use Rattle.std.proofs.Common.{◌∙◌}
use Rattle.walk.proofs.Made.{gotten_none}
use Rattle.walk.proofs.Halves.{falls_under}
use Rattle.set_walk.proofs.Deciding.{node_fit, child_issued, child_falls, child_same, constant_answers}
use Rattle.set_walk.proofs.sets.+answer_at.Goals as goal

pub child-requires : goal.child-requires
child-requires g t c = (node_fit (g.met.T.NodeTable.sound c.args.table.now) c.in-Ok.ensures).last

pub answer_at-requires : goal.answer_at-requires
answer_at-requires g t c κs within =
    let s = g.met.T.NodeTable.sound c.args.table.now in
    let n = c.in-Ok.ensures in
    let p = c.args.product in
    let e = c.child.ensures in
    (falls_under c.decreases (child_falls s n p e), (within.0, (within.1, child_issued s n p e)))

pub returns-in-Ok : goal.returns-in-Ok
returns-in-Ok g t c = c.answer_at.ensures ∙ child_same (g.met.T.NodeTable.sound c.args.table.now) c.in-Ok.ensures c.args.product c.child.ensures

pub returns-in-Err : goal.returns-in-Err
returns-in-Err g t c = constant_answers (g.T.NodeTable.nodes c.args.table.now) c.args.set (gotten_none c.requires c.in-Err.ensures) c.args.product

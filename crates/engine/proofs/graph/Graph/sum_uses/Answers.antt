use Rattle.engine.proofs.Making.{made_sum}
use Rattle.engine.proofs.graph.Graph.sum_uses.Goals as goal

pub returns-clause-out : goal.returns-clause-out
returns-clause-out g c fs ts t d =
    let T = g.T.NodeTable in
    let w = c.run_uses-walked.ensures in
    made_sum T.limit T.nodes c.self.view_is w.room.size (g.met.T.NodeTable.sound c.run_uses-walked.new.manager.table) c.len-held.ensures (w.value fs ts t d) c.end.ensures.ended

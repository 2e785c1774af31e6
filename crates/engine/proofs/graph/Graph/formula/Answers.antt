use Rattle.std.proofs.Common.{inl}
use Rattle.engine.proofs.Making.{made_formula}
use Rattle.engine.proofs.graph.Graph.formula.Goals as goal

pub returns-clause-out : goal.returns-clause-out
returns-clause-out g c =
    let T = g.T.NodeTable in
    let q = c.in_ok-f.ensures in
    let w = c.run_formula-walked.ensures in
    let made = made_formula T.limit T.nodes c.self.view_is w.room.size (g.met.T.NodeTable.sound c.run_formula-walked.new.manager.table) c.len-held.ensures (w.value q.tree q.steps) c.end.ensures.ended in
    record { outcome = inl (record { short = q.short; tree = q.tree; derived = q.derived; made = made }) }

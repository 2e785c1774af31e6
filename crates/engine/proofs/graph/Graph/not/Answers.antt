use Rattle.std.proofs.Common.{inl}
use Rattle.diagram.specs.Nodes.{meaning}
use Rattle.engine.specs.Works.{complement}
use Rattle.engine.proofs.Making.{made_call, complement_function}
use Rattle.engine.proofs.graph.Graph.not.Goals as goal

pub returns-clause-out : goal.returns-clause-out
returns-clause-out g c =
    let T = g.T.NodeTable in
    let w = c.apply-walked.ensures in
    let is = complement_function (T.nodes c.self.inside.manager.table) (meaning (T.nodes c.self.inside.manager.table) c.args.f) in
    let made = made_call T.limit T.nodes c.self.view_is w.room.size (g.met.T.NodeTable.sound c.apply-walked.new.self.table) c.len-held.ensures (λ s. complement (meaning (T.nodes s) c.args.f)) is w.value c.end.ensures.ended in
    record { outcome = inl (c.in_ok-issued.ensures, made) }

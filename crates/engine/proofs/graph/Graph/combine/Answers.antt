use Rattle.std.proofs.Common.{refl, inl}
use Rattle.diagram.specs.Nodes.{meaning}
use Rattle.engine.specs.Works.{combined}
use Rattle.engine.proofs.Making.{made_call}
use Rattle.engine.proofs.graph.Graph.combine.Goals as goal

pub returns-clause-out : goal.returns-clause-out
returns-clause-out g c =
    let T = g.T.NodeTable in
    let w = c.apply-walked.ensures in
    let made = made_call T.limit T.nodes c.self.view_is w.room.size (g.met.T.NodeTable.sound c.apply-walked.new.self.table) c.len-held.ensures (λ s. combined c.args.op (meaning (T.nodes s) c.args.f) (meaning (T.nodes s) c.args.g)) refl w.value c.end.ensures.ended in
    record { outcome = inl ((c.in_ok-issued.ensures, c.in_ok-issued-2.ensures), made) }

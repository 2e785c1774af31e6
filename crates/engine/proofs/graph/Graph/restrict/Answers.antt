use Rattle.std.proofs.Common.{ℕ, ap, inl}
use Rattle.diagram.specs.Nodes.{meaning}
use Rattle.walk.specs.Ops.{cofactor}
use Rattle.engine.specs.Works.{fixed}
use Rattle.engine.proofs.Making.{made_call}
use Rattle.engine.proofs.graph.Graph.restrict.Goals as goal

pub returns-clause-out : goal.returns-clause-out
returns-clause-out g c =
    let T = g.T.NodeTable in
    let k = c.in_ok-level.ensures in
    let w = c.restrict-walked.ensures in
    let is = ap (λ (l : ℕ). cofactor l c.args.value (meaning (T.nodes c.self.inside.manager.table) c.args.f)) k.1 in
    let made = made_call T.limit T.nodes c.self.view_is w.room.size (g.met.T.NodeTable.sound c.restrict-walked.new.self.table) c.len-held.ensures (λ s. fixed c.args.k c.args.value (meaning (T.nodes s) c.args.f)) is w.value c.end.ensures.ended in
    record { outcome = inl (k.0, inl (c.in_ok-issued.ensures, made)) }

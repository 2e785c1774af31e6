use Rattle.std.proofs.Common.{ℕ, ap, ◌∙◌, inl, arith}
use Rattle.diagram.specs.Functions.{choice}
use Rattle.diagram.specs.Nodes.{meaning}
use Rattle.compile.proofs.Stacks.{constant_stands}
use Rattle.engine.specs.Works.{of_option}
use Rattle.engine.proofs.Making.{made_call, option_function}
use Rattle.engine.proofs.graph.Graph.option.Goals as goal

pub make-walked-requires : goal.make-walked-requires
make-walked-requires g c =
    let k = c.in_ok-level.ensures in
    record {
      low = constant_stands _ _ 0 (omega arith) (omega (arith, k.0.1, k.1));
      high = constant_stands _ _ 1 (omega arith) (omega (arith, k.0.1, k.1));
      first = omega (arith, k.0.0, k.1);
    }

pub returns-clause-out : goal.returns-clause-out
returns-clause-out g c =
    let T = g.T.NodeTable in
    let k = c.in_ok-level.ensures in
    let w = c.make-walked.ensures in
    let ns = T.nodes c.self.inside.manager.table in
    let is = ap (λ (l : ℕ). choice l (meaning ns 0) (meaning ns 1)) k.1 ∙ option_function ns c.args.k in
    let made = made_call T.limit T.nodes c.self.view_is w.room.size (g.met.T.NodeTable.sound c.make-walked.new.self.table) c.len-held.ensures (λ _. of_option c.args.k) is w.value c.end.ensures.ended in
    record { outcome = inl (k.0, made) }

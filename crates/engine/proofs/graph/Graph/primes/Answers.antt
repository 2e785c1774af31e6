use Rattle.std.proofs.Common.{Err, refl, ap, ◌∙◌, inl, inr}
use Rattle.std.proofs.lemmas.Result.{err_from_is_err_and}
use Rattle.engine.proofs.Making.{made_set}
use Rattle.engine.proofs.graph.Graph.primes.Goals as goal

pub returns-in_err-condition-clause-out : goal.returns-in_err-condition-clause-out
returns-in_err-condition-clause-out g c =
    let p = err_from_is_err_and c.from_residual-in_err-condition.result c.from_residual-in_err-condition.ensures.1 in
    let no = c.in_err-condition.ensures in
    record { outcome = inl (c.in_ok-issued.ensures, inr (no.0, record { is = p.1 ∙ ap Err (p.2 ∙ no.1); kept = refl })) }

pub returns-clause-out : goal.returns-clause-out
returns-clause-out g c =
    let T = g.T.NodeTable in
    let w = c.primes-walked.ensures in
    let made = made_set T.limit T.nodes c.self.view_is w.room.size (g.met.T.NodeTable.sound c.primes-walked.new.manager.table) c.len-held.ensures c.args.f w.value c.end.ensures.ended in
    record { outcome = inl (c.in_ok-issued.ensures, inl (c.in_ok-condition.ensures, made)) }

use Rattle.std.proofs.Common.{Err, refl, ap, ◌∙◌, inl, inr}
use Rattle.std.proofs.lemmas.Result.{err_from_is_err_and}
use Rattle.engine.proofs.graph.Graph.sum.Goals as goal

pub returns-in_err-condition-clause-out : goal.returns-in_err-condition-clause-out
returns-in_err-condition-clause-out g c =
    let p = err_from_is_err_and c.from_residual-in_err-condition.result c.from_residual-in_err-condition.ensures.1 in
    let no = c.in_err-condition.ensures in
    record { outcome = inl ((c.in_ok-issued.ensures, c.in_ok-issued-2.ensures), inr ((λ x. no.0 x.0), record { is = p.1 ∙ ap Err (p.2 ∙ no.1); kept = refl })) }

pub returns-in_err-condition-2-clause-out : goal.returns-in_err-condition-2-clause-out
returns-in_err-condition-2-clause-out g c =
    let p = err_from_is_err_and c.from_residual-in_err-condition-2.result c.from_residual-in_err-condition-2.ensures.1 in
    let no = c.in_err-condition-2.ensures in
    record { outcome = inl ((c.in_ok-issued.ensures, c.in_ok-issued-2.ensures), inr ((λ x. no.0 x.1), record { is = p.1 ∙ ap Err (p.2 ∙ no.1); kept = refl })) }

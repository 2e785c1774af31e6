use Rattle.std.proofs.Common.{Err, ap, ◌∙◌, subst}
use Rattle.std.proofs.lemmas.Result.{err_from_is_err_and}
use Rattle.diagram.specs.Nodes.{meaning}
use Rattle.listing.specs.Outcome.{Listed}
use Rattle.engine.proofs.Listing.{unlisted, list_ended}
use Rattle.engine.proofs.lists.list.Goals as goal

pub returns-in_err-set-clause-out : goal.returns-in_err-set-clause-out
returns-in_err-set-clause-out g c =
    let p = err_from_is_err_and c.from_residual.result c.from_residual.ensures.1 in
    unlisted _ _ _ _ c.in_err-set.field-0.0 _ _ (p.1 ∙ ap Err p.2) c.in_err-set.ensures.out

pub returns-clause-out : goal.returns-clause-out
returns-clause-out g c =
    let T = g.T.NodeTable in
    let w = c.write_list-written in
    let l = subst (λ s. Listed (meaning (T.nodes s) c.in_ok-set.set) w.result c.args.out.now w.new.out) c.graph.view_is w.ensures in
    list_ended _ _ _ _ c.in_ok-set.set _ c.in_ok-set.ensures.out w.result _ c.len-held.result _ _ c.len-held.ensures l c.end.ensures.ended

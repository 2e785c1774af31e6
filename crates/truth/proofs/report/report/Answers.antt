use Rattle.std.proofs.Common.{◌≡◌, Ok, Err, vec_items, ◌∙◌}
use Rattle.std.proofs.lemmas.Result.{IfOk-weaker}
use Rattle.engine.specs.Faults.{graph_number, graph_place}
use Rattle.truth.specs.Report.{refusal, Counted, Report}
use Rattle.truth.proofs.Building.{formed, reported}
use Rattle.truth.proofs.report.report.Goals as goal

pub granted-requires : goal.granted-requires
granted-requires c = formed _ c.args.text.now _ _ _ c.in-Ok.is c.build-call.ensures

pub returns-in-Ok : goal.returns-in-Ok
returns-in-Ok c =
    let text = c.args.text.now in
    let n = c.build-call.result.nodes in
    IfOk-weaker c.granted.result (λ out. Counted text c.in-Ok.handle n (vec_items out)) (λ out. Report text (vec_items out))
    (λ out p. reported _ text (vec_items out) _ (Ok c.in-Ok.handle) n (c.as_mut_slice.ensures.len ∙ c.in_ok-bytes.ensures.len) c.in-Ok.is c.build-call.ensures p)
    c.granted.ensures

pub returns : goal.returns
returns c =
    let text = c.args.text.now in
    let e = c.in-Err.e in
    IfOk-weaker c.faulty.result (λ out. vec_items out ≡ refusal (graph_number e) (graph_place e)) (λ out. Report text (vec_items out))
    (λ out p. reported _ text (vec_items out) _ (Err e) c.build-call.result.nodes (c.as_mut_slice.ensures.len ∙ c.in_ok-bytes.ensures.len) c.in-Err.is c.build-call.ensures p)
    c.faulty.ensures

use Rattle.std.proofs.Common.{Err, sym, refl, ap, ◌∙◌, inl, inr}
use Rattle.std.proofs.lemmas.Result.{err_from_is_err_and}
use Rattle.card_text.specs.Card.{formulas}
use Rattle.card_walk.proofs.Trees.{card_trees}
use Rattle.engine.specs.Cards.{closing}
use Rattle.engine.proofs.drafts.read.Goals as goal

pub returns-in_err-outline-clause-out : goal.returns-in_err-outline-clause-out
returns-in_err-outline-clause-out g c =
    let p = err_from_is_err_and c.from_residual.result c.from_residual.ensures.1 in
    record { outcome = inr (record { fault = _; refused = c.in_err-outline.ensures; is = p.1 ∙ ap Err p.2; kept = refl }) }

pub sum_uses-requires : goal.sum_uses-requires
sum_uses-requires g c =
    let o = c.in_ok-outline.ensures in
    let t = card_trees o.rows o.card.good in
    record { short = o.card.short; card = (formulas o.rows, t.0, o.tail, t.1) }

pub returns-in_err-condition-clause-out : goal.returns-in_err-condition-clause-out
returns-in_err-condition-clause-out g c =
    let o = c.in_ok-outline.ensures in
    let t = card_trees o.rows o.card.good in
    let p = err_from_is_err_and c.from_residual-in_err-condition.result c.from_residual-in_err-condition.ensures.1 in
    record { outcome = inl (record { rows = o.rows; card = o.card; trees = t.0; are = t.1; answer = c.sum_uses.result; made = c.sum_uses.ensures.out (formulas o.rows) t.0 o.tail t.1; is = p.1 ∙ ap Err p.2 ∙ sym (ap closing c.in_err-condition.was) }) }

pub returns-clause-out : goal.returns-clause-out
returns-clause-out g c =
    let o = c.in_ok-outline.ensures in
    let t = card_trees o.rows o.card.good in
    record { outcome = inl (record { rows = o.rows; card = o.card; trees = t.0; are = t.1; answer = c.sum_uses.result; made = c.sum_uses.ensures.out (formulas o.rows) t.0 o.tail t.1; is = sym (ap closing c.in_ok-condition.was) }) }

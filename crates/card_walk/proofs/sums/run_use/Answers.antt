use Rattle.std.proofs.Common.{ap, ◌∙◌, rules}
use Rattle.std.proofs.lemmas.Result.{err_from_is_err_and}
use Rattle.formula.proofs.Drive.{unique}
use Rattle.formula.specs.Grammar.{postfix}
use Rattle.formula.specs.Answer.{Read}
use Rattle.card_walk.proofs.Adding.{part_refused, added}
use Rattle.card_walk.proofs.sums.run_use.Goals as goal

pub returns-in_err-h-clause-value : goal.returns-in_err-h-clause-value
returns-in_err-h-clause-value g c t d =
    let q : Read c.args.text.now c.unwrap-f.result = search rules in
    let p = err_from_is_err_and c.from_residual.result c.from_residual.ensures.1 in
    rw (p.1, p.2) (part_refused _ _ _ c.requires.sum t (c.in_err-h.ensures.value t (q.steps ∙ ap postfix (unique 32 32 _ q.tree t q.derived d))))

pub returns-clause-value : goal.returns-clause-value
returns-clause-value g c t d =
    let q : Read c.args.text.now c.unwrap-f.result = search rules in
    let made = c.in_ok-h.ensures in
    added _ _ _ c.requires.sum t (made.value t (q.steps ∙ ap postfix (unique 32 32 _ q.tree t q.derived d))) _ made.room.size c.apply.ensures.value

use Rattle.std.proofs.Common.{◌++◌, ap, ◌∙◌, rules}
use Rattle.std.specs.Option.{option_to_list}
use Rattle.std.proofs.lemmas.Result.{err_from_is_err_and}
use Rattle.compile.proofs.Bounds.{step_bounded}
use Rattle.compile.proofs.Ran.{ran_none, step_enough, step_refused, step_ran, some_left, ran_done}
use Rattle.compile.proofs.running.run_formula.Goals as goal

pub loop-step-init : goal.loop-step-init
loop-step-init g c = (ran_none _ _ _ (g.met.T.NodeTable.sound c.args.manager.now.table).formed c.new-stack.ensures, search rules)

pub make_step-requires-clause-enough : goal.make_step-requires-clause-enough
make_step-requires-clause-enough g c = step_enough c.loop-step.invariant.0 c.args.f.now c.steps-step-items.ensures _ c.loop-step-test.true

pub make_step-requires-clause-bounded : goal.make_step-requires-clause-bounded
make_step-requires-clause-bounded g c = step_bounded c.args.f.now c.loop-step.step-index _ c.steps-step-items.ensures c.loop-step-test.true

pub returns-in_err-h-clause-value : goal.returns-in_err-h-clause-value
returns-in_err-h-clause-value g c t e =
    let r = c.loop-step.invariant.0 in
    let p = err_from_is_err_and c.from_residual.result c.from_residual.ensures.1 in
    rw (p.1, p.2) (step_refused r c.args.f.now c.steps-step-items.ensures _ c.loop-step-test.true t e c.loop-step.invariant.1.size (c.in_err-h.ensures.value r.trees r.mean))

pub loop-step-preserved : goal.loop-step-preserved
loop-step-preserved g c =
    let r = c.loop-step.invariant.0 in
    let made = c.in_ok-h.ensures in
    (step_ran r c.args.f.now c.steps-step-items.ensures _ c.loop-step-test.true _ (made.value r.trees r.mean) (made.below r.trees r.mean) made.shrinks c.push.ensures.items, search rules)

pub unwrap-requires : goal.unwrap-requires
unwrap-requires g c = c.pop.ensures.variant.1 (some_left c.loop-step.invariant.0 c.args.f.now c.steps-step-items.ensures c.loop-step-test.false)

pub returns-clause-value : goal.returns-clause-value
returns-clause-value g c =
    let xs = c.pop.new.self.items in
    ran_done c.loop-step.invariant.0 c.args.f.now c.steps-step-items.ensures c.loop-step-test.false xs (c.pop.ensures.items ∙ ap (λ o. xs ++ option_to_list o) c.unwrap.ensures)

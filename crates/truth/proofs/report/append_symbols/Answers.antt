use Rattle.std.proofs.Common.{vec_items, subst, rules}
use Rattle.std.proofs.lemmas.List.{take_all}
use Rattle.truth.specs.Report.{Appended}
use Rattle.truth.proofs.Spelling.{appended_more}
use Rattle.truth.proofs.report.append_symbols.Goals as goal

pub loop-step-preserved : goal.loop-step-preserved
loop-step-preserved c = appended_more c.args.steps.now c.loop-step.step-index _ c.character.result _ _ _ c.requires (search rules) c.loop-step.invariant c.character.ensures c.in_ok-extend_from_slice.ensures.items

pub returns : goal.returns
returns c = subst (λ ss. Appended ss (vec_items c.args.out.now) (vec_items c.loop-step.out)) (take_all c.loop-step.step-index c.args.steps.now c.loop-step-test.false) c.loop-step.invariant

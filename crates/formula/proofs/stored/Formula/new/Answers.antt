use Rattle.std.proofs.Common.{false, [], ◌∷◌, ◌++◌, refl, ap, ◌∙◌, arith}
use Rattle.formula.specs.declared.steps.Leaf.TheVariants.{Constant}
use Rattle.formula.specs.declared.steps.Step.TheVariants.{Load}
use Rattle.formula.specs.Grammar.{leaf, postfix, single}
use Rattle.formula.proofs.Derive.{weaker}
use Rattle.formula.proofs.stored.Formula.new.Goals as goal

-- the text `0`
pub invariant_of-result-clause-spelled : goal.invariant_of-result-clause-spelled
unfolding postfix
invariant_of-result-clause-spelled c = ∣ (48 ∷ [], leaf (Constant false), weaker 1 6 (omega arith) (single refl), c.push.ensures.items ∙ ap (λ l. l ++ Load (Constant false) ∷ []) c.new-steps.ensures) ∣₁

pub returns : goal.returns
unfolding postfix
returns c = c.push.ensures.items ∙ ap (λ l. l ++ Load (Constant false) ∷ []) c.new-steps.ensures

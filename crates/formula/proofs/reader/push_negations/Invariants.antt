use Rattle.std.proofs.Common.{◌≡◌, ◌++◌, replicate}
use Rattle.formula.specs.declared.steps.Step.TheVariants.{Negate}
use Rattle.formula.proofs.reader.push_negations.Given as goal

abbrev pub invariant-loop : goal.invariant-loop
invariant-loop l = l.out.items ≡ l.initial.out.items ++ replicate l.counter Negate

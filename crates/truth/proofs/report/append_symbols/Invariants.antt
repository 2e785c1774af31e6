use Rattle.std.proofs.Common.{take, vec_items}
use Rattle.truth.specs.Report.{Appended}
use Rattle.truth.proofs.report.append_symbols.Given as goal

abbrev pub invariant-loop-step : goal.invariant-loop-step
invariant-loop-step l = Appended (take l.step-index l.steps) (vec_items l.initial.out) (vec_items l.out)

use Rattle.std.proofs.Common.{◌+◌, ◌-◌, ◌*◌, ◌≤◌, List, length}
use Rattle.formula.specs.declared.steps.Step.{Step}
use Rattle.formula.specs.Reads.{Reads}
use Rattle.formula.proofs.Derive.{Sofar}
use Rattle.formula.proofs.reader.+level_operand_primary.Given as goal

abbrev pub decreases-level : goal.decreases-level
decreases-level l = 9 * (32 - l.depth) + (8 - l.floor)

abbrev pub decreases-operand : goal.decreases-operand
decreases-operand l = 9 * (32 - l.depth) + 1

abbrev pub decreases-primary : goal.decreases-primary
decreases-primary l = 9 * (32 - l.depth)

-- over any steps written before the first operand, since the loop does not know those at the call
abbrev pub invariant-level-loop-p : goal.invariant-level-loop-p
invariant-level-loop-p l = (l.p ≤ length l.text) × (length l.out.items + l.initial.p ≤ length l.initial.out.items + l.p) × (l.initial.p ≤ l.p) × (l.top ≤ 5) × ((before : List Step) → Reads l.text l.at l.depth 6 6 before l.initial.out.items l.initial.p → Sofar l.text l.at l.depth l.floor before l.out.items l.p l.top)

abbrev pub decreases-level-loop-p : goal.decreases-level-loop-p
decreases-level-loop-p l = length l.text - l.p

-- Facts that have one proof at most, so that they come out of a ghost field again.
use Rattle.std.proofs.Common.{◌≡◌, ℕ, List, [], ◌∷◌}
use mathlib.Core.HLevel.{Π_prop, ⊥_prop}
use mathlib.Core.Logic.{∥∥₁_elim}
use native.Mathlib.Bridge.{le_prop}
use base.Stored.{Coded-set, coded_list}
use Rattle.diagram.specs.declared.Node.{Node}
use Rattle.diagram.specs.contracts.Node.{the_row}
use Rattle.diagram.specs.Nodes.{Fit, WellFormed}
use Rattle.table.specs.Plain.{Cleared, plain_nodes}

run_set : (a b : List Node) → IsProp (a ≡ b)
run_set = Coded-set (coded_list the_row.coded)

pub fit_prop : (ns : List Node) (n : Node) → IsProp (Fit ns n)
fit_prop ns n x y = λ i. record {
  first = le_prop x.first y.first i;
  last = le_prop x.last y.last i;
  differ = Π_prop (λ _. ⊥_prop) x.differ y.differ i;
  low_issued = le_prop x.low_issued y.low_issued i;
  high_issued = le_prop x.high_issued y.high_issued i;
  low_deeper = le_prop x.low_deeper y.low_deeper i;
  high_deeper = le_prop x.high_deeper y.high_deeper i;
}

pub formed_prop : (ns : List Node) → IsProp (WellFormed ns)
formed_prop [] = λ x y i. tt
formed_prop (n ∷ ns) = λ x y i. (fit_prop ns n x.0 y.0 i, (Π_prop λ h. Π_prop λ a. ⊥_prop) x.1 y.1 i, formed_prop ns x.2 y.2 i)

pub formed_out : (count : ℕ) (run : List Node) → ∥ WellFormed (plain_nodes count run) ∥₁ → WellFormed (plain_nodes count run)
formed_out count run p = ∥∥₁_elim p (formed_prop (plain_nodes count run)) (λ w. w)

pub cleared_out : (count : ℕ) (run : List Node) → ∥ Cleared count run ∥₁ → Cleared count run
cleared_out count run p = ∥∥₁_elim p (run_set _ _) (λ e. e)

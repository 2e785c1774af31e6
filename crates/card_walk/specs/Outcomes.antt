-- What adding the formulas of the trees ts to the function f leaves of a table of size N with the nodes `old`.
use Rattle.std.specs.Prelude.{◌≡◌, ℕ, List, Ok, Err, Result}
use Rattle.diagram.specs.declared.Node.{Node}
use Rattle.diagram.specs.Functions.{Fun}
use Rattle.diagram.specs.Nodes.{Issued, meaning}
use Rattle.diagram.specs.Outcomes.{Grants, Denies}
use Rattle.table.specs.declared.faults.Reason.TheVariants.{Full}
use Rattle.table.specs.declared.faults.TableFault.{TableFault}
use Rattle.table.specs.Faults.{fault}
use Rattle.formula.specs.Grammar.{Tree}
use Rattle.card_walk.specs.Sums.{sum_onto, SumRestriction}

-- h means the sum, and all that it works on is made
pub record SumMade (f : Fun) (old : List Node) (ts : List Tree) (h : ℕ) (new : List Node) : Type 0 where
  pub issued : Issued new h
  pub means : meaning new h ≡ sum_onto f ts
  pub grants : Grants (SumRestriction f ts) old new

-- the table is full, and something that the sum works on has no handle
pub record SumRefused (N : ℕ) (f : Fun) (old : List Node) (ts : List Tree) (e : TableFault) (new : List Node) : Type 0 where
  pub is : e ≡ fault Full N
  pub denies : Denies N (SumRestriction f ts) old new

abbrev pub Summing : ℕ → Fun → List Node → List Tree → Result ℕ TableFault → List Node → Type 0
Summing N f old ts (Ok h) new = SumMade f old ts h new
Summing N f old ts (Err e) new = SumRefused N f old ts e new

pub record Summed (N : ℕ) (f : Fun) (old : List Node) (ts : List Tree) (r : Result ℕ TableFault) (new : List Node) : Type 0 where
  pub outcome : Summing N f old ts r new

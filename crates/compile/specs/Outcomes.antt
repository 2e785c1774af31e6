-- What running a formula of the tree t leaves of a table of size N with the nodes `old`.
use Rattle.std.specs.Prelude.{◌≡◌, ℕ, List, Ok, Err, Result}
use Rattle.diagram.specs.declared.Node.{Node}
use Rattle.diagram.specs.Nodes.{Issued, meaning}
use Rattle.diagram.specs.Outcomes.{Grants, Denies}
use Rattle.table.specs.declared.faults.Reason.TheVariants.{Full}
use Rattle.table.specs.declared.faults.TableFault.{TableFault}
use Rattle.table.specs.Faults.{fault}
use Rattle.formula.specs.Grammar.{Tree}
use Rattle.compile.specs.Trees.{of_tree, PartRestriction}

-- h means the tree, and every part of it is made
pub record Built (old : List Node) (t : Tree) (h : ℕ) (new : List Node) : Type 0 where
  pub issued : Issued new h
  pub means : meaning new h ≡ of_tree t
  pub grants : Grants (PartRestriction t) old new

-- the table is full, and some part of the tree has a restriction without a handle
pub record Refused (N : ℕ) (old : List Node) (t : Tree) (e : TableFault) (new : List Node) : Type 0 where
  pub is : e ≡ fault Full N
  pub denies : Denies N (PartRestriction t) old new

abbrev pub Compiling : ℕ → List Node → Tree → Result ℕ TableFault → List Node → Type 0
Compiling N old t (Ok h) new = Built old t h new
Compiling N old t (Err e) new = Refused N old t e new

pub record Compiled (N : ℕ) (old : List Node) (t : Tree) (r : Result ℕ TableFault) (new : List Node) : Type 0 where
  pub outcome : Compiling N old t r new

-- Inserting two nodes, or none of them.
use Rattle.std.specs.Prelude.{◌≡◌, ℕ, ◌⊎◌, List, Ok, Err, Result}
use Rattle.diagram.specs.declared.Node.{Node}
use Rattle.table.specs.declared.faults.TableFault.{TableFault}
use Rattle.table.specs.declared.pair.PairFault.{PairFault}
use Rattle.table.specs.declared.pair.PairFault.TheVariants.{Table}
use Rattle.table.specs.Model.{Inserted}

-- both were granted, and h is the second's handle
pub record Granted (N : ℕ) (ns : List Node) (a b : Node) (h : ℕ) (new : List Node) : Type 0 where
  pub first : ℕ
  pub middle : List Node
  pub begun : Inserted N ns a (Ok first) middle
  pub done : Inserted N middle b (Ok h) new

-- the first was granted and the second refused, and the nodes are as before both
pub record TakenBack (N : ℕ) (ns : List Node) (a b : Node) (e : TableFault) (new : List Node) : Type 0 where
  pub first : ℕ
  pub middle : List Node
  pub begun : Inserted N ns a (Ok first) middle
  pub refused : Inserted N middle b (Err e) middle
  pub kept : new ≡ ns

abbrev pub Pairing : ℕ → List Node → Node → Node → Result ℕ PairFault → List Node → Type 0
Pairing N ns a b (Ok h) new = Granted N ns a b h new
Pairing N ns a b (Err (Table e)) new = Inserted N ns a (Err e) new ⊎ TakenBack N ns a b e new

pub record Paired (N : ℕ) (ns : List Node) (a b : Node) (r : Result ℕ PairFault) (new : List Node) : Type 0 where
  pub outcome : Pairing N ns a b r new

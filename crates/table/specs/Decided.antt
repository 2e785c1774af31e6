-- Each outcome relation has one answer.
use Rattle.std.specs.Prelude.{◌≡◌, ℕ, List, Ok, Result}
use Rattle.diagram.specs.declared.Node.{Node}
use Rattle.diagram.specs.Nodes.{WellFormed}
use Rattle.table.specs.declared.faults.TableFault.{TableFault}
use Rattle.table.specs.Model.{Got, Inserted}

-- one answer, and one sequence after
abbrev pub InsertDecided : Type 0
InsertDecided = (N : ℕ) (ns : List Node) (n : Node) (r s : Result ℕ TableFault) (a b : List Node) → WellFormed ns → Inserted N ns n r a → Inserted N ns n s b → (r ≡ s) × (a ≡ b)

abbrev pub GetDecided : Type 0
GetDecided = (N : ℕ) (ns : List Node) (h : ℕ) (r s : Result Node TableFault) → Got N ns h r → Got N ns h s → r ≡ s

-- inserted again at once, a node has the same handle, and nothing changes
abbrev pub InsertAgain : Type 0
InsertAgain = (N : ℕ) (ns : List Node) (n : Node) (h : ℕ) (r : Result ℕ TableFault) (a b : List Node) → WellFormed ns → Inserted N ns n (Ok h) a → Inserted N a n r b → (r ≡ Ok h) × (b ≡ a)

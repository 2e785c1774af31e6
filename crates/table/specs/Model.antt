-- What a table of size N with the nodes ns (newest first) answers, and its nodes then.
use Rattle.std.specs.Prelude.{◌≡◌, ℕ, ◌+◌, ◌-◌, ◌<◌, ◌≤◌, ◌⊎◌, List, ◌∷◌, length, drop, Ok, Err, Result}
use Rattle.diagram.specs.declared.Node.{Node}
use Rattle.diagram.specs.Nodes.{Issued, At, Fit, WellFormed}
use Rattle.table.specs.declared.faults.Reason.TheVariants.{NotIssued, IllFormed, Full}
use Rattle.table.specs.declared.faults.TableFault.{TableFault}
use Rattle.table.specs.Faults.{fault}

-- every table: at most 65,000 nodes, room for those held, and they are well formed
pub record Sound (N : ℕ) (ns : List Node) : Type 0 where
  pub small : N ≤ 65000
  pub room : length ns ≤ N
  pub formed : WellFormed ns

-- n is held nowhere in ns
abbrev pub Absent : List Node → Node → Type 0
Absent ns n = (h : ℕ) → ¬ At ns h n

-- getting handle h: its node, or 9 where it is not issued or below 2
abbrev pub Getting : ℕ → List Node → ℕ → Result Node TableFault → Type 0
Getting N ns h (Ok n) = At ns h n
Getting N ns h (Err e) = (2 ≤ h → ¬ Issued ns h) × (e ≡ fault NotIssued N)

pub record Got (N : ℕ) (ns : List Node) (h : ℕ) (r : Result Node TableFault) : Type 0 where
  pub outcome : Getting N ns h r

-- an equal node was held, and nothing changed
pub record Found (ns : List Node) (n : Node) (h : ℕ) (new : List Node) : Type 0 where
  pub at : At ns h n
  pub kept : new ≡ ns

-- no equal node was held, there was room, and the node is now the newest
pub record Entered (N : ℕ) (ns : List Node) (n : Node) (h : ℕ) (new : List Node) : Type 0 where
  pub absent : Absent ns n
  pub room : length ns < N
  pub handle : h ≡ length ns + 2
  pub added : new ≡ n ∷ ns

-- 13 where the node does not fit, whatever else is true
pub record Unfit (N : ℕ) (ns : List Node) (n : Node) (e : TableFault) (new : List Node) : Type 0 where
  pub unfit : ¬ Fit ns n
  pub is : e ≡ fault IllFormed N
  pub kept : new ≡ ns

-- 14 where it fits, no equal node is held, and there is no room
pub record NoRoom (N : ℕ) (ns : List Node) (n : Node) (e : TableFault) (new : List Node) : Type 0 where
  pub fit : Fit ns n
  pub absent : Absent ns n
  pub full : length ns ≡ N
  pub is : e ≡ fault Full N
  pub kept : new ≡ ns

-- inserting n
abbrev pub Inserting : ℕ → List Node → Node → Result ℕ TableFault → List Node → Type 0
Inserting N ns n (Ok h) new = Fit ns n × (Found ns n h new ⊎ Entered N ns n h new)
Inserting N ns n (Err e) new = Unfit N ns n e new ⊎ NoRoom N ns n e new

pub record Inserted (N : ℕ) (ns : List Node) (n : Node) (r : Result ℕ TableFault) (new : List Node) : Type 0 where
  pub outcome : Inserting N ns n r new

-- the first m of the nodes, or all where there are fewer
abbrev pub oldest : ℕ → List Node → List Node
oldest m ns = drop (length ns - m) ns

-- Which functions a sequence holds, and how many functions a set has.
use Rattle.std.specs.Prelude.{◌≡◌, ℕ, ◌≤◌, ◌⊎◌, ◌↔◌, List, [], ◌∷◌, length}
use Rattle.diagram.specs.declared.Node.{Node}
use Rattle.diagram.specs.Functions.{Fun, Constant, NodeOf}
use Rattle.diagram.specs.Nodes.{Issued, meaning}

-- Some issued handle, 0 and 1 among them, means g.
pub record HasHandle (ns : List Node) (g : Fun) : Type 0 where
  pub at : ℕ
  pub issued : Issued ns at
  pub is : meaning ns at ≡ g

-- Some issued handle from 2 up means g.
pub record Held (ns : List Node) (g : Fun) : Type 0 where
  pub at : ℕ
  pub two : 2 ≤ at
  pub issued : Issued ns at
  pub is : meaning ns at ≡ g

-- g is one of the functions of a list.
abbrev pub Among : Fun → List Fun → Type 0
Among g [] = ⊥
Among g (f ∷ fs) = (f ≡ g) ⊎ Among g fs

-- No two functions of a list are equal.
abbrev pub Distinct : List Fun → Type 0
Distinct [] = Unit {0}
Distinct (f ∷ fs) = (¬ Among f fs) × Distinct fs

-- P has exactly n functions: those of a list of n distinct functions.
pub record Count (P : Fun → Type 0) (n : ℕ) : Type 0 where
  pub functions : List Fun
  pub count : length functions ≡ n
  pub distinct : Distinct functions
  pub each : (g : Fun) → P g ↔ Among g functions

-- There are n distinct functions, none constant, each held in ns or in P.
pub record AtLeast (n : ℕ) (ns : List Node) (P : Fun → Type 0) : Type 0 where
  pub functions : List Fun
  pub count : length functions ≡ n
  pub distinct : Distinct functions
  pub each : (g : Fun) → Among g functions → (¬ Constant g) × (Held ns g ⊎ P g)

-- The nodes of the functions of a list.
abbrev pub NodesOf : List Fun → Fun → Type 0
NodesOf fs g = (f : Fun) × Among f fs × NodeOf f g

-- How a call ends after what it has done; for the contract of an inner function.
use Rattle.std.specs.Prelude.{◌≡◌, ℕ, List, Ok, Err, Result}
use Rattle.diagram.specs.declared.Node.{Node}
use Rattle.table.specs.Model.{oldest}

-- the answer stands; or its fault is carried on, and of the nodes the first `count` are kept
abbrev pub Ending : {A E F : Type 0} → (E → F → Type 0) → ℕ → Result A E → List Node → Result A F → List Node → Type 0
Ending gives count (Ok a) mid r new = (r ≡ Ok a) × (new ≡ mid)
Ending {F = F} gives count (Err e) mid r new = (f : F) × gives e f × (r ≡ Err f) × (new ≡ oldest count mid)

pub record Ended {A E F : Type 0} (gives : E → F → Type 0) (count : ℕ) (done : Result A E) (mid : List Node) (r : Result A F) (new : List Node) : Type 0 where
  pub outcome : Ending gives count done mid r new

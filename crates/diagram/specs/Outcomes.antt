-- What a call leaves of the nodes before it, by the set P of its working functions.
use Rattle.std.specs.Prelude.{◌≡◌, ℕ, ◌+◌, ◌≤◌, List, length}
use Rattle.diagram.specs.declared.Node.{Node}
use Rattle.diagram.specs.Functions.{Fun, Constant, Restriction}
use Rattle.diagram.specs.Nodes.{Issued, meaning, WellFormed, Extends, Stands}
use Rattle.diagram.specs.Counts.{HasHandle, Held, AtLeast}

-- The nodes are well formed, and each new one means a function of P.
pub record Grows (P : Fun → Type 0) (old new : List Node) : Type 0 where
  pub extends : Extends old new
  pub well_formed : WellFormed new
  pub fresh : (k : ℕ) → length old + 2 ≤ k → Issued new k → P (meaning new k)

-- Success: every function of P has a handle.
pub record Grants (P : Fun → Type 0) (old new : List Node) : Type 0 where
  pub grows : Grows P old new
  pub all : (g : Fun) → P g → HasHandle new g

-- Failure, before the new nodes are taken back: no room is left, and some function of P has no handle.
pub record Denies (limit : ℕ) (P : Fun → Type 0) (old new : List Node) : Type 0 where
  pub grows : Grows P old new
  pub full : length new ≡ limit
  pub node : Fun
  pub of : P node
  pub missing : ¬ HasHandle new node

-- Success with a handle: h, at level l or deeper, means f, and each new node means a restriction of f.
pub record Gives (old new : List Node) (l h : ℕ) (f : Fun) : Type 0 where
  pub grows : Grows (Restriction f) old new
  pub stands : Stands new l h f

-- A whole call's success: all of P that is not constant is held, and with what was held before it is within the limit.
pub record Granted (limit : ℕ) (P : Fun → Type 0) (old new : List Node) : Type 0 where
  pub grows : Grows P old new
  pub all : (g : Fun) → P g → ¬ Constant g → Held new g
  pub few : ¬ AtLeast (limit + 1) old P

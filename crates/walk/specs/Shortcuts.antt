-- Answers that need no descent.
use Rattle.std.specs.Prelude.{◌≡◌, ℕ, ◌<◌, ◌≤◌, min, Bool, true, false, cond, List, Some, None, Option}
use Rattle.diagram.specs.declared.Node.{Node}
use Rattle.diagram.specs.Nodes.{Issued, meaning, level_of, WellFormed, Stands}
use Rattle.walk.specs.declared.ops.Op.{Op}
use Rattle.walk.specs.Ops.{joined}

-- k answers a where h answers no, and b where h answers yes; there is no k where that is the complement of h
abbrev pub Simplifies : Bool → Bool → ℕ → Option ℕ → Type 0
Simplifies a b h (Some k) = (ns : List Node) → WellFormed ns → Issued ns h → Stands ns (level_of ns h) k (λ s. cond (meaning ns h s) b a)
Simplifies a b h None = (a ≡ true) × (b ≡ false)

pub record Simple (a b : Bool) (h : ℕ) (r : Option ℕ) : Type 0 where
  pub outcome : Simplifies a b h r

-- k is the joining of f and g in every sequence that has both; where there is no k, they are not both constants
abbrev pub Shortens : Op → ℕ → ℕ → Option ℕ → Type 0
Shortens op f g (Some k) = (ns : List Node) → WellFormed ns → Issued ns f → Issued ns g → Stands ns (min (level_of ns f) (level_of ns g)) k (joined op (meaning ns f) (meaning ns g))
Shortens op f g None = f < 2 → 2 ≤ g

pub record Short (op : Op) (f g : ℕ) (r : Option ℕ) : Type 0 where
  pub outcome : Shortens op f g r

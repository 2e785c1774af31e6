-- A formula's parts, as functions of the variables.
use Rattle.std.specs.Prelude.{◌≡◌, ℕ, ◌⊎◌, List, [], ◌∷◌}
use Rattle.diagram.specs.declared.Node.{Node}
use Rattle.diagram.specs.Functions.{Fun, sign_level, Restriction, NodeOf}
use Rattle.diagram.specs.Nodes.{Issued, meaning}
use Rattle.formula.specs.declared.steps.Operator.{Operator}
use Rattle.formula.specs.Grammar.{Tree, neg, binary}
use Rattle.formula.specs.Meaning.{truth}

-- a tree's truth table, as a function of the sign variables
unfoldable pub of_tree : Tree → Fun
of_tree t s = truth t (λ k. s (sign_level k))

-- Part t u: u is t itself, or a part of an operand of t
pub data Part : Tree → Tree → Type 0 where
  whole : {t : Tree} → Part t t
  negated : {t u : Tree} → Part t u → Part (neg t) u
  left : {op : Operator} {l r u : Tree} → Part l u → Part (binary op l r) u
  right : {op : Operator} {l r u : Tree} → Part r u → Part (binary op l r) u

-- the working nodes of a formula: those of each of its parts
pub record PartNode (t : Tree) (g : Fun) : Type 0 where
  pub part : Tree
  pub of : Part t part
  pub node : NodeOf (of_tree part) g

-- the same with constants, as walks compose
pub record PartRestriction (t : Tree) (g : Fun) : Type 0 where
  pub part : Tree
  pub of : Part t part
  pub restriction : Restriction (of_tree part) g

-- g is such a restriction for some tree of a stack
abbrev pub StackRestriction : List Tree → Fun → Type 0
StackRestriction [] g = ⊥
StackRestriction (u ∷ us) g = PartRestriction u g ⊎ StackRestriction us g

-- the handles of a stack mean its trees
abbrev pub Mean : List Node → List ℕ → List Tree → Type 0
Mean ns [] [] = Unit {0}
Mean ns [] (u ∷ us) = ⊥
Mean ns (h ∷ hs) [] = ⊥
Mean ns (h ∷ hs) (u ∷ us) = Issued ns h × (meaning ns h ≡ of_tree u) × Mean ns hs us

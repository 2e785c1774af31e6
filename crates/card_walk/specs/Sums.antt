-- The sum of some formulas, and the working nodes of making it one by one.
use Rattle.std.specs.Prelude.{ℕ, ◌≤◌, false, ◌||◌, ◌⊎◌, List, [], ◌∷◌, length}
use Rattle.diagram.specs.Functions.{Fun, Restriction, NodeOf}
use Rattle.formula.specs.Grammar.{Tree, Derives}
use Rattle.compile.specs.Trees.{of_tree, PartNode, PartRestriction}

-- the text is a formula of at most 4,096 bytes
pub record IsFormula (text : List ℕ) : Type 0 where
  pub short : length text ≤ 4096
  pub tree : Tree
  pub derived : Derives 32 1 text tree

-- always no
abbrev pub never : Fun
never s = false

-- yes where f or g is
abbrev pub either : Fun → Fun → Fun
either f g s = f s || g s

-- f with the formulas of some trees added, one by one
abbrev pub sum_onto : Fun → List Tree → Fun
sum_onto f [] = f
sum_onto f (t ∷ ts) = sum_onto (either f (of_tree t)) ts

-- yes where some tree is
abbrev pub some_of : List Tree → Fun
some_of [] s = false
some_of (t ∷ ts) s = of_tree t s || some_of ts s

-- g is a node of a part of one of the trees, or of a sum on the way
abbrev pub SumNode : Fun → List Tree → Fun → Type 0
SumNode f [] g = ⊥
SumNode f (t ∷ ts) g = (PartNode t g ⊎ NodeOf (either f (of_tree t)) g) ⊎ SumNode (either f (of_tree t)) ts g

-- the same with constants, as walks compose
abbrev pub SumRestriction : Fun → List Tree → Fun → Type 0
SumRestriction f [] g = ⊥
SumRestriction f (t ∷ ts) g = (PartRestriction t g ⊎ Restriction (either f (of_tree t)) g) ⊎ SumRestriction (either f (of_tree t)) ts g

-- the trees of some formulas, one by one
abbrev pub TreesOf : List (List ℕ) → List Tree → Type 0
TreesOf [] [] = Unit {0}
TreesOf [] (t ∷ ts) = ⊥
TreesOf (f ∷ fs) [] = ⊥
TreesOf (f ∷ fs) (t ∷ ts) = Derives 32 1 f t × TreesOf fs ts

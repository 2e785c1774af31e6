-- What one step does to a stack of trees, the newest first.
use Rattle.std.specs.Prelude.{◌≤◌, false, List, [], ◌∷◌}
use Rattle.formula.specs.declared.steps.Leaf.TheVariants.{Constant, Option}
use Rattle.formula.specs.declared.steps.Step.{Step}
use Rattle.formula.specs.declared.steps.Step.TheVariants.{Load, Negate, Apply}
use Rattle.formula.specs.Grammar.{Tree, leaf, neg, binary}

-- the tree that a step puts on the stack (any tree where operands are missing)
abbrev pub top : Step → List Tree → Tree
top (Load a) us = leaf a
top Negate [] = leaf (Constant false)
top Negate (x ∷ us) = neg x
top (Apply op) [] = leaf (Constant false)
top (Apply op) (y ∷ []) = leaf (Constant false)
top (Apply op) (y ∷ (x ∷ us)) = binary op x y

-- the trees that a step leaves below it
abbrev pub under : Step → List Tree → List Tree
under (Load a) us = us
under Negate [] = []
under Negate (x ∷ us) = us
under (Apply op) [] = []
under (Apply op) (y ∷ []) = []
under (Apply op) (y ∷ (x ∷ us)) = us

-- an option is one of the twelve
abbrev pub Bounded : Step → Type 0
Bounded (Load (Constant b)) = Unit {0}
Bounded (Load (Option k)) = (1 ≤ k) × (k ≤ 12)
Bounded Negate = Unit {0}
Bounded (Apply op) = Unit {0}

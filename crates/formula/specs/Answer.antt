-- What reading a text answers.
use Rattle.std.specs.Prelude.{◌≡◌, ℕ, ◌+◌, ◌<◌, ◌≤◌, List, length, take, slice_index}
use Rattle.formula.specs.declared.steps.Step.{Step}
use Rattle.formula.specs.declared.stored.Formula.{Formula}
use Rattle.formula.specs.declared.faults.FormulaFault.{FormulaFault}
use Rattle.formula.specs.declared.faults.FormulaFault.TheVariants.{TooLong, ForeignByte, Unexpected, TooDeep}
use Rattle.formula.specs.declared.steps.Token.TheVariants.{Opening, Foreign}
use Rattle.formula.specs.Notation.{notation}
use Rattle.formula.specs.Grammar.{Tree, postfix, Derives, Viable, Longest}

-- the steps of a formula that was read
abbrev pub steps_of : Formula → List Step
steps_of f = f.steps.items

-- the text is a formula, and the steps are those of its tree and nothing else
pub record Read (text : List ℕ) (f : Formula) : Type 0 where
  pub short : length text ≤ 4096
  pub tree : Tree
  pub derived : Derives 32 1 text tree
  pub steps : steps_of f ≡ postfix tree

-- the text is short enough and no formula, and its longest beginning that some formula continues has p bytes
pub record Broken (text : List ℕ) (p : ℕ) : Type 0 where
  pub short : length text ≤ 4096
  pub none : (t : Tree) → Derives 32 1 text t → ⊥
  pub place : Longest text p

-- with the byte at p the text would continue, were nesting not limited
abbrev pub TooDeepAt : List ℕ → ℕ → Type 0
TooDeepAt text p = (p < length text) × (notation (slice_index text p) ≡ Opening) × ((n : ℕ) × Viable n (take (p + 1) text))

-- the byte at p is none of the 22 characters
abbrev pub ForeignAt : List ℕ → ℕ → Type 0
ForeignAt text p = (p < length text) × (notation (slice_index text p) ≡ Foreign)

-- a text that is too long; a foreign byte at the place; an opening bracket there that only the limit of nesting forbids;
-- any other byte there, or the text's end
abbrev pub Refused : List ℕ → FormulaFault → Type 0
Refused text TooLong = 4096 < length text
Refused text (ForeignByte p) = Broken text p × ForeignAt text p
Refused text (TooDeep p) = Broken text p × TooDeepAt text p
Refused text (Unexpected p) = Broken text p × (ForeignAt text p → ⊥) × (TooDeepAt text p → ⊥)

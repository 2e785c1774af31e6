-- The formulas: which texts are formulas, and of which tree.
use Rattle.std.specs.Prelude.{◌≡◌, ℕ, suc, ◌<◌, ◌≤◌, List, [], ◌∷◌, ◌++◌, length, take}
use Rattle.formula.specs.declared.steps.Leaf.{Leaf}
use Rattle.formula.specs.declared.steps.Operator.{Operator}
use Rattle.formula.specs.declared.steps.Step.{Step}
use Rattle.formula.specs.declared.steps.Step.TheVariants.{Load, Negate, Apply}
use Rattle.formula.specs.declared.steps.Token.TheVariants.{Operand, Negation, Infix, Opening, Closing}
use Rattle.formula.specs.Notation.{notation}

-- what a formula says
pub data Tree : Type 0 where
  leaf : Leaf → Tree
  neg : Tree → Tree
  binary : Operator → Tree → Tree → Tree

-- the postfix form: each operator behind its operands
unfoldable pub postfix : Tree → List Step
postfix (leaf a) = Load a ∷ []
postfix (neg t) = postfix t ++ Negate ∷ []
postfix (binary op l r) = postfix l ++ postfix r ++ Apply op ∷ []

-- Derives n k text tree: the text is a formula of that tree, with brackets nested at most n deep, whose operators outside
-- brackets bind at least as strongly as k; 6 is an operand, 1 any formula
pub data Derives : ℕ → ℕ → List ℕ → Tree → Type 0 where
  -- a letter or a constant
  single : {n b : ℕ} {a : Leaf} → notation b ≡ Operand a → Derives n 6 (b ∷ []) (leaf a)
  -- `!` before an operand
  negated : {n b : ℕ} {bs : List ℕ} {t : Tree} → notation b ≡ Negation → Derives n 6 bs t → Derives n 6 (b ∷ bs) (neg t)
  -- any formula in brackets, nested one less
  bracket : {m n : ℕ} (a b : ℕ) {bs : List ℕ} {t : Tree} → notation a ≡ Opening → notation b ≡ Closing → suc m ≡ n → Derives m 1 bs t → Derives n 6 (a ∷ bs ++ b ∷ []) t
  -- what binds more strongly
  looser : {n k : ℕ} {bs : List ℕ} {t : Tree} → Derives n (suc k) bs t → Derives n k bs t
  -- an operator of strength 3 or more, which groups to the left
  chained : {n k : ℕ} (b : ℕ) {op : Operator} {bs cs : List ℕ} {l r : Tree} → notation b ≡ Infix k op → 3 ≤ k → Derives n k bs l → Derives n (suc k) cs r → Derives n k (bs ++ b ∷ cs) (binary op l r)
  -- an operator of strength 1 or 2, which does not chain
  once : {n k : ℕ} (b : ℕ) {op : Operator} {bs cs : List ℕ} {l r : Tree} → notation b ≡ Infix k op → k < 3 → Derives n (suc k) bs l → Derives n (suc k) cs r → Derives n k (bs ++ b ∷ cs) (binary op l r)

-- the steps are the postfix form of some formula
abbrev pub IsPostfix : List Step → Type 0
IsPostfix steps = (text : List ℕ) × (t : Tree) × Derives 32 1 text t × (steps ≡ postfix t)

-- some formula of any length, nested at most n deep, continues the text
abbrev pub Viable : ℕ → List ℕ → Type 0
Viable n text = (more : List ℕ) × (t : Tree) × Derives n 1 (text ++ more) t

-- the longest beginning of the text that some formula, nested at most 32 deep, continues has p bytes
pub record Longest (text : List ℕ) (p : ℕ) : Type 0 where
  pub inside : p ≤ length text
  pub viable : Viable 32 (take p text)
  pub longest : (q : ℕ) → q ≤ length text → Viable 32 (take q text) → q ≤ p

-- one text has at most one tree, whatever the limits of nesting
abbrev pub OneTree : Type 0
OneTree = (n i : ℕ) (text : List ℕ) (t u : Tree) → Derives n 1 text t → Derives i 1 text u → t ≡ u

-- one postfix form has one tree
abbrev pub PostfixInjective : Type 0
PostfixInjective = (t u : Tree) → postfix t ≡ postfix u → t ≡ u

-- What the inner functions of the reader ensure.
use Rattle.std.specs.Prelude.{◌≡◌, ℕ, suc, ◌+◌, ◌-◌, ◌<◌, ◌≤◌, true, List, ◌++◌, length, ◌≢◌, slice_index}
use Rattle.std.specs.List.{between}
use Rattle.formula.specs.declared.steps.Operator.{Operator}
use Rattle.formula.specs.declared.faults.FormulaFault.{FormulaFault}
use Rattle.formula.specs.declared.faults.FormulaFault.TheVariants.{TooLong, ForeignByte, Unexpected, TooDeep}
use Rattle.formula.specs.declared.steps.Token.TheVariants.{Opening, Foreign, Infix}
use Rattle.formula.specs.Notation.{notation}
use Rattle.formula.specs.Grammar.{Tree, postfix, Derives}
use Rattle.formula.specs.Automaton.{Chain, Outer, State, height, dead, operand, operator, outside, inside, fold, blocked, run, Below, Drives}
use Rattle.formula.specs.declared.steps.Step.{Step}
use Rattle.formula.specs.Faults.{fault_place}

-- an operator at n of strength j or more cannot follow
abbrev pub Stops : List ℕ → ℕ → ℕ → Chain → Tree → Type 0
Stops text n j c x = n < length text → (k : ℕ) (s : Operator) → notation (slice_index text n) ≡ Infix k s → j ≤ k → (k < 3) × (blocked k (fold (suc k) c x).0 ≡ true)

-- the text from `at` to `n` is a formula of strength k, its steps were added, and no operator of strength j or more follows
pub record Reads (text : List ℕ) (at depth k j : ℕ) (before since : List Step) (n : ℕ) : Type 0 where
  pub moved : at < n
  pub inside : n ≤ length text
  pub few : length since + at ≤ length before + n
  pub tree : Tree
  pub derived : Derives (32 - depth) k (between at n text) tree
  pub added : since ≡ before ++ postfix tree
  pub drives : (limit : ℕ) → Drives limit (32 - depth) k (Stops text n j) (between at n text) tree

-- a state in which a formula cannot end
abbrev pub Unfinished : State → Type 0
Unfinished dead = Unit {0}
Unfinished (operand m c o) = Unit {0}
Unfinished (operator c x outside) = ⊥
Unfinished (operator c x (inside m d o)) = Unit {0}

-- the nesting for which the refusal holds
abbrev pub Limit : FormulaFault → ℕ → Type 0
Limit TooLong n = ⊥
Limit (ForeignByte p) n = 32 ≤ n
Limit (Unexpected p) n = 32 ≤ n
Limit (TooDeep p) n = n ≡ 32

-- neither too long nor too deep
abbrev pub Plain : List ℕ → FormulaFault → Type 0
Plain text TooLong = ⊥
Plain text (ForeignByte p) = (p < length text) × (notation (slice_index text p) ≡ Foreign)
Plain text (Unexpected p) = p < length text → notation (slice_index text p) ≢ Foreign
Plain text (TooDeep p) = ⊥

-- what the byte at the place shows, for the number of the fault
abbrev pub Named : List ℕ → ℕ → ℕ → ℕ → FormulaFault → Type 0
Named text at depth k TooLong = ⊥
Named text at depth k (ForeignByte p) = (p < length text) × (notation (slice_index text p) ≡ Foreign)
Named text at depth k (Unexpected p) = p < length text → notation (slice_index text p) ≢ Foreign
Named text at depth k (TooDeep p) = (p < length text) × (notation (slice_index text p) ≡ Opening) × ((more : List ℕ) × (t : Tree) × Derives (1 + (32 - depth)) k (between at (p + 1) text ++ more) t)

-- from `at` on, no formula of strength k gets past `p`, and some gets there
pub record Fails (text : List ℕ) (at depth k : ℕ) (e : FormulaFault) : Type 0 where
  pub p : ℕ
  pub is : fault_place e ≡ p
  pub after : at ≤ p
  pub inside : p ≤ length text
  pub continued : (more : List ℕ) × (t : Tree) × Derives (32 - depth) k (between at p text ++ more) t
  pub stuck : (limit : ℕ) → Limit e limit → (m : ℕ) (c : Chain) (o : Outer) → (k < 6 → m ≡ 0) → Below k c → height o ≡ depth → (p < length text → run limit (operand m c o) (between at (p + 1) text) ≡ dead) × (p ≡ length text → Unfinished (run limit (operand m c o) (between at p text)))
  pub named : Named text at depth k e

-- the strongest operator that may follow one of strength k and its operands
abbrev pub After : ℕ → ℕ → Type 0
After k r = (3 ≤ k → r ≡ k) × (k < 3 → r + 1 ≡ k)

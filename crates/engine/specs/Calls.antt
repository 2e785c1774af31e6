-- What a call over a table of size N answers, and the nodes then. One shape for every call.
use Rattle.std.specs.Prelude.{◌≡◌, ℕ, ◌+◌, ◌≤◌, Bool, ◌⊎◌, List, length, Ok, Err, Result}
use Rattle.diagram.specs.declared.Node.{Node}
use Rattle.diagram.specs.Functions.{Fun}
use Rattle.diagram.specs.Nodes.{Issued, meaning}
use Rattle.diagram.specs.Counts.{AtLeast}
use Rattle.diagram.specs.Outcomes.{Granted}
use Rattle.formula.specs.declared.steps.Operator.{Operator}
use Rattle.formula.specs.declared.faults.FormulaFault.{FormulaFault}
use Rattle.formula.specs.Grammar.{Tree, Derives}
use Rattle.formula.specs.Answer.{Refused}
use Rattle.compile.specs.Trees.{of_tree}
use Rattle.implicant.specs.Variables.{condition_of, SignsOnly, ArePrimes}
use Rattle.table.specs.declared.faults.Reason.TheVariants.{NotIssued, Full}
use Rattle.table.specs.Faults.{fault}
use Rattle.engine.specs.declared.faults.GraphFault.{GraphFault}
use Rattle.engine.specs.declared.faults.GraphFault.TheVariants.{NoOption, Formula, NotCondition, Table}
use Rattle.engine.specs.Works.{Work, result, parts, primes_of, Working, of_option, complement, combined, fixed}

-- granted: the nodes are those before and the working nodes, within N, and h means f
pub record Given (N : ℕ) (w : Work) (f : Fun) (old : List Node) (h : ℕ) (new : List Node) : Type 0 where
  pub issued : Issued new h
  pub means : meaning new h ≡ f
  pub granted : Granted N (Working w) old new

-- 14: the nodes before and the working nodes are more than N, and nothing changed
pub record Overfull (N : ℕ) (w : Work) (old : List Node) (e : GraphFault) (new : List Node) : Type 0 where
  pub many : AtLeast (N + 1) old (Working w)
  pub is : e ≡ Table (fault Full N)
  pub kept : new ≡ old

-- a call that works on w and makes f
abbrev pub Making : ℕ → Work → Fun → List Node → Result ℕ GraphFault → List Node → Type 0
Making N w f old (Ok h) new = Given N w f old h new
Making N w f old (Err e) new = Overfull N w old e new

pub record Made (N : ℕ) (w : Work) (f : Fun) (old : List Node) (r : Result ℕ GraphFault) (new : List Node) : Type 0 where
  pub outcome : Making N w f old r new

-- refused with the fault e before anything was done
pub record Rejected (e : GraphFault) (old : List Node) (r : Result ℕ GraphFault) (new : List Node) : Type 0 where
  pub is : r ≡ Err e
  pub kept : new ≡ old

-- P where C holds, and R where it does not
abbrev pub Tested : Type 0 → Type 0 → Type 0 → Type 0
Tested C P R = (C × P) ⊎ ((¬ C) × R)

-- a call under a condition C, refused with e where it does not hold
abbrev pub Guarded : Type 0 → GraphFault → Type 0 → List Node → Result ℕ GraphFault → List Node → Type 0
Guarded C e P old r new = (C × P) ⊎ ((¬ C) × Rejected e old r new)

-- k is an option
abbrev pub IsOption : ℕ → Type 0
IsOption k = (1 ≤ k) × (k ≤ 12)

pub record OptionOut (N k : ℕ) (old : List Node) (r : Result ℕ GraphFault) (new : List Node) : Type 0 where
  pub outcome : Guarded (IsOption k) NoOption (Made N (result (of_option k)) (of_option k) old r new) old r new

-- 9, with the size, for a handle that is not issued
abbrev pub unissued : ℕ → GraphFault
unissued N = Table (fault NotIssued N)

pub record NotOut (N f : ℕ) (old : List Node) (r : Result ℕ GraphFault) (new : List Node) : Type 0 where
  pub outcome : Guarded (Issued old f) (unissued N) (Made N (result (complement (meaning old f))) (complement (meaning old f)) old r new) old r new

pub record CombineOut (N : ℕ) (op : Operator) (f g : ℕ) (old : List Node) (r : Result ℕ GraphFault) (new : List Node) : Type 0 where
  pub outcome : Guarded (Issued old f × Issued old g) (unissued N) (Made N (result (combined op (meaning old f) (meaning old g))) (combined op (meaning old f) (meaning old g)) old r new) old r new

-- 5 is tested before 9
pub record RestrictOut (N f k : ℕ) (value : Bool) (old : List Node) (r : Result ℕ GraphFault) (new : List Node) : Type 0 where
  pub outcome : Guarded (IsOption k) NoOption (Guarded (Issued old f) (unissued N) (Made N (result (fixed k value (meaning old f))) (fixed k value (meaning old f)) old r new) old r new) old r new

-- f means a condition: it depends on signs only
abbrev pub IsCondition : List Node → ℕ → Type 0
IsCondition ns f = SignsOnly 0 (meaning ns f)

-- the set of the primes of what f means is made; a condition has one such set
pub record Primed (N f : ℕ) (old : List Node) (r : Result ℕ GraphFault) (new : List Node) : Type 0 where
  pub set : Fun
  pub are : ArePrimes 12 0 (condition_of (meaning old f)) set
  pub made : Made N (primes_of (meaning old f)) set old r new

-- 9 is tested before 10
pub record PrimesOut (N f : ℕ) (old : List Node) (r : Result ℕ GraphFault) (new : List Node) : Type 0 where
  pub outcome : Guarded (Issued old f) (unissued N) (Guarded (IsCondition old f) NotCondition (Primed N f old r new) old r new) old r new

-- the text is a formula, and every part of it is made
pub record Stated (N : ℕ) (text : List ℕ) (old : List Node) (r : Result ℕ GraphFault) (new : List Node) : Type 0 where
  pub short : length text ≤ 4096
  pub tree : Tree
  pub derived : Derives 32 1 text tree
  pub made : Made N (parts tree) (of_tree tree) old r new

-- the text is none; its fault is carried whole
pub record Unstated (text : List ℕ) (old : List Node) (r : Result ℕ GraphFault) (new : List Node) : Type 0 where
  pub fault : FormulaFault
  pub refused : Refused text fault
  pub turned : Rejected (Formula fault) old r new

pub record FormulaOut (N : ℕ) (text : List ℕ) (old : List Node) (r : Result ℕ GraphFault) (new : List Node) : Type 0 where
  pub outcome : Stated N text old r new ⊎ Unstated text old r new

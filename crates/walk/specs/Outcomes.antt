-- What a walk for the function f, at level l or deeper, leaves of a table of size N with the nodes `old`.
use Rattle.std.specs.Prelude.{◌≡◌, ℕ, ◌+◌, ◌*◌, ◌≤◌, List, Ok, Err, Result}
use Rattle.diagram.specs.declared.Node.{Node}
use Rattle.diagram.specs.Functions.{Fun, Restriction}
use Rattle.diagram.specs.Nodes.{Issued, meaning, level_of}
use Rattle.diagram.specs.Outcomes.{Gives, Grants, Denies}
use Rattle.implicant.specs.Variables.{condition, ArePrimes, PrimeRestrictions}
use Rattle.table.specs.declared.faults.Reason.TheVariants.{Full}
use Rattle.table.specs.declared.faults.TableFault.{TableFault}
use Rattle.table.specs.Faults.{fault}

-- The table's fault, whole: it is full, and some restriction of f has no handle.
pub record Refused (N : ℕ) (f : Fun) (old : List Node) (e : TableFault) (new : List Node) : Type 0 where
  pub is : e ≡ fault Full N
  pub denies : Denies N (Restriction f) old new

abbrev pub Walking : ℕ → List Node → ℕ → Fun → Result ℕ TableFault → List Node → Type 0
Walking N old l f (Ok h) new = Gives old new l h f
Walking N old l f (Err e) new = Refused N f old e new

pub record Walked (N : ℕ) (old : List Node) (l : ℕ) (f : Fun) (r : Result ℕ TableFault) (new : List Node) : Type 0 where
  pub outcome : Walking N old l f r new

-- h, at the first level of the options after the first k or deeper, is the set of the primes of f, a condition of these n options.
pub record PrimeSet (n k : ℕ) (f : Fun) (ns : List Node) (h : ℕ) : Type 0 where
  pub issued : Issued ns h
  pub level : 2 * k + 1 ≤ level_of ns h
  pub primes : ArePrimes n k (condition n k f) (meaning ns h)

-- A walk for that set: h is the set, and every working function has a handle.
pub record PrimesGiven (n k : ℕ) (f : Fun) (old : List Node) (h : ℕ) (new : List Node) : Type 0 where
  pub set : PrimeSet n k f new h
  pub grants : Grants (PrimeRestrictions n k (condition n k f)) old new

-- The table's fault, whole: it is full, and some working function has no handle.
pub record PrimesRefused (N n k : ℕ) (f : Fun) (old : List Node) (e : TableFault) (new : List Node) : Type 0 where
  pub is : e ≡ fault Full N
  pub denies : Denies N (PrimeRestrictions n k (condition n k f)) old new

abbrev pub PrimesWalking : (N n k : ℕ) → Fun → List Node → Result ℕ TableFault → List Node → Type 0
PrimesWalking N n k f old (Ok h) new = PrimesGiven n k f old h new
PrimesWalking N n k f old (Err e) new = PrimesRefused N n k f old e new

pub record PrimesWalked (N n k : ℕ) (f : Fun) (old : List Node) (r : Result ℕ TableFault) (new : List Node) : Type 0 where
  pub outcome : PrimesWalking N n k f old r new

-- What a call that writes a list answers, over a table of size N, and the nodes and the output then.
use Rattle.std.specs.Prelude.{◌≡◌, ℕ, ◌+◌, ◌<◌, ◌≤◌, ◌⊎◌, List, ◌++◌, length, drop, Ok, Err, Result}
use Rattle.diagram.specs.declared.Node.{Node}
use Rattle.diagram.specs.Nodes.{Issued, meaning}
use Rattle.diagram.specs.Counts.{AtLeast}
use Rattle.diagram.specs.Outcomes.{Granted}
use Rattle.table.specs.declared.faults.Reason.TheVariants.{Full}
use Rattle.table.specs.Faults.{fault}
use Rattle.implicant.specs.Variables.{condition_of}
use Rattle.listing.specs.Listing.{IsList}
use Rattle.engine.specs.declared.faults.GraphFault.{GraphFault}
use Rattle.engine.specs.declared.faults.GraphFault.TheVariants.{NotCondition, Table}
use Rattle.engine.specs.declared.card_faults.CardFault.{CardFault}
use Rattle.engine.specs.declared.card_faults.CardFault.TheVariants.{Graph, ShortOutput}
use Rattle.engine.specs.Works.{Work, primes_of, Working}
use Rattle.engine.specs.Calls.{Tested, unissued, IsCondition}

-- 14: the nodes before and the working nodes are more than N, and nothing changed
pub record Crowded (N : ℕ) (w : Work) (old : List Node) (before : List ℕ) (r : Result ℕ CardFault) (new : List Node) (after : List ℕ) : Type 0 where
  pub many : AtLeast (N + 1) old (Working w)
  pub is : r ≡ Err (Graph (Table (fault Full N)))
  pub nodes : new ≡ old
  pub output : after ≡ before

-- 15: they are no more than N, but the output is shorter than the bytes; nothing changed
pub record Cramped (N : ℕ) (w : Work) (bytes : List ℕ) (old : List Node) (before : List ℕ) (r : Result ℕ CardFault) (new : List Node) (after : List ℕ) : Type 0 where
  pub few : ¬ AtLeast (N + 1) old (Working w)
  pub short : length before < length bytes
  pub is : r ≡ Err ShortOutput
  pub nodes : new ≡ old
  pub output : after ≡ before

-- granted: the nodes are those before and the working nodes; the bytes stand at the start of the output, and what lies behind them is untouched
pub record Wrote (N : ℕ) (w : Work) (bytes : List ℕ) (old : List Node) (before : List ℕ) (r : Result ℕ CardFault) (new : List Node) (after : List ℕ) : Type 0 where
  pub granted : Granted N (Working w) old new
  pub fits : length bytes ≤ length before
  pub is : r ≡ Ok (length bytes)
  pub output : after ≡ bytes ++ drop (length bytes) before

-- a call that works on w and writes bytes of the kind P
abbrev pub Writing : ℕ → Work → (List ℕ → Type 0) → List Node → List ℕ → Result ℕ CardFault → List Node → List ℕ → Type 0
Writing N w P old before r new after =
    Crowded N w old before r new after
    ⊎ ((bytes : List ℕ) × P bytes × (Cramped N w bytes old before r new after ⊎ Wrote N w bytes old before r new after))

-- refused with e: the nodes and the output are as they were
pub record Unlisted (e : GraphFault) (old : List Node) (before : List ℕ) (r : Result ℕ CardFault) (new : List Node) (after : List ℕ) : Type 0 where
  pub refused : r ≡ Err (Graph e)
  pub nodes : new ≡ old
  pub output : after ≡ before

-- the list of what f means: 9, 10, 14 and 15 are tested in this order
pub record ListOut (N f : ℕ) (old : List Node) (before : List ℕ) (r : Result ℕ CardFault) (new : List Node) (after : List ℕ) : Type 0 where
  pub outcome :
      Tested (Issued old f) (
      Tested (IsCondition old f) (Writing N (primes_of (meaning old f)) (IsList (condition_of (meaning old f))) old before r new after)
      (Unlisted NotCondition old before r new after))
      (Unlisted (unissued N) old before r new after)

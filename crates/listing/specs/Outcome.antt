-- What the writer of a list answers and leaves. Assumes nothing.
use Rattle.std.specs.Prelude.{◌≡◌, ℕ, ◌<◌, ◌≤◌, List, ◌++◌, length, drop, Ok, Err, Result}
use Rattle.diagram.specs.Functions.{Fun}
use Rattle.implicant.specs.Implicants.{Condition}
use Rattle.implicant.specs.Variables.{ArePrimes}
use Rattle.listing.specs.declared.faults.ListFault.{ListFault}
use Rattle.listing.specs.declared.faults.ListFault.TheVariants.{ShortOutput}
use Rattle.listing.specs.Listing.{IsList}

-- The bytes stand at the start of the output and those past them are kept, or they do not fit and nothing is changed.
abbrev pub Writing : List ℕ → Result ℕ ListFault → List ℕ → List ℕ → Type 0
Writing bytes (Ok n) old new = (n ≡ length bytes) × (length bytes ≤ length old) × (new ≡ bytes ++ drop (length bytes) old)
Writing bytes (Err e) old new = (length old < length bytes) × (e ≡ ShortOutput) × (new ≡ old)

-- The outcome of writing the list of the condition whose primes are the set g.
pub record Listed (g : Fun) (r : Result ℕ ListFault) (old new : List ℕ) : Type 0 where
  pub bytes : List ℕ
  pub are : (f : Condition 12) → ArePrimes 12 0 f g → IsList f bytes
  pub outcome : Writing bytes r old new

-- The functions that calls make, and what a call works on, as data.
use Rattle.std.specs.Prelude.{ℕ, Bool, not, ◌⊎◌, List}
use Rattle.diagram.specs.Functions.{Fun, put, sign_level, NodeOf}
use Rattle.formula.specs.declared.steps.Operator.{Operator}
use Rattle.formula.specs.Grammar.{Tree}
use Rattle.formula.specs.Meaning.{combine}
use Rattle.compile.specs.Trees.{PartNode}
use Rattle.implicant.specs.Variables.{condition_of, PrimeNodes}
use Rattle.card_walk.specs.Sums.{never, some_of, SumNode}

-- the sign of option k
abbrev pub of_option : ℕ → Fun
of_option k s = s (sign_level k)

-- no where f is yes
abbrev pub complement : Fun → Fun
complement f s = not (f s)

-- two functions joined by an operator, answer by answer
abbrev pub combined : Operator → Fun → Fun → Fun
combined op f g s = combine op (f s) (g s)

-- f with the sign of option k set to a value
abbrev pub fixed : ℕ → Bool → Fun → Fun
fixed k value f s = f (put (sign_level k) value s)

-- what a call works on: the nodes of one function, those of every part of a formula, those for the primes of a condition,
-- those of every part of some formulas and of each sum on the way, or these and those for the primes of the sum
pub data Work : Type 0 where
  result : Fun → Work
  parts : Tree → Work
  primes_of : Fun → Work
  sums : List Tree → Work
  shown : List Tree → Work

-- g is a working node
abbrev pub Working : Work → Fun → Type 0
Working (result f) g = NodeOf f g
Working (parts t) g = PartNode t g
Working (primes_of f) g = PrimeNodes 12 0 (condition_of f) g
Working (sums ts) g = SumNode never ts g
Working (shown ts) g = SumNode never ts g ⊎ PrimeNodes 12 0 (condition_of (some_of ts)) g

-- The graph calls as data, with what each answers and leaves.
use Rattle.std.specs.Prelude.{ℕ, Bool, List, Result}
use Rattle.diagram.specs.declared.Node.{Node}
use Rattle.formula.specs.declared.steps.Operator.{Operator}
use Rattle.engine.specs.declared.faults.GraphFault.{GraphFault}
use Rattle.engine.specs.Calls.{OptionOut, NotOut, CombineOut, RestrictOut, FormulaOut, PrimesOut}

-- a call with its arguments
pub data Call : Type 0 where
  option_call : ℕ → Call
  not_call : ℕ → Call
  combine_call : Operator → ℕ → ℕ → Call
  restrict_call : ℕ → ℕ → Bool → Call
  formula_call : List ℕ → Call
  primes_call : ℕ → Call

-- the call over a table of size N with the nodes old may answer r and leave the nodes new
abbrev pub Out : ℕ → Call → List Node → Result ℕ GraphFault → List Node → Type 0
Out N (option_call k) old r new = OptionOut N k old r new
Out N (not_call f) old r new = NotOut N f old r new
Out N (combine_call op f g) old r new = CombineOut N op f g old r new
Out N (restrict_call f k value) old r new = RestrictOut N f k value old r new
Out N (formula_call text) old r new = FormulaOut N text old r new
Out N (primes_call f) old r new = PrimesOut N f old r new

-- What the writer of letters answers. Assumes nothing.
use Rattle.std.specs.Prelude.{◌≡◌, ℕ, ◌<◌, ◌≤◌, List, ◌++◌, length, drop, Ok, Err, Result}
use Rattle.decimal.specs.declared.outputs.Output.{Output}
use Rattle.decimal.specs.Outputs.{HasRoom, Puts}
use Rattle.product.specs.declared.faults.ProductFault.{ProductFault}
use Rattle.product.specs.declared.faults.ProductFault.TheVariants.{ShortOutput}

-- The bytes stand at the start of the output, or do not fit and nothing is changed.
abbrev pub Written : List ℕ → List ℕ → List ℕ → Result ℕ ProductFault → Type 0
Written bytes old new (Ok n) = (n ≡ length bytes) × (n ≤ length old) × (new ≡ bytes ++ drop n old)
Written bytes old new (Err e) = (length old < length bytes) × (e ≡ ShortOutput) × (new ≡ old)

-- The bytes are written onto the output, or it has no room for them and is left as it was.
abbrev pub Added : List ℕ → Output → Output → Result (Unit {0}) ProductFault → Type 0
Added bytes old new (Ok _) = Puts bytes old new
Added bytes old new (Err e) = (¬ HasRoom old (length bytes)) × (e ≡ ShortOutput) × (new ≡ old)

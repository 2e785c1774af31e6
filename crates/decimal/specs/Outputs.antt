-- What is written onto an output. Assumes nothing.
use Rattle.std.specs.Prelude.{◌≡◌, ℕ, ◌+◌, ◌≤◌, List, length}
use Rattle.decimal.specs.declared.outputs.Output.{Output}
use Rattle.decimal.specs.Put.{Put}

-- The output has room for n more bytes.
abbrev pub HasRoom : Output → ℕ → Type 0
HasRoom o n = o.at + n ≤ length o.run.now

-- Bytes are written onto an output, which still lends the same run, as long as before.
pub record Puts (bytes : List ℕ) (old new : Output) : Type 0 where
  pub lent : new.run.ghost_name ≡ old.run.ghost_name
  pub long : length new.run.now ≡ length old.run.now
  pub put : Put bytes old.at old.run.now new.run.now new.at

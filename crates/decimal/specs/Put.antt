-- Bytes that are written into others. Assumes nothing.
use Rattle.std.specs.Prelude.{◌≡◌, ℕ, ◌+◌, List, ◌++◌, length, take, drop}

-- The bytes stand from a place on, r is the place after them, and nothing else is changed.
pub record Put (bytes : List ℕ) (at : ℕ) (old new : List ℕ) (r : ℕ) : Type 0 where
  pub value : r ≡ at + length bytes
  pub wrote : take r new ≡ take at old ++ bytes
  pub kept : drop r new ≡ drop r old

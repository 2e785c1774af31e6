-- Bits of a number. Assumes nothing.
use Rattle.std.specs.Prelude.{ℕ, ◌/◌, ◌%◌, ◌^◌, Bool, ◌==◌}

-- Bit j of m is 1.
abbrev pub bit : ℕ → ℕ → Bool
bit m j = m / 2 ^ j % 2 == 1

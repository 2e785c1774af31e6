-- The weights of masks in base 3, and the rule of their table. Assumes nothing.
use Rattle.std.specs.Prelude.{ℕ, zero, suc, ◌+◌, ◌*◌, ◌/◌, ◌%◌, ◌^◌, Bool, true, ◌&&◌, List, [], ◌∷◌, ◌==◌}

-- The sum of 3 ^ i over the bits i of m that lie below n.
abbrev pub weight : ℕ → ℕ → ℕ
weight zero m = 0
weight (suc i) m = m / 2 ^ i % 2 * 3 ^ i + weight i m

-- The sum of 3 ^ i over the bits i of a mask of twelve bits.
unfoldable pub weight_of : ℕ → ℕ
weight_of m = weight 12 m

-- A test passes at each entry of a list and its place, counted from i.
abbrev pub every : (ℕ → ℕ → Bool) → ℕ → List ℕ → Bool
every f i [] = true
every f i (x ∷ xs) = f i x && every f (suc i) xs

-- The entry x at the place m is the weight of m.
abbrev pub right : ℕ → ℕ → Bool
right m x = x == weight 12 m

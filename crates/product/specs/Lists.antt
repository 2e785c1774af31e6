-- Lists of products of n options. Assumes nothing.
use Rattle.std.specs.Prelude.{◌≡◌, ℕ, ◌<◌, Bool, true, ◌⊎◌, ◌↔◌, List, [], ◌∷◌}
use Rattle.product.specs.Words.{Words, number}

-- p stands in a list.
abbrev pub In : (n : ℕ) → Words n → List (Words n) → Type 0
In n p [] = ⊥
In n p (q ∷ qs) = (q ≡ p) ⊎ In n p qs

-- No product stands in a list twice.
abbrev pub Distinct : (n : ℕ) → List (Words n) → Type 0
Distinct n [] = Unit {0}
Distinct n (p ∷ ps) = (¬ In n p ps) × Distinct n ps

-- The list has each product of the set c once, in any order, and no other.
pub record Once (n : ℕ) (c : Words n → Bool) (ps : List (Words n)) : Type 0 where
  pub distinct : Distinct n ps
  pub all : (p : Words n) → (c p ≡ true) ↔ In n p ps

-- Every product of the list has a number above m.
abbrev pub Above : (n m : ℕ) → List (Words n) → Type 0
Above n m [] = Unit {0}
Above n m (q ∷ qs) = (m < number n q) × Above n m qs

-- The products stand in rising number.
abbrev pub Rising : (n : ℕ) → List (Words n) → Type 0
Rising n [] = Unit {0}
Rising n (p ∷ ps) = Above n (number n p) ps × Rising n ps

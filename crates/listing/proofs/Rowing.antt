-- The lengths of rows, and rows by their parts. Assumes nothing.
use Rattle.std.proofs.Common.{◌≡◌, ℕ, ◌+◌, Bool, cond, List, [], ◌∷◌, ◌++◌, length, codes, decimal, Result, Ok, Err, IsOk, sym, refl, ap, ◌∙◌, arith, length-append}
use Rattle.decimal.specs.declared.outputs.Output.{Output}
use Rattle.decimal.specs.Outputs.{HasRoom, Puts}
use Rattle.product.specs.declared.faults.ProductFault.{ProductFault}
use Rattle.product.specs.Outcome.{Added}
use Rattle.product.specs.Words.{Words}
use Rattle.product.specs.Products.{number_of, size_of, letters_of}
use Rattle.listing.specs.Listing.{field, row, last_row}

pub field_length : (n : ℕ) → length (field n) ≡ length (decimal n) + 1
unfolding field
field_length n = length-append (decimal n) (codes ",")

pub field_is : (n : ℕ) → decimal n ++ (44 ∷ []) ≡ field n
unfolding field
field_is n = refl

-- the row of a product, by the numbers that the code has
module _ (p : Words 12) (marked : Bool) (number length_p : ℕ) (is_number : number ≡ number_of p) (is_length : length_p ≡ size_of p) where
  pub row_is : (80 ∷ 44 ∷ []) ++ field number ++ field length_p ++ (cond marked 89 78 ∷ 44 ∷ []) ++ letters_of p ++ (10 ∷ []) ≡ row p marked
  unfolding row
  row_is = λ i. (80 ∷ 44 ∷ []) ++ field (is_number i) ++ field (is_length i) ++ (cond marked 89 78 ∷ 44 ∷ []) ++ letters_of p ++ (10 ∷ [])

  pub row_length : length (row p marked) ≡ 5 + length (field number) + length (field length_p) + length (letters_of p)
  row_length = sym (ap length row_is) ∙ shape (field number) (field length_p) (cond marked 89 78) (letters_of p)
    where
      shape : (a b : List ℕ) (c : ℕ) (d : List ℕ) → length ((80 ∷ 44 ∷ []) ++ a ++ b ++ (c ∷ 44 ∷ []) ++ d ++ (10 ∷ [])) ≡ 5 + length a + length b + length d
      shape a b c d = simp length-append (omega arith)

-- letters that have room are written
pub added : (bytes : List ℕ) (old new : Output) (r : Result (Unit {0}) ProductFault) → Added bytes old new r → HasRoom old (length bytes) → IsOk r × Puts bytes old new
added bytes old new (Ok _) puts room = (refl, puts)
added bytes old new (Err e) a room = absurd (a.0 room)

pub last_length : (m n : ℕ) → length (last_row m n) ≡ 3 + length (field m) + length (decimal n)
unfolding last_row
last_length m n = shape (field m) (decimal n)
  where
    shape : (a b : List ℕ) → length (codes "N," ++ a ++ b ++ codes "\n") ≡ 3 + length a + length b
    shape a b = simp length-append (omega arith)

pub last_is : (m n : ℕ) → (78 ∷ 44 ∷ []) ++ field m ++ decimal n ++ (10 ∷ []) ≡ last_row m n
unfolding last_row
last_is m n = refl

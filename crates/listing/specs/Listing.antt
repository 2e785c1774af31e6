-- The list of a condition: a row for each of its primes, and a last row with two counts. Assumes nothing.
use Rattle.std.specs.Prelude.{◌≡◌, ℕ, Bool, true, cond, ◌↔◌, List, ◌∷◌, ◌++◌, length, codes, decimal, count_by}
use Rattle.std.specs.List.{flat_map}
use Rattle.product.specs.Words.{Words}
use Rattle.product.specs.Lists.{In, Rising}
use Rattle.product.specs.Products.{number_of, size_of, letters_of}
use Rattle.implicant.specs.Implicants.{Condition, Prime, Essential}

-- A number in decimal and a comma.
unfoldable pub field : ℕ → List ℕ
field n = decimal n ++ codes ","

-- The row of a product, ended by a line feed: P,number,length,Y or N,letters
unfoldable pub row : Words 12 → Bool → List ℕ
row p marked = codes "P," ++ field (number_of p) ++ field (size_of p) ++ (cond marked 89 78 ∷ codes ",") ++ letters_of p ++ codes "\n"

-- The last row: N, the number of the products, and how many of them are marked Y.
unfoldable pub last_row : ℕ → ℕ → List ℕ
last_row primes essential = codes "N," ++ field primes ++ decimal essential ++ codes "\n"

-- The rows of products, some of which are marked Y.
unfoldable pub rows : (Words 12 → Bool) → List (Words 12) → List ℕ
rows marked ps = flat_map (λ p. row p (marked p)) ps

-- The rows and the last row.
unfoldable pub listing : (Words 12 → Bool) → List (Words 12) → List ℕ
listing marked ps = rows marked ps ++ last_row (length ps) (count_by marked ps)

-- The bytes are the list of f: a row for each prime, in rising number, with Y exactly at the essential ones, and the last row.
pub record IsList (f : Condition 12) (bytes : List ℕ) : Type 0 where
  pub products : List (Words 12)
  pub primes : (p : Words 12) → Prime 12 f p ↔ In 12 p products
  pub rising : Rising 12 products
  pub marked : Words 12 → Bool
  pub essential : (p : Words 12) → In 12 p products → (marked p ≡ true) ↔ Essential 12 f p
  pub are : bytes ≡ listing marked products

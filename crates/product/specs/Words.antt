-- Products over n options, the first option first. Assumes nothing.
use Rattle.std.specs.Prelude.{ℕ, zero, suc, ◌+◌, ◌*◌, ◌^◌, Bool, true, false, cond, not, ◌&&◌, List, [], ◌∷◌, ◌++◌}

-- n values of A in a row.
abbrev pub Row : Type 0 → ℕ → Type 0
Row A zero = Unit {0}
Row A (suc n) = A × Row A n

-- What a product says of one option.
pub data Word : Type 0 where
  absent refused wanted : Word

-- What a product says of n options.
abbrev pub Words : ℕ → Type 0
Words n = Row Word n

-- The signs of n options: an assignment, or minterm.
abbrev pub Version : ℕ → Type 0
Version n = Row Bool n

-- A refused option must be no, a wanted one yes.
abbrev pub allows : Word → Bool → Bool
allows absent b = true
allows refused b = not b
allows wanted b = b

-- The version has every literal of the product.
abbrev pub meets : (n : ℕ) → Words n → Version n → Bool
meets zero p v = true
meets (suc n) p v = allows p.0 v.0 && meets n p.1 v.1

-- A word as a digit in base 3.
abbrev pub digit : Word → ℕ
digit absent = 0
digit refused = 1
digit wanted = 2

-- The number of a product: its digits in base 3, the first option first.
abbrev pub number : (n : ℕ) → Words n → ℕ
number zero p = 0
number (suc n) p = digit p.0 * 3 ^ n + number n p.1

-- Does the word name its option.
abbrev pub names : Word → Bool
names absent = false
names refused = true
names wanted = true

-- How many options are named.
abbrev pub size : (n : ℕ) → Words n → ℕ
size zero p = 0
size (suc n) p = cond (names p.0) 1 0 + size n p.1

-- The bytes of a word whose option has the letter c: `!` (33) before a refused option.
abbrev pub spell : Word → ℕ → List ℕ
spell absent c = []
spell refused c = 33 ∷ c ∷ []
spell wanted c = c ∷ []

-- The bytes of a product, the letters from c on.
abbrev pub letters : (n c : ℕ) → Words n → List ℕ
letters zero c p = []
letters (suc n) c p = spell p.0 c ++ letters n (c + 1) p.1

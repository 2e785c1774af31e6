-- Implicants of a condition of n options: which products are prime, and which primes are essential. Assumes nothing.
use Rattle.std.specs.Prelude.{◌≡◌, ℕ, zero, suc, Bool, true, false, ◌&&◌, ◌≢◌, ◌↔◌}
use Rattle.product.specs.Words.{Word, absent, Words, Version, meets, names}

-- A condition answers yes or no at each version.
abbrev pub Condition : ℕ → Type 0
Condition n = Version n → Bool

-- What a product says of option k, counted from 0 (absent past the last option).
abbrev pub word_at : (n k : ℕ) → Words n → Word
word_at zero k p = absent
word_at (suc n) zero p = p.0
word_at (suc n) (suc k) p = word_at n k p.1

-- The product with option k dropped.
abbrev pub dropped : (n k : ℕ) → Words n → Words n
dropped zero k p = p
dropped (suc n) zero p = (absent, p.1)
dropped (suc n) (suc k) p = (p.0, dropped n k p.1)

-- The product is an implicant of f: every version that meets it has f.
abbrev pub Implies : (n : ℕ) → Words n → Condition n → Type 0
Implies n p f = (v : Version n) → meets n p v ≡ true → f v ≡ true

-- A prime implies f, and ceases to when any one named option is dropped.
pub record Prime (n : ℕ) (f : Condition n) (p : Words n) : Type 0 where
  pub implies : Implies n p f
  pub tight : (k : ℕ) → names (word_at n k p) ≡ true → ¬ Implies n (dropped n k p) f

-- q contains p: every version that meets p meets q.
abbrev pub Contains : (n : ℕ) → Words n → Words n → Type 0
Contains n q p = (v : Version n) → meets n p v ≡ true → meets n q v ≡ true

-- An implicant of f that no other implicant of f contains.
pub record Maximal (n : ℕ) (f : Condition n) (p : Words n) : Type 0 where
  pub implies : Implies n p f
  pub alone : (q : Words n) → Implies n q f → Contains n q p → q ≡ p

-- An essential prime: some version with f meets it and no other prime.
pub record Essential (n : ℕ) (f : Condition n) (p : Words n) : Type 0 where
  pub prime : Prime n f p
  pub version : Version n
  pub has : f version ≡ true
  pub met : meets n p version ≡ true
  pub only : (q : Words n) → Prime n f q → meets n q version ≡ true → q ≡ p

-- The sum of the primes other than p answers yes at v.
abbrev pub OtherMet : (n : ℕ) → Condition n → Words n → Version n → Type 0
OtherMet n f p v = (q : Words n) × Prime n f q × (q ≢ p) × (meets n q v ≡ true)

-- A prime that the others do not replace: the sum of all other primes differs from f.
pub record Irreplaceable (n : ℕ) (f : Condition n) (p : Words n) : Type 0 where
  pub prime : Prime n f p
  pub differs : ¬ ((v : Version n) → (f v ≡ true) ↔ OtherMet n f p v)

-- f with its first option set to no.
abbrev pub low : (n : ℕ) → Condition (suc n) → Condition n
low n f v = f (false, v)

-- f with its first option set to yes.
abbrev pub high : (n : ℕ) → Condition (suc n) → Condition n
high n f v = f (true, v)

-- The "and" of both.
abbrev pub both : (n : ℕ) → Condition (suc n) → Condition n
both n f v = low n f v && high n f v

-- Conditions and sets of products as functions of the variables. Assumes nothing.
-- Option k + 1 has its occurrence variable at level 2k + 1 and its sign variable at level 2k + 2.
use Rattle.std.specs.Prelude.{◌≡◌, ℕ, zero, suc, ◌+◌, ◌-◌, ◌*◌, ◌/◌, ◌%◌, ◌<◌, ◌≤◌, Bool, true, false, cond, not, ◌&&◌, ◌⊎◌, ◌↔◌, ◌==◌}
use Rattle.product.specs.Bits.{bit}
use Rattle.product.specs.Words.{Words, Version, names}
use Rattle.product.specs.Masks.{word, wants}
use Rattle.diagram.specs.Functions.{Setting, Fun, choice, put, Restriction, NodeOf}
use Rattle.implicant.specs.Implicants.{Condition, Prime, low, high, both}

-- The signs that a setting gives to the n options after the first k.
abbrev pub signs_from : (n k : ℕ) → Setting → Version n
signs_from zero k s = tt
signs_from (suc n) k s = (s (2 * k + 2), signs_from n (k + 1) s)

-- The product that a setting gives to them: the sign of an option that does not occur makes no difference.
abbrev pub product_from : (n k : ℕ) → Setting → Words n
product_from zero k s = tt
product_from (suc n) k s = (word (s (2 * k + 1)) (s (2 * k + 2)), product_from n (k + 1) s)

-- The setting of a version of the n options after the first k: its signs, and no at every other variable.
abbrev pub version_setting : (n k : ℕ) → Version n → Setting
version_setting zero k v = λ _. false
version_setting (suc n) k v = put (2 * k + 2) v.0 (version_setting n (k + 1) v.1)

-- The setting of a product of these options: no at the sign of an option that it does not name.
abbrev pub product_setting : (n k : ℕ) → Words n → Setting
product_setting zero k p = λ _. false
product_setting (suc n) k p = put (2 * k + 1) (names p.0) (put (2 * k + 2) (wants p.0) (product_setting n (k + 1) p.1))

-- A function as a condition of the n options after the first k.
abbrev pub condition : (n k : ℕ) → Fun → Condition n
condition n k f v = f (version_setting n k v)

-- A function as a condition of the twelve options, sealed so that goals stay short.
unfoldable pub condition_of : Fun → Condition 12
condition_of f v = condition 12 0 f v

-- f depends only on the signs of the options after the first k.
abbrev pub SignsOnly : ℕ → Fun → Type 0
SignsOnly k f = (s t : Setting) → ((j : ℕ) → k ≤ j → j < 12 → s (2 * j + 2) ≡ t (2 * j + 2)) → f s ≡ f t

-- f depends only on the variables of the options after the first k.
abbrev pub OptionsOnly : ℕ → Fun → Type 0
OptionsOnly k f = (s t : Setting) → ((i : ℕ) → 2 * k < i → i ≤ 24 → s i ≡ t i) → f s ≡ f t

-- Where the occurrence variable of option k + 1 is no, its sign makes no difference.
abbrev pub TidyAt : ℕ → Fun → Type 0
TidyAt k f = (s : Setting) → s (2 * k + 1) ≡ false → f (put (2 * k + 2) true s) ≡ f (put (2 * k + 2) false s)

-- The same of each option after the first k.
pub record Tidy (k : ℕ) (f : Fun) : Type 0 where
  pub each : (m : ℕ) → k ≤ m → m < 12 → TidyAt m f

-- A product set: wherever an occurrence variable is no, its sign makes no difference.
abbrev pub ProductSet : Fun → Type 0
ProductSet f = Tidy 0 f

-- The products of the n options after the first k at whose settings f answers yes.
abbrev pub products : (n k : ℕ) → Fun → Words n → Bool
products n k f p = f (product_setting n k p)

-- The products of twelve options at whose settings f answers yes, sealed so that goals stay short.
unfoldable pub products_of : Fun → Words 12 → Bool
products_of f p = products 12 0 f p

-- The setting of two masks, by bits: an odd level has the named bit of its option, an even one the sign bit.
unfoldable pub mask_setting : ℕ → ℕ → Setting
mask_setting named sign l = bit (cond (l % 2 == 1) named sign) (12 - (l + 1) / 2)

-- g is the set of c's primes: it answers yes exactly at the settings whose product of the n options after the first k is prime.
abbrev pub ArePrimes : (n k : ℕ) → Condition n → Fun → Type 0
ArePrimes n k c g = (s : Setting) → (g s ≡ true) ↔ Prime n c (product_from n k s)

-- f and g.
abbrev pub and_of : Fun → Fun → Fun
and_of f g s = f s && g s

-- f and not g.
abbrev pub and_not : Fun → Fun → Fun
and_not f g s = f s && not (g s)

-- The set of the primes, by the sets of those of the "and" of both halves, of the low half and of the high one.
abbrev pub primes_by_halves : ℕ → Fun → Fun → Fun → Fun
primes_by_halves k p p0 p1 = choice (2 * k + 1) p (choice (2 * k + 2) (and_not p0 p) (and_not p1 p))

-- R relates u to the condition c of the n options after the first k, or to the set of its primes.
abbrev pub Here : (Fun → Fun → Type 0) → (n k : ℕ) → Condition n → Fun → Type 0
Here R n k c u = R (λ s. c (signs_from n k s)) u ⊎ ((g : Fun) × ArePrimes n k c g × R g u)

-- The same for c, and for each condition that c leaves where the next options are set to no, to yes, or to the "and" of both.
unfoldable pub Working : (Fun → Fun → Type 0) → (n k : ℕ) → Condition n → Fun → Type 0
Working R zero k c u = Here R zero k c u
Working R (suc n) k c u =
    Here R (suc n) k c u ⊎ (Working R n (k + 1) (low n c) u ⊎ (Working R n (k + 1) (high n c) u ⊎ Working R n (k + 1) (both n c) u))

-- The working functions of the primes of c, constants among them.
abbrev pub PrimeRestrictions : (n k : ℕ) → Condition n → Fun → Type 0
PrimeRestrictions = Working Restriction

-- The working nodes of the primes of c.
abbrev pub PrimeNodes : (n k : ℕ) → Condition n → Fun → Type 0
PrimeNodes = Working NodeOf

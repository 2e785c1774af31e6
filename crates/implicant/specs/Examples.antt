-- Worked examples over twelve options, by the first three. Assumes nothing.
use Rattle.std.specs.Prelude.{◌≡◌, ℕ, zero, suc, Bool, true, false, not, ◌&&◌, ◌||◌, ◌↔◌, [], ◌∷◌}
use Rattle.product.specs.Words.{Word, absent, refused, wanted, Words, size}
use Rattle.product.specs.Lists.{In}
use Rattle.implicant.specs.Implicants.{Condition, Prime}

-- The product that names no option.
abbrev pub blank : (n : ℕ) → Words n
blank zero = tt
blank (suc n) = (absent, blank n)

-- A condition of the options a, b and c.
abbrev pub of_abc : (Bool → Bool → Bool → Bool) → Condition 12
of_abc f v = f v.0 v.1.0 v.1.1.0

-- A product of the options a, b and c.
abbrev pub abc : Word → Word → Word → Words 12
abc a b c = (a, (b, (c, blank 9)))

-- a^b
abbrev pub a_xor_b : Condition 12
a_xor_b = of_abc (λ a b c. (a && not b) || (not a && b))

-- a^b has exactly the primes !ab and a!b.
abbrev pub XorPrimes : Type 0
XorPrimes = (p : Words 12) → Prime 12 a_xor_b p ↔ In 12 p (abc refused wanted absent ∷ abc wanted refused absent ∷ [])

-- a&!b|b&!c|c&!a
abbrev pub cycle : Condition 12
cycle = of_abc (λ a b c. (a && not b) || (b && not c) || (c && not a))

-- a&!b|b&!c|c&!a has exactly six.
abbrev pub CyclePrimes : Type 0
CyclePrimes = (p : Words 12) → Prime 12 cycle p
    ↔ In 12 p (abc absent refused wanted ∷ abc absent wanted refused ∷ abc refused absent wanted
    ∷ abc refused wanted absent ∷ abc wanted absent refused ∷ abc wanted refused absent ∷ [])

-- The product of length 0 is the only prime of yes.
abbrev pub YesPrimes : Type 0
YesPrimes = (n : ℕ) (p : Words n) → Prime n (λ _. true) p ↔ (size n p ≡ 0)

-- No has none.
abbrev pub NoPrimes : Type 0
NoPrimes = (n : ℕ) (p : Words n) → ¬ Prime n (λ _. false) p

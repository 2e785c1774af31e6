-- Numbers of products. Assumes nothing.
use Rattle.std.proofs.Common.{◌≡◌, ℕ, zero, suc, ◌+◌, ◌*◌, ◌/◌, ◌%◌, ◌^◌, ◌<◌, ◌≤◌, eqb, refl, ◌∙◌, add-mul, pow-suc, arith}
use lib.Bits.{bit_and}
use Rattle.product.specs.Words.{Words, absent, refused, wanted, digit, number}
use Rattle.product.specs.Masks.{word, words}
use Rattle.product.specs.Weights.{weight}
use Rattle.product.proofs.Bitwise.{bit_below, within_bit}

-- a product of n options has a number of n digits
pub number_below : (n : ℕ) (p : Words n) → number n p < 3 ^ n
number_below zero p = omega arith
number_below (suc n) (absent, p) = omega (arith, number_below n p, pow-suc 3 n)
number_below (suc n) (refused, p) = omega (arith, number_below n p, pow-suc 3 n)
number_below (suc n) (wanted, p) = omega (arith, number_below n p, pow-suc 3 n)

-- two products with one number are equal
pub number_one : (n : ℕ) (p q : Words n) → number n p ≡ number n q → p ≡ q
number_one zero p q e = refl
number_one (suc n) (absent, p) (absent, q) e = λ i. (absent, number_one n p q (omega arith) i)
number_one (suc n) (refused, p) (refused, q) e = λ i. (refused, number_one n p q (omega arith) i)
number_one (suc n) (wanted, p) (wanted, q) e = λ i. (wanted, number_one n p q (omega arith) i)
number_one (suc n) (absent, p) (refused, q) e = absurd (omega (arith, number_below n p))
number_one (suc n) (absent, p) (wanted, q) e = absurd (omega (arith, number_below n p))
number_one (suc n) (refused, p) (absent, q) e = absurd (omega (arith, number_below n q))
number_one (suc n) (refused, p) (wanted, q) e = absurd (omega (arith, number_below n p))
number_one (suc n) (wanted, p) (absent, q) e = absurd (omega (arith, number_below n q))
number_one (suc n) (wanted, p) (refused, q) e = absurd (omega (arith, number_below n q))

digit_bits : (a b : ℕ) → a < 2 → b ≤ a → digit (word (eqb a 1) (eqb b 1)) ≡ a + b
digit_bits zero zero p q = refl
digit_bits zero (suc b) p q = absurd (omega arith)
digit_bits (suc zero) zero p q = refl
digit_bits (suc zero) (suc zero) p q = refl
digit_bits (suc zero) (suc (suc b)) p q = absurd (omega arith)
digit_bits (suc (suc a)) b p q = absurd (omega arith)

-- the number is the weight of the named mask and that of the sign mask
pub number_weights : (n named sign : ℕ) → bit_and sign named ≡ sign → number n (words n named sign) ≡ weight n named + weight n sign
number_weights zero named sign h = refl
number_weights (suc n) named sign h =
    let a : ℕ = named / 2 ^ n % 2 in
    let b : ℕ = sign / 2 ^ n % 2 in
    (λ i. digit_bits a b (bit_below named n) (within_bit named sign n h) i * 3 ^ n + number_weights n named sign h i)
    ∙ sums ((a + b) * 3 ^ n) (a * 3 ^ n) (b * 3 ^ n) (weight n named) (weight n sign) (add-mul a b (3 ^ n))
  where
    sums : (x y z p q : ℕ) → x ≡ y + z → x + (p + q) ≡ y + p + (z + q)
    sums x y z p q e = omega arith

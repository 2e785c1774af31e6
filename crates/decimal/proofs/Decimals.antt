-- How many digits a number has. Assumes nothing.
use Rattle.std.proofs.Common.{◌≡◌, ℕ, ◌+◌, ◌*◌, ◌/◌, ◌%◌, ◌^◌, ◌<◌, ◌≤◌, List, [], ◌∷◌, ◌++◌, length, decimal, sym, ap, pow-suc, add-one, arith, length-append}
use Rattle.std.proofs.Math.Nat.{pow-le-pow_right}
use Rattle.std.proofs.lemmas.Fmt.{decimal_digit, decimal_by_steps, length-decimal-le}

-- a number has no more than its digits can say
below : (n : ℕ) → n < 2 ^ 64 → n < 10 ^ length (decimal n)
below = decimal_by_steps (λ n ds. n < 10 ^ length ds) (λ n small. omega arith) more
  where
    more : (n : ℕ) (ds : List ℕ) → 10 ≤ n → n / 10 < 10 ^ length ds → n < 10 ^ length (ds ++ ((48 + n % 10) ∷ []))
    more n ds least h = rw (length-append ds ((48 + n % 10) ∷ []), add-one, pow-suc) (omega arith)

-- the digits of a number between two powers of ten
pub digits_between : (k n : ℕ) → 10 ^ k ≤ n → n < 10 * 10 ^ k → n < 2 ^ 64 → k + 1 ≡ length (decimal n)
digits_between k n low high small =
    let most : length (decimal n) ≤ k + 1 = length-decimal-le (k + 1) n (omega arith) (rw (add-one, pow-suc) (omega arith)) small in
    let fewer : length (decimal n) ≤ k → 10 ^ length (decimal n) ≤ 10 ^ k = λ le. pow-le-pow_right {n = 10} (omega arith) le in
    grind (arith, most, fewer, below n small)

pub digits_zero : (n : ℕ) → n ≡ 0 → 1 ≡ length (decimal n)
digits_zero n e = sym (ap length (decimal_digit n (omega arith)))

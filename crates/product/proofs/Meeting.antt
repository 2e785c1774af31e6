-- The test of a version by masks. Assumes nothing.
use Rattle.std.proofs.Common.{◌≡◌, ℕ, zero, suc, ◌+◌, ◌*◌, ◌/◌, ◌%◌, ◌^◌, ◌<◌, ◌≤◌, ◌&&◌, eqb, sym, refl, ap, ◌∙◌, arith}
use lib.Bits.{bit_and, and_block, and_lt, and_mod, and_zero_l, and_zero_r, and_le_r}
use Rattle.std.proofs.lemmas.Bool.{eq-eqb}
use Rattle.product.specs.Words.{allows, meets}
use Rattle.product.specs.Masks.{word, words, signs}
use Rattle.product.proofs.Bitwise.{low_part, low_below, no_bits, bit_below, within_bit, eqb_digits}

allows_bits : (a b v : ℕ) → a < 2 → b ≤ a → v < 2 → eqb (bit_and v a) b ≡ allows (word (eqb a 1) (eqb b 1)) (eqb v 1)
allows_bits zero zero v p q r = eq-eqb _ _ (and_zero_r v)
allows_bits zero (suc b) v p q r = absurd (omega arith)
allows_bits (suc zero) zero zero p q r = refl
allows_bits (suc zero) zero (suc zero) p q r = refl
allows_bits (suc zero) zero (suc (suc v)) p q r = absurd (omega arith)
allows_bits (suc zero) (suc zero) zero p q r = refl
allows_bits (suc zero) (suc zero) (suc zero) p q r = refl
allows_bits (suc zero) (suc zero) (suc (suc v)) p q r = absurd (omega arith)
allows_bits (suc zero) (suc (suc b)) v p q r = absurd (omega arith)
allows_bits (suc (suc a)) b v p q r = absurd (omega arith)

meets_low : (n named sign v : ℕ) → bit_and sign named ≡ sign
    → eqb (bit_and (v % 2 ^ n) (named % 2 ^ n)) (sign % 2 ^ n) ≡ meets n (words n named sign) (signs n v)
meets_low zero named sign v h = eq-eqb _ _ (ap (λ (z : ℕ). bit_and z (named % 1)) (no_bits v) ∙ and_zero_l (named % 1) ∙ sym (no_bits sign))
meets_low (suc n) named sign v h =
    let a : ℕ = named / 2 ^ n % 2 in
    let b : ℕ = sign / 2 ^ n % 2 in
    let x : ℕ = v / 2 ^ n % 2 in
    (λ i. eqb (bit_and (low_part v n i) (low_part named n i)) (low_part sign n i))
    ∙ ap (λ (z : ℕ). eqb z (b * 2 ^ n + sign % 2 ^ n)) (and_block n x a (v % 2 ^ n) (named % 2 ^ n) (low_below v n) (low_below named n))
    ∙ eqb_digits (bit_and x a) b (bit_and (v % 2 ^ n) (named % 2 ^ n)) (sign % 2 ^ n) (2 ^ n) (and_lt n (v % 2 ^ n) (named % 2 ^ n) (low_below v n) (low_below named n)) (low_below sign n)
    ∙ (λ i. allows_bits a b x (bit_below named n) (within_bit named sign n h) (bit_below v n) i && meets_low n named sign v h i)

-- the named signs of a version are those of the product
pub meets_masks : (named sign v : ℕ) → named < 4096 → bit_and sign named ≡ sign → eqb (bit_and v named) sign ≡ meets 12 (words 12 named sign) (signs 12 v)
meets_masks named sign v p h =
    let less : bit_and v named ≤ named = and_le_r v named in
    let few : sign ≤ named = subst_le in
    (λ i. eqb (both i) (low sign (omega arith) i)) ∙ meets_low 12 named sign v h
  where
    low : (m : ℕ) → m < 4096 → m ≡ m % 4096
    low m q = omega arith

    subst_le : sign ≤ named
    subst_le = omega (arith, and_le_r sign named)

    both : bit_and v named ≡ bit_and (v % 4096) (named % 4096)
    both = low (bit_and v named) (omega (arith, and_le_r v named)) ∙ and_mod v named 12

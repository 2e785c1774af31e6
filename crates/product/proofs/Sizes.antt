-- How many options a product names, and how many bytes its letters are. Assumes nothing.
use Rattle.std.proofs.Common.{◌≡◌, ℕ, zero, suc, ◌+◌, ◌/◌, ◌%◌, ◌^◌, ◌<◌, ◌≤◌, Bool, true, false, cond, eqb, length, sym, refl, ap, ◌∙◌, arith, length-append}
use lib.Bits.{bit_and}
use lib.Count.{ones, ones_cat}
use Rattle.product.specs.Words.{names, size, spell, letters}
use Rattle.product.specs.Bits.{bit}
use Rattle.product.specs.Masks.{word, words}
use Rattle.product.proofs.Bitwise.{low_part, low_below, no_bits, bit_below, within_bit}

no_ones : ones 0 ≡ 0
unfolding ones
no_ones = refl

one_bit : (x : ℕ) → x < 2 → ones x ≡ x
unfolding ones
one_bit zero p = refl
one_bit (suc zero) p = refl
one_bit (suc (suc x)) p = absurd (omega arith)

-- the ones of the last n + 1 bits
ones_part : (m n : ℕ) → ones (m % 2 ^ suc n) ≡ m / 2 ^ n % 2 + ones (m % 2 ^ n)
ones_part m n =
    ap ones (low_part m n) ∙ ones_cat n (m / 2 ^ n % 2) (m % 2 ^ n) (low_below m n)
    ∙ ap (λ (z : ℕ). z + ones (m % 2 ^ n)) (one_bit (m / 2 ^ n % 2) (bit_below m n))

names_bits : (a b : ℕ) → a < 2 → ◌≡◌ {A = ℕ} (cond (names (word (eqb a 1) (eqb b 1))) 1 0) a
names_bits zero b p = refl
names_bits (suc zero) b p = either (eqb b 1)
  where
    either : (s : Bool) → ◌≡◌ {A = ℕ} (cond (names (word true s)) 1 0) 1
    either true = refl
    either false = refl
names_bits (suc (suc a)) b p = absurd (omega arith)

-- the named options are the ones of the named mask
pub size_ones : (n named sign : ℕ) → size n (words n named sign) ≡ ones (named % 2 ^ n)
size_ones zero named sign = sym (ap ones (no_bits named) ∙ no_ones)
size_ones (suc n) named sign =
    (λ i. names_bits (named / 2 ^ n % 2) (sign / 2 ^ n % 2) (bit_below named n) i + size_ones n named sign i)
    ∙ sym (ones_part named n)

spell_bits : (a b c : ℕ) → a < 2 → b ≤ a → length (spell (word (eqb a 1) (eqb b 1)) c) + b ≡ a + a
spell_bits zero zero c p q = refl
spell_bits zero (suc b) c p q = absurd (omega arith)
spell_bits (suc zero) zero c p q = refl
spell_bits (suc zero) (suc zero) c p q = refl
spell_bits (suc zero) (suc (suc b)) c p q = absurd (omega arith)
spell_bits (suc (suc a)) b c p q = absurd (omega arith)

-- two bytes for each named option, without the `!` of the wanted ones
pub letters_ones : (n c named sign : ℕ) → bit_and sign named ≡ sign
    → length (letters n c (words n named sign)) + ones (sign % 2 ^ n) ≡ ones (named % 2 ^ n) + ones (named % 2 ^ n)
letters_ones zero c named sign h =
    let x = ap ones (no_bits named) in
    let y = ap ones (no_bits sign) in
    omega (arith, x, y, no_ones)
letters_ones (suc n) c named sign h =
    let w = word (bit named n) (bit sign n) in
    omega (
      arith,
      length-append (spell w c) (letters n (c + 1) (words n named sign)),
      spell_bits (named / 2 ^ n % 2) (sign / 2 ^ n % 2) c (bit_below named n) (within_bit named sign n h),
      letters_ones n (c + 1) named sign h,
      ones_part named n,
      ones_part sign n,
    )

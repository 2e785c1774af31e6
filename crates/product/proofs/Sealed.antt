-- What the masks of a product give, over its twelve options. Assumes nothing.
use Rattle.std.proofs.Common.{◌≡◌, ℕ, ◌+◌, ◌<◌, ◌≤◌, eqb, length, sym, refl, ap, ◌∙◌, arith}
use native.Mathlib.Bridge.{le_prop}
use native.Mathlib.Nat.{ℕ_set}
use mathlib.Core.HLevel.{is_prop→PathP}
use lib.Bits.{bit_and, and_le_r}
use lib.Count.{ones, ones-le}
use Rattle.product.specs.declared.masks.Product.{Product}
use Rattle.product.specs.Words.{Words, letters}
use Rattle.product.specs.Masks.{words, last_letters, named_mask, sign_mask, Masks}
use Rattle.product.specs.Weights.{weight_of}
use Rattle.product.specs.Products.{words_of, version_of, number_of, size_of, letters_of, meets_of}
use Rattle.product.proofs.Numbers.{number_below, number_one, number_weights}
use Rattle.product.proofs.Masking.{words_one, small}
use Rattle.product.proofs.Inverse.{words_back, masks_back}
use Rattle.product.proofs.Sizes.{size_ones, letters_ones}
use Rattle.product.proofs.Meeting.{meets_masks}

-- the masks of a product are masks
pub masks_of : (p : Product) → Masks p.named p.sign
masks_of p = record { low = p.low; signed = few p.sign p.named p.low p.within; within = p.within }
  where
    few : (s n : ℕ) → n < 4096 → bit_and s n ≡ s → s < 4096
    few s n l e = omega (arith, and_le_r s n)

-- products with the same masks are equal
pub same_masks : (p q : Product) → p.named ≡ q.named → p.sign ≡ q.sign → p ≡ q
same_masks p q e f = λ i. record {
  named = e i;
  sign = f i;
  low = is_prop→PathP (λ k. e k < 4096) (λ k. le_prop) p.low q.low i;
  within = is_prop→PathP (λ k. bit_and (f k) (e k) ≡ f k) (λ k. ℕ_set _ _) p.within q.within i;
}

-- products that say the same are equal
pub same_words : (p q : Product) → words_of p ≡ words_of q → p ≡ q
unfolding words_of
same_words p q e =
    let m = words_one p.named p.sign q.named q.sign (masks_of p) (masks_of q) e in
    same_masks p q m.0 m.1

-- every row of twelve words is what a product says
pub of_words : (p : Words 12) → (q : Product) × (words_of q ≡ p)
unfolding words_of
of_words p =
    let m = masks_back p in
    (record { named = named_mask 12 p; sign = sign_mask 12 p; low = m.low; within = m.within }, words_back 12 p)

pub number_few : (p : Words 12) → number_of p < 531441
unfolding number_of
number_few p = number_below 12 p

pub same_numbers : (p q : Words 12) → number_of p ≡ number_of q → p ≡ q
unfolding number_of
same_numbers p q e = number_one 12 p q e

-- products with one number are equal
pub same_number : (p q : Product) → number_of (words_of p) ≡ number_of (words_of q) → p ≡ q
same_number p q e = same_words p q (same_numbers (words_of p) (words_of q) e)

-- the number is the sum of two entries of the table
pub number_by_weights : (p : Product) → weight_of p.named + weight_of p.sign ≡ number_of (words_of p)
unfolding number_of words_of weight_of
number_by_weights p = sym (number_weights 12 p.named p.sign p.within)

-- the named options are the ones of the named mask
pub size_by_ones : (p : Product) → ones p.named ≡ size_of (words_of p)
unfolding size_of words_of
size_by_ones p = ap ones (sym (small p.named p.low)) ∙ sym (size_ones 12 p.named p.sign)

pub ones_few : (p : Product) → ones p.named ≤ 12
ones_few p = ones-le 12 p.named p.low

-- two bytes for each named option, without the `!` of the wanted ones
pub letters_by_ones : (p : Product) → length (letters_of (words_of p)) + ones p.sign ≡ ones p.named + ones p.named
unfolding letters_of words_of
letters_by_ones p =
    let a = ap ones (small p.named p.low) in
    let b = ap ones (small p.sign (masks_of p).signed) in
    sums (length (letters 12 97 (words 12 p.named p.sign))) _ _ _ _ a b (letters_ones 12 97 p.named p.sign p.within)
  where
    sums : (l x y z w : ℕ) → x ≡ y → z ≡ w → l + z ≡ x + x → l + w ≡ y + y
    sums l x y z w a b e = omega arith

-- the letters are those of the last twelve options
pub letters_by_bits : (p : Product) → last_letters 12 p.named p.sign ≡ letters_of (words_of p)
unfolding letters_of words_of last_letters
letters_by_bits p = refl

-- the test of a version by masks
pub meets_by_masks : (p : Product) (v : ℕ) → eqb (bit_and v p.named) p.sign ≡ meets_of (words_of p) (version_of v)
unfolding meets_of words_of version_of
meets_by_masks p v = meets_masks p.named p.sign v p.low p.within

-- Between the masks of a product and its words. Assumes nothing.
use Rattle.std.proofs.Common.{◌≡◌, ℕ, zero, suc, ◌+◌, ◌/◌, ◌%◌, ◌^◌, ◌<◌, ◌≤◌, Bool, true, false, cond, eqb, sym, refl, ap, ◌∙◌, arith}
use lib.Bits.{bit_and}
use Rattle.product.specs.Bits.{bit}
use Rattle.product.specs.Words.{names}
use Rattle.product.specs.Masks.{word, words, wants, named_mask, sign_mask, Masks}
use Rattle.product.proofs.Bitwise.{low_part, no_bits, bit_below, within_bit, cond_bit}

names_word : (a b : Bool) → names (word a b) ≡ a
names_word true true = refl
names_word true false = refl
names_word false b = refl

wants_bits : (a b : ℕ) → a < 2 → b ≤ a → wants (word (eqb a 1) (eqb b 1)) ≡ eqb b 1
wants_bits zero zero p q = refl
wants_bits zero (suc b) p q = absurd (omega arith)
wants_bits (suc zero) zero p q = refl
wants_bits (suc zero) (suc zero) p q = refl
wants_bits (suc zero) (suc (suc b)) p q = absurd (omega arith)
wants_bits (suc (suc a)) b p q = absurd (omega arith)

-- the named mask of what two masks say
pub named_words : (n named sign : ℕ) → named_mask n (words n named sign) ≡ named % 2 ^ n
named_words zero named sign = sym (no_bits named)
named_words (suc n) named sign =
    let a : ℕ = named / 2 ^ n % 2 in
    (λ i. cond (names_word (eqb a 1) (bit sign n) i) (2 ^ n) 0 + named_words n named sign i)
    ∙ (λ i. cond_bit a (2 ^ n) (bit_below named n) i + named % 2 ^ n)
    ∙ sym (low_part named n)

-- the sign mask of what two masks say
pub sign_words : (n named sign : ℕ) → bit_and sign named ≡ sign → sign_mask n (words n named sign) ≡ sign % 2 ^ n
sign_words zero named sign h = sym (no_bits sign)
sign_words (suc n) named sign h =
    let a : ℕ = named / 2 ^ n % 2 in
    let b : ℕ = sign / 2 ^ n % 2 in
    (λ i. cond (wants_bits a b (bit_below named n) (within_bit named sign n h) i) (2 ^ n) 0 + sign_words n named sign h i)
    ∙ (λ i. cond_bit b (2 ^ n) (bit_below sign n) i + sign % 2 ^ n)
    ∙ sym (low_part sign n)

pub small : (m : ℕ) → m < 4096 → m % 4096 ≡ m
small m p = omega arith

-- masks that say the same are equal
pub words_one : (a b c d : ℕ) → Masks a b → Masks c d → words 12 a b ≡ words 12 c d → (a ≡ c) × (b ≡ d)
words_one a b c d m k e = (
  sym (small a m.low) ∙ sym (named_words 12 a b) ∙ ap (named_mask 12) e ∙ named_words 12 c d ∙ small c k.low,
  sym (small b m.signed) ∙ sym (sign_words 12 a b m.within) ∙ ap (sign_mask 12) e ∙ sign_words 12 c d k.within ∙ small d k.signed,
)

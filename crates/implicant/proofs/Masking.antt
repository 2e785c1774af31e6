-- Masks and the settings of what they say. Assumes nothing.
use Rattle.std.proofs.Common.{◌≡◌, ℕ, zero, suc, ◌+◌, ◌-◌, ◌*◌, ◌/◌, ◌%◌, ◌^◌, ◌<◌, ◌≤◌, false, cond, eqb, sym, refl, ap, ◌∙◌, inl, inr, arith}
use lib.Bits.{bit_and}
use Rattle.std.proofs.lemmas.Bool.{cases_eq, eq-eqb, ne_eqb}
use Rattle.product.specs.Bits.{bit}
use Rattle.product.specs.Words.{names}
use Rattle.product.specs.Masks.{word, words, signs, wants}
use Rattle.product.specs.Products.{words_of, version_of}
use Rattle.product.proofs.Bitwise.{bit_below, within_bit}
use Rattle.implicant.specs.Implicants.{word_at}
use Rattle.implicant.specs.Variables.{signs_from, product_from, product_setting, products_of, condition, condition_of, mask_setting}
use Rattle.implicant.specs.Theorems.{MasksAreWords, MasksAreVersions}
use Rattle.implicant.proofs.Settings.{names_word, wants_word, setting_odd, setting_even}
use Rattle.implicant.proofs.Conditions.{signs_are_versions}

-- the variables of option k + 1 in the setting of masks
pub mask_odd : (named sign k e : ℕ) → e + k + 1 ≡ 12 → mask_setting named sign (2 * k + 1) ≡ bit named e
unfolding mask_setting
mask_odd named sign k e q =
    let x : 12 - (2 * k + 1 + 1) / 2 ≡ e = omega arith in
    ap (λ t. bit (cond t named sign) (12 - (2 * k + 1 + 1) / 2)) (eq-eqb ((2 * k + 1) % 2) 1 (omega arith)) ∙ ap (bit named) x

pub mask_even : (named sign k e : ℕ) → e + k + 1 ≡ 12 → mask_setting named sign (2 * k + 2) ≡ bit sign e
unfolding mask_setting
mask_even named sign k e q =
    let x : 12 - (2 * k + 2 + 1) / 2 ≡ e = omega arith in
    ap (λ t. bit (cond t named sign) (12 - (2 * k + 2 + 1) / 2)) (ne_eqb ((2 * k + 2) % 2) 1 (λ z. omega arith)) ∙ ap (bit sign) x

-- the product of the setting of masks is what they say
pub product_of_masks : (n k named sign : ℕ) → n + k ≡ 12 → product_from n k (mask_setting named sign) ≡ words n named sign
product_of_masks zero k named sign e = refl
product_of_masks (suc n) k named sign e =
    let odd = mask_odd named sign k n (omega arith) in
    let even = mask_even named sign k n (omega arith) in
    let rest = product_of_masks n (k + 1) named sign (omega arith) in
    λ i. (word (odd i) (even i), rest i)

-- the version of the setting of masks is that of the sign mask
pub version_of_masks : (n k named sign : ℕ) → n + k ≡ 12 → signs_from n k (mask_setting named sign) ≡ signs n sign
version_of_masks zero k named sign e = refl
version_of_masks (suc n) k named sign e =
    let even = mask_even named sign k n (omega arith) in
    let rest = version_of_masks n (k + 1) named sign (omega arith) in
    λ i. (even i, rest i)

pub masks_are_versions : MasksAreVersions
unfolding condition_of version_of
masks_are_versions f h named m = signs_are_versions 12 0 f refl h (mask_setting named m) ∙ ap (condition 12 0 f) (version_of_masks 12 0 named m refl)

-- the word of option j, counted from 0, of two masks
word_of_masks : (n j e named sign : ℕ) → j + e + 1 ≡ n → word_at n j (words n named sign) ≡ word (bit named e) (bit sign e)
word_of_masks zero j e named sign q = absurd (omega arith)
word_of_masks (suc n) zero e named sign q = let x : n ≡ e = omega arith in ap (λ (z : ℕ). word (bit named z) (bit sign z)) x
word_of_masks (suc n) (suc j) e named sign q = word_of_masks n j e named sign (omega arith)

within : (a b : ℕ) → a < 2 → b ≤ a → cond (eqb a 1) (eqb b 1) false ≡ eqb b 1
within zero zero p q = refl
within zero (suc b) p q = absurd (omega arith)
within (suc zero) b p q = refl
within (suc (suc a)) b p q = absurd (omega arith)

-- the bits of masks are the variables of their words
pub mask_level : (named sign i : ℕ) → bit_and sign named ≡ sign → 0 < i → i ≤ 24 → mask_setting named sign i ≡ product_setting 12 0 (words 12 named sign) i
mask_level named sign i h lo hi =
    let k : ℕ = (i - 1) / 2 in
    let e : ℕ = 11 - k in
    let few : k < 12 = omega arith in
    let sum : k + e + 1 ≡ 12 = omega arith in
    let at : e + k + 1 ≡ 12 = omega arith in
    let w = word_of_masks 12 k e named sign sum in
    elim (cases_eq (i % 2) 1) [
      | inl o ↦
          let here : i ≡ 2 * k + 1 = omega arith in
          let own : i ≡ 2 * (0 + k) + 1 = omega arith in
          ap (mask_setting named sign) here ∙ mask_odd named sign k e at
          ∙ sym (setting_odd 12 0 k i (words 12 named sign) few own ∙ ap names w ∙ names_word (bit named e) (bit sign e))
      | inr o ↦
          let here : i ≡ 2 * k + 2 = omega arith in
          let own : i ≡ 2 * (0 + k) + 2 = omega arith in
          ap (mask_setting named sign) here ∙ mask_even named sign k e at
          ∙ sym (
          setting_even 12 0 k i (words 12 named sign) few own ∙ ap wants w ∙ wants_word (bit named e) (bit sign e)
          ∙ within (named / 2 ^ e % 2) (sign / 2 ^ e % 2) (bit_below named e) (within_bit named sign e h)
          )
    ]

pub masks_are_words : MasksAreWords
unfolding products_of words_of
masks_are_words f own p = own (mask_setting p.named p.sign) (product_setting 12 0 (words 12 p.named p.sign)) (λ i lo hi. mask_level p.named p.sign i p.within lo hi)

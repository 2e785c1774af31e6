-- The bits of masks, one at a time from the top. Assumes nothing.
use Rattle.std.proofs.Common.{◌≡◌, ℕ, zero, suc, ◌+◌, ◌*◌, ◌/◌, ◌%◌, ◌^◌, ◌<◌, ◌≤◌, min, false, cond, ◌&&◌, eqb, sym, ap, ◌∙◌, inl, inr, arith}
use Rattle.std.proofs.Math.Nat.{div-eq_of_lt}
use Rattle.std.proofs.Math.Pow.{pow_mono}
use lib.Bits.{bit_and, and_shr, and_step}
use Rattle.std.proofs.lemmas.Nat.{mod-pow-add, mod_below, pow_pos, div-mul-add}
use Rattle.product.specs.Bits.{bit}
use Rattle.std.proofs.lemmas.Bool.{cases_eq, eq-eqb, ne_eqb}

-- a number's last n + 1 bits are bit n and the last n
pub low_part : (m n : ℕ) → m % 2 ^ suc n ≡ m / 2 ^ n % 2 * 2 ^ n + m % 2 ^ n
low_part m n = ap (λ (z : ℕ). m % 2 ^ z) (one_more n) ∙ mod-pow-add m 1 n
  where
    one_more : (n : ℕ) → suc n ≡ 1 + n
    one_more n = omega arith

pub low_below : (m n : ℕ) → m % 2 ^ n < 2 ^ n
low_below m n = mod_below m (2 ^ n) (pow_pos n)

pub no_bits : (m : ℕ) → m % 1 ≡ 0
no_bits m = omega arith

pub bit_below : (m n : ℕ) → m / 2 ^ n % 2 < 2
bit_below m n = mod_below (m / 2 ^ n) 2 (omega arith)

-- a sign bit is 1 only where the named bit is
pub within_bit : (named sign j : ℕ) → bit_and sign named ≡ sign → sign / 2 ^ j % 2 ≤ named / 2 ^ j % 2
within_bit named sign j h =
    let a : ℕ = sign / 2 ^ j in
    let b : ℕ = named / 2 ^ j in
    let own : bit_and a b ≡ a = sym (and_shr sign named j) ∙ ap (λ (z : ℕ). z / 2 ^ j) h in
    least a b (bit_and (a / 2) (b / 2)) (sym own ∙ and_step a b)
  where
    least : (a b x : ℕ) → a ≡ x * 2 + min (a % 2) (b % 2) → a % 2 ≤ b % 2
    least a b x p = omega arith

-- two numbers in the base w are equal where both of their digits are
pub eqb_digits : (x y r s w : ℕ) → r < w → s < w → eqb (x * w + r) (y * w + s) ≡ (eqb x y && eqb r s)
eqb_digits x y r s w p q =
    elim (cases_eq x y) [
      | inl e ↦
          elim (cases_eq r s) [
            | inl f ↦ eq-eqb (x * w + r) (y * w + s) (λ i. e i * w + f i) ∙ sym (λ i. eq-eqb x y e i && eq-eqb r s f i)
            | inr f ↦ ne_eqb (x * w + r) (y * w + s) (λ z. f (rest (x * w) (y * w) r s (ap (λ (k : ℕ). k * w) e) z)) ∙ sym (λ i. eq-eqb x y e i && ne_eqb r s f i)
          ]
      | inr e ↦ ne_eqb (x * w + r) (y * w + s) (λ z. e (first z)) ∙ sym (λ i. ne_eqb x y e i && eqb r s)
    ]
  where
    rest : (a b r s : ℕ) → a ≡ b → a + r ≡ b + s → r ≡ s
    rest a b r s e f = omega arith

    first : x * w + r ≡ y * w + s → x ≡ y
    first z = sym (div-mul-add x w r p) ∙ ap (λ (k : ℕ). k / w) z ∙ div-mul-add y w s q

-- a bit's weight
pub cond_bit : (x w : ℕ) → x < 2 → cond (eqb x 1) w 0 ≡ x * w
cond_bit zero w p = omega arith
cond_bit (suc zero) w p = omega arith
cond_bit (suc (suc x)) w p = absurd (omega arith)

-- a mask of twelve bits has none past them
pub no_bit : (m j : ℕ) → m < 4096 → 12 ≤ j → bit m j ≡ false
no_bit m j low high = ap (λ (z : ℕ). eqb (z % 2) 1) (div-eq_of_lt (omega (arith, pow_mono high)))

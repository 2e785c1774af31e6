-- Every product is what exactly one pair of masks says, and every version the signs of one mask. Assumes nothing.
use Rattle.std.proofs.Common.{◌≡◌, ℕ, zero, suc, ◌+◌, ◌-◌, ◌*◌, ◌/◌, ◌%◌, ◌^◌, ◌<◌, ◌≤◌, Bool, true, false, cond, eqb, sym, refl, ap, ◌∙◌, mul_assoc, mul_comm, pow-suc, arith}
use native.Mathlib.Nat.{add-mul-div_right}
use lib.Bits.{bit_and, and_block}
use Rattle.std.proofs.lemmas.Nat.{pow_pos, pow-add, div-mul-add}
use Rattle.product.specs.Bits.{bit}
use Rattle.product.specs.Words.{Word, Words, Version, absent, refused, wanted, names}
use Rattle.product.specs.Masks.{word, words, signs, wants, named_mask, sign_mask, version_mask, Masks}
use Rattle.product.proofs.Bitwise.{low_part, no_bits, bit_below, cond_bit}
use Rattle.product.proofs.Masking.{words_one}

-- a power of two above bit j does not touch it
low_bit : (j d n b x : ℕ) → n ≡ d + suc j → (b * 2 ^ n + x) / 2 ^ j % 2 ≡ x / 2 ^ j % 2
low_bit j d n b x e =
    let p : b * 2 ^ n ≡ b * (2 ^ d * 2) * 2 ^ j = ap (λ (z : ℕ). b * z) (ap (λ (z : ℕ). 2 ^ z) e ∙ pow-add 2 d (suc j) ∙ ap (λ (z : ℕ). 2 ^ d * z) (pow-suc 2 j ∙ mul_comm (2 ^ j) 2) ∙ sym (mul_assoc (2 ^ d) 2 (2 ^ j))) ∙ sym (mul_assoc b (2 ^ d * 2) (2 ^ j)) in
    let s : b * 2 ^ n + x ≡ x + b * (2 ^ d * 2) * 2 ^ j = swap (b * 2 ^ n) x (b * (2 ^ d * 2) * 2 ^ j) p in
    let q : (b * 2 ^ n + x) / 2 ^ j ≡ x / 2 ^ j + b * (2 ^ d * 2) = ap (λ (z : ℕ). z / 2 ^ j) s ∙ add-mul-div_right x (b * (2 ^ d * 2)) (pow_pos j) in
    ap (λ (z : ℕ). z % 2) q ∙ even (x / 2 ^ j) (b * 2 ^ d) (b * (2 ^ d * 2)) (sym (mul_assoc b (2 ^ d) 2))
  where
    even : (a b c : ℕ) → c ≡ b * 2 → (a + c) % 2 ≡ a % 2
    even a b c e = omega arith

    swap : (a x c : ℕ) → a ≡ c → a + x ≡ x + c
    swap a x c e = omega arith

-- the words below a bit do not see it
words_low : (k n x y a b : ℕ) → k ≤ n → words k (a * 2 ^ n + x) (b * 2 ^ n + y) ≡ words k x y
words_low zero n x y a b le = refl
words_low (suc k) n x y a b le = λ i. (word (low a x i) (low b y i), words_low k n x y a b (omega arith) i)
  where
    low : (a x : ℕ) → bit (a * 2 ^ n + x) k ≡ bit x k
    low a x = ap (λ (z : ℕ). eqb z 1) (low_bit k (n - suc k) n a x (omega arith))

-- a truth value as a bit
one : Bool → ℕ
one b = cond b 1 0

top : (n x : ℕ) (a : Bool) → x < 2 ^ n → bit (one a * 2 ^ n + x) n ≡ a
unfolding one
top n x a lt = ap (λ (z : ℕ). eqb (z % 2) 1) (div-mul-add (one a) (2 ^ n) x lt) ∙ back a
  where
    back : (a : Bool) → eqb (cond a 1 0 % 2) 1 ≡ a
    back true = refl
    back false = refl

scaled : (a : Bool) (w : ℕ) → cond a w 0 ≡ one a * w
unfolding one
scaled true w = omega arith
scaled false w = omega arith

sum_below : (b : Bool) (x y z : ℕ) → x < y → z ≡ y * 2 → cond b y 0 + x < z
sum_below true x y z p q = omega arith
sum_below false x y z p q = omega arith

pub named_below : (n : ℕ) (p : Words n) → named_mask n p < 2 ^ n
named_below zero p = omega arith
named_below (suc n) p = sum_below (names p.0) (named_mask n p.1) (2 ^ n) (2 ^ suc n) (named_below n p.1) (pow-suc 2 n)

pub sign_below : (n : ℕ) (p : Words n) → sign_mask n p < 2 ^ n
sign_below zero p = omega arith
sign_below (suc n) p = sum_below (wants p.0) (sign_mask n p.1) (2 ^ n) (2 ^ suc n) (sign_below n p.1) (pow-suc 2 n)

word_back : (w : Word) → word (names w) (wants w) ≡ w
word_back absent = refl
word_back refused = refl
word_back wanted = refl

-- the masks of a product say that product
pub words_back : (n : ℕ) (p : Words n) → words n (named_mask n p) (sign_mask n p) ≡ p
words_back zero p = refl
words_back (suc n) p =
    let x = named_mask n p.1 in
    let y = sign_mask n p.1 in
    let a = names p.0 in
    let b = wants p.0 in
    let first : word (bit (one a * 2 ^ n + x) n) (bit (one b * 2 ^ n + y) n) ≡ p.0 = (λ i. word (top n x a (named_below n p.1) i) (top n y b (sign_below n p.1) i)) ∙ word_back p.0 in
    let rest : words n (one a * 2 ^ n + x) (one b * 2 ^ n + y) ≡ p.1 = words_low n n x y (one a) (one b) (omega arith) ∙ words_back n p.1 in
    (λ i. words (suc n) (scaled a (2 ^ n) i + x) (scaled b (2 ^ n) i + y)) ∙ λ i. (first i, rest i)

within_word : (w : Word) → bit_and (one (wants w)) (one (names w)) ≡ one (wants w)
unfolding one
within_word absent = refl
within_word refused = refl
within_word wanted = refl

sign_within : (n : ℕ) (p : Words n) → bit_and (sign_mask n p) (named_mask n p) ≡ sign_mask n p
sign_within zero p = refl
sign_within (suc n) p =
    let x = named_mask n p.1 in
    let y = sign_mask n p.1 in
    let a = names p.0 in
    let b = wants p.0 in
    (λ i. bit_and (scaled b (2 ^ n) i + y) (scaled a (2 ^ n) i + x))
    ∙ and_block n (one b) (one a) y x (sign_below n p.1) (named_below n p.1)
    ∙ (λ i. within_word p.0 i * 2 ^ n + sign_within n p.1 i)
    ∙ sym (λ i. scaled b (2 ^ n) i + y)

-- the masks of a product of twelve options are masks
pub masks_back : (p : Words 12) → Masks (named_mask 12 p) (sign_mask 12 p)
masks_back p = record { low = named_below 12 p; signed = sign_below 12 p; within = sign_within 12 p }

-- and no other masks say it
pub masks_alone : (p : Words 12) (a b : ℕ) → Masks a b → words 12 a b ≡ p → (a ≡ named_mask 12 p) × (b ≡ sign_mask 12 p)
masks_alone p a b m e = words_one a b (named_mask 12 p) (sign_mask 12 p) m (masks_back p) (e ∙ sym (words_back 12 p))

pub version_below : (n : ℕ) (v : Version n) → version_mask n v < 2 ^ n
version_below zero v = omega arith
version_below (suc n) v = sum_below v.0 (version_mask n v.1) (2 ^ n) (2 ^ suc n) (version_below n v.1) (pow-suc 2 n)

signs_low : (k n x a : ℕ) → k ≤ n → signs k (a * 2 ^ n + x) ≡ signs k x
signs_low zero n x a le = refl
signs_low (suc k) n x a le = λ i. (eqb (low_bit k (n - suc k) n a x (omega arith) i) 1, signs_low k n x a (omega arith) i)

-- the mask of a version gives that version
pub signs_back : (n : ℕ) (v : Version n) → signs n (version_mask n v) ≡ v
signs_back zero v = refl
signs_back (suc n) v =
    let x = version_mask n v.1 in
    let rest : signs n (one v.0 * 2 ^ n + x) ≡ v.1 = signs_low n n x (one v.0) (omega arith) ∙ signs_back n v.1 in
    (λ i. signs (suc n) (scaled v.0 (2 ^ n) i + x)) ∙ λ i. (top n x v.0 (version_below n v.1) i, rest i)

-- the mask of the signs that a mask gives
pub version_signs : (n m : ℕ) → version_mask n (signs n m) ≡ m % 2 ^ n
version_signs zero m = sym (no_bits m)
version_signs (suc n) m =
    (λ i. cond_bit (m / 2 ^ n % 2) (2 ^ n) (bit_below m n) i + version_signs n m i) ∙ sym (low_part m n)

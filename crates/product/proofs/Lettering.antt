-- The letters of two masks, one option after another. Assumes nothing.
use Rattle.std.proofs.Common.{◌≡◌, ℕ, zero, suc, ◌+◌, ◌-◌, ◌<◌, ◌≤◌, true, false, List, [], ◌∷◌, ◌++◌, length, sym, refl, ap, ◌∙◌, append_assoc, append-nil, arith, length-append}
use Rattle.product.specs.Bits.{bit}
use Rattle.product.specs.Words.{Word, spell, letters}
use Rattle.product.specs.Masks.{word, words, literal, last_letters}

pub letters_none : (n named sign : ℕ) → n ≡ 0 → last_letters n named sign ≡ []
unfolding last_letters
letters_none zero named sign e = refl
letters_none (suc n) named sign e = absurd (omega arith)

-- the first option's literal, then those of the rest
pub letters_next : (n named sign : ℕ) → 0 < n → n ≤ 12 → last_letters n named sign ≡ literal named sign (n - 1) ++ last_letters (n - 1) named sign
unfolding literal last_letters
letters_next n named sign least most =
    let m : ℕ = n - 1 in
    let e : n ≡ m + 1 = omega arith in
    let w : Word = word (bit named m) (bit sign m) in
    ap (λ (z : ℕ). letters z (109 - n) (words z named sign)) (more n m e)
    ∙ λ i. spell w (here n m e i) ++ letters m (next n m e most i) (words m named sign)
  where
    more : (n m : ℕ) → n ≡ m + 1 → n ≡ suc m
    more n m e = omega arith

    here : (n m : ℕ) → n ≡ m + 1 → 109 - n ≡ 108 - m
    here n m e = omega arith

    next : (n m : ℕ) → n ≡ m + 1 → n ≤ 12 → 109 - n + 1 ≡ 109 - m
    next n m e l = omega arith

-- its length
pub letters_next_length : (n named sign : ℕ) → (n ≡ 0 → ⊥) → n ≤ 12
    → length (last_letters n named sign) ≡ length (literal named sign (n - 1)) + length (last_letters (n - 1) named sign)
letters_next_length n named sign least most =
    ap length (letters_next n named sign (omega (arith, least)) most) ∙ length-append (literal named sign (n - 1)) (last_letters (n - 1) named sign)

pub literal_absent : (named sign j : ℕ) → bit named j ≡ false → literal named sign j ≡ []
unfolding literal
literal_absent named sign j e = λ i. spell (word (e i) (bit sign j)) (108 - j)

pub literal_wanted : (named sign j x : ℕ) → bit named j ≡ true → bit sign j ≡ true → x ≡ 108 - j → literal named sign j ≡ x ∷ []
unfolding literal
literal_wanted named sign j x e f g = (λ i. spell (word (e i) (f i)) (108 - j)) ∙ ap (λ (z : ℕ). z ∷ []) (sym g)

pub literal_refused : (named sign j x : ℕ) → bit named j ≡ true → bit sign j ≡ false → x ≡ 108 - j → literal named sign j ≡ 33 ∷ x ∷ []
unfolding literal
literal_refused named sign j x e f g = (λ i. spell (word (e i) (f i)) (108 - j)) ∙ ap (λ (z : ℕ). 33 ∷ z ∷ []) (sym g)

-- bytes before the letters of the last n options: one literal on, how long it may be, and at the end
module _ (n named sign : ℕ) (bytes whole : List ℕ) (are : bytes ++ last_letters n named sign ≡ whole) where
  pub literal_next : 0 < n → n ≤ 12 → (bytes ++ literal named sign (n - 1)) ++ last_letters (n - 1) named sign ≡ whole
  literal_next least most = append_assoc bytes _ _ ∙ ap (λ (z : List ℕ). bytes ++ z) (sym (letters_next n named sign least most)) ∙ are

  pub literal_room : 0 < n → n ≤ 12 → length bytes + length (literal named sign (n - 1)) ≤ length whole
  literal_room least most =
      let one = literal named sign (n - 1) in
      omega (arith, ap length (literal_next least most), length-append (bytes ++ one) (last_letters (n - 1) named sign), length-append bytes one)

  pub letters_all : n ≡ 0 → bytes ≡ whole
  letters_all none = sym (append-nil bytes) ∙ ap (λ (z : List ℕ). bytes ++ z) (sym (letters_none n named sign none)) ∙ are

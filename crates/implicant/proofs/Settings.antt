-- Settings of versions and of products, and what they give back. Assumes nothing.
use Rattle.std.proofs.Common.{◌≡◌, ℕ, zero, suc, ◌+◌, ◌*◌, ◌<◌, ◌≤◌, Bool, true, false, cond, eqb, sym, refl, ap, ◌∙◌, inl, inr, arith}
use mathlib.Core.Path.{fun_ext}
use Rattle.std.proofs.lemmas.Bool.{cases_eq, cond-true, cond-false, eq-eqb, ne_eqb}
use Rattle.product.specs.Words.{Version, Word, absent, refused, wanted, Words, names}
use Rattle.product.specs.Masks.{word, wants}
use Rattle.diagram.specs.Functions.{Setting, put}
use Rattle.implicant.specs.Implicants.{word_at}
use Rattle.implicant.specs.Theorems.{LevelsOfOptions}
use Rattle.implicant.specs.Variables.{signs_from, product_from, version_setting, product_setting}

pub levels_of_options : LevelsOfOptions
levels_of_options k = (omega arith, omega arith)

pub put_at : (l : ℕ) (b : Bool) (s : Setting) (i : ℕ) → i ≡ l → put l b s i ≡ b
unfolding put
put_at l b s i e = cond-true (eqb i l) b (s i) (eq-eqb i l e)

pub put_off : (l : ℕ) (b : Bool) (s : Setting) (i : ℕ) → (i ≡ l → ⊥) → put l b s i ≡ s i
unfolding put
put_off l b s i ne = cond-false (eqb i l) b (s i) (ne_eqb i l ne)

pub put_alike : (l : ℕ) (b : Bool) (s t : Setting) (i : ℕ) → ((i ≡ l → ⊥) → s i ≡ t i) → put l b s i ≡ put l b t i
put_alike l b s t i a =
    elim (cases_eq i l) [
      | inl e ↦ put_at l b s i e ∙ sym (put_at l b t i e)
      | inr ne ↦ put_off l b s i ne ∙ a ne ∙ sym (put_off l b t i ne)
    ]

-- setting a variable to what it is changes nothing
pub put_own : (l : ℕ) (b : Bool) (s : Setting) → s l ≡ b → s ≡ put l b s
put_own l b s e = fun_ext (λ i. elim (cases_eq i l) [ inl q ↦ ap s q ∙ e ∙ sym (put_at l b s i q) | inr ne ↦ sym (put_off l b s i ne) ])

pub names_word : (a b : Bool) → names (word a b) ≡ a
names_word true true = refl
names_word true false = refl
names_word false b = refl

pub wants_word : (a b : Bool) → wants (word a b) ≡ cond a b false
wants_word true true = refl
wants_word true false = refl
wants_word false b = refl

pub word_back : (w : Word) → word (names w) (wants w) ≡ w
word_back absent = refl
word_back refused = refl
word_back wanted = refl

-- the sign of option j in the setting of a version's signs
pub version_even : (n k : ℕ) (s : Setting) (j : ℕ) → k ≤ j → j < k + n → version_setting n k (signs_from n k s) (2 * j + 2) ≡ s (2 * j + 2)
version_even zero k s j le lt = absurd (omega arith)
version_even (suc n) k s j le lt =
    let rest = version_setting n (k + 1) (signs_from n (k + 1) s) in
    elim (cases_eq j k) [
      | inl e ↦ put_at (2 * k + 2) (s (2 * k + 2)) rest (2 * j + 2) (omega arith) ∙ ap (λ (x : ℕ). s (2 * x + 2)) (sym e)
      | inr ne ↦ put_off (2 * k + 2) (s (2 * k + 2)) rest (2 * j + 2) (λ q. ne (omega arith)) ∙ version_even n (k + 1) s j (omega arith) (omega arith)
    ]

-- settings with the same signs give the same version
pub signs_alike : (n k : ℕ) (s t : Setting) → ((j : ℕ) → k ≤ j → j < k + n → s (2 * j + 2) ≡ t (2 * j + 2)) → signs_from n k s ≡ signs_from n k t
signs_alike zero k s t a = refl
signs_alike (suc n) k s t a =
    let x : s (2 * k + 2) ≡ t (2 * k + 2) = a k (omega arith) (omega arith) in
    let y : signs_from n (k + 1) s ≡ signs_from n (k + 1) t = signs_alike n (k + 1) s t (λ j le lt. a j (omega arith) (omega arith)) in
    λ i. (x i, y i)

-- the setting of a version gives that version
pub signs_back : (n k : ℕ) (v : Version n) → signs_from n k (version_setting n k v) ≡ v
signs_back zero k v = refl
signs_back (suc n) k v =
    let rest = version_setting n (k + 1) v.1 in
    let x = put_at (2 * k + 2) v.0 rest (2 * k + 2) refl in
    let y = signs_alike n (k + 1) (put (2 * k + 2) v.0 rest) rest (λ j le lt. put_off (2 * k + 2) v.0 rest (2 * j + 2) (λ q. omega arith)) ∙ signs_back n (k + 1) v.1 in
    λ i. (x i, y i)

-- settings with the same words give the same product
pub product_alike : (n k : ℕ) (s t : Setting) → ((j : ℕ) → k ≤ j → j < k + n → word (s (2 * j + 1)) (s (2 * j + 2)) ≡ word (t (2 * j + 1)) (t (2 * j + 2))) → product_from n k s ≡ product_from n k t
product_alike zero k s t a = refl
product_alike (suc n) k s t a =
    let x : word (s (2 * k + 1)) (s (2 * k + 2)) ≡ word (t (2 * k + 1)) (t (2 * k + 2)) = a k (omega arith) (omega arith) in
    let y : product_from n (k + 1) s ≡ product_from n (k + 1) t = product_alike n (k + 1) s t (λ j le lt. a j (omega arith) (omega arith)) in
    λ i. (x i, y i)

-- the word of option j, counted from 0, in the product of a setting
pub word_from : (n k j m : ℕ) (s : Setting) → j < n → m ≡ k + j → word_at n j (product_from n k s) ≡ word (s (2 * m + 1)) (s (2 * m + 2))
word_from zero k j m s lt e = absurd (omega arith)
word_from (suc n) k zero m s lt e = let q : k ≡ m = omega arith in ap (λ (z : ℕ). word (s (2 * z + 1)) (s (2 * z + 2))) q
word_from (suc n) k (suc j) m s lt e = word_from n (k + 1) j m s (omega arith) (omega arith)

-- the variables of option j, counted from 0, in the setting of a product
pub setting_odd : (n k j i : ℕ) (p : Words n) → j < n → i ≡ 2 * (k + j) + 1 → product_setting n k p i ≡ names (word_at n j p)
setting_odd zero k j i p lt e = absurd (omega arith)
setting_odd (suc n) k zero i p lt e = put_at (2 * k + 1) (names p.0) (put (2 * k + 2) (wants p.0) (product_setting n (k + 1) p.1)) i (omega arith)
setting_odd (suc n) k (suc j) i p lt e =
    let rest = product_setting n (k + 1) p.1 in
    put_off (2 * k + 1) (names p.0) (put (2 * k + 2) (wants p.0) rest) i (λ q. omega arith)
    ∙ put_off (2 * k + 2) (wants p.0) rest i (λ q. omega arith)
    ∙ setting_odd n (k + 1) j i p.1 (omega arith) (omega arith)

pub setting_even : (n k j i : ℕ) (p : Words n) → j < n → i ≡ 2 * (k + j) + 2 → product_setting n k p i ≡ wants (word_at n j p)
setting_even zero k j i p lt e = absurd (omega arith)
setting_even (suc n) k zero i p lt e =
    let rest = product_setting n (k + 1) p.1 in
    put_off (2 * k + 1) (names p.0) (put (2 * k + 2) (wants p.0) rest) i (λ q. omega arith)
    ∙ put_at (2 * k + 2) (wants p.0) rest i (omega arith)
setting_even (suc n) k (suc j) i p lt e =
    let rest = product_setting n (k + 1) p.1 in
    put_off (2 * k + 1) (names p.0) (put (2 * k + 2) (wants p.0) rest) i (λ q. omega arith)
    ∙ put_off (2 * k + 2) (wants p.0) rest i (λ q. omega arith)
    ∙ setting_even n (k + 1) j i p.1 (omega arith) (omega arith)

-- the setting of a product gives that product
pub product_back : (n k : ℕ) (p : Words n) → product_from n k (product_setting n k p) ≡ p
product_back zero k p = refl
product_back (suc n) k p =
    let rest = product_setting n (k + 1) p.1 in
    let a = names p.0 in
    let b = wants p.0 in
    let s = put (2 * k + 1) a (put (2 * k + 2) b rest) in
    let odd : s (2 * k + 1) ≡ a = put_at (2 * k + 1) a (put (2 * k + 2) b rest) (2 * k + 1) refl in
    let even : s (2 * k + 2) ≡ b = put_off (2 * k + 1) a (put (2 * k + 2) b rest) (2 * k + 2) (λ q. omega arith) ∙ put_at (2 * k + 2) b rest (2 * k + 2) refl in
    let past : (i : ℕ) → 2 * k + 2 < i → s i ≡ rest i = λ i lt. put_off (2 * k + 1) a (put (2 * k + 2) b rest) i (λ q. omega arith) ∙ put_off (2 * k + 2) b rest i (λ q. omega arith) in
    let x : word (s (2 * k + 1)) (s (2 * k + 2)) ≡ p.0 = (λ i. word (odd i) (even i)) ∙ word_back p.0 in
    let y = product_alike n (k + 1) s rest (λ j le lt. λ i. word (past (2 * j + 1) (omega arith) i) (past (2 * j + 2) (omega arith) i)) ∙ product_back n (k + 1) p.1 in
    λ i. (x i, y i)

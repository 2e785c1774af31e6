-- Product sets and the sets of their products. Assumes nothing.
use Rattle.std.proofs.Common.{◌≡◌, ℕ, zero, suc, ◌+◌, ◌-◌, ◌*◌, ◌/◌, ◌%◌, ◌<◌, ◌≤◌, Bool, true, false, cond, sym, refl, ap, ◌∙◌, inl, inr, arith}
use Rattle.std.proofs.lemmas.Bool.{cases_eq}
use Rattle.product.specs.Words.{Words, names}
use Rattle.product.specs.Masks.{word, wants}
use Rattle.diagram.specs.Functions.{Setting, Fun, put}
use Rattle.implicant.specs.Variables.{product_from, product_setting, TidyAt}
use Rattle.implicant.specs.Theorems.{SetsHaveProducts, ProductsMakeSets}
use Rattle.implicant.proofs.Settings.{put_at, put_off, put_own, names_word, wants_word, product_alike, word_from, setting_odd, setting_even, product_back}

-- s with no at the signs of the options, among the n after the first k, that do not occur
tidied : (n k : ℕ) → Setting → Setting
tidied zero k s = s
tidied (suc n) k s = put (2 * k + 2) (cond (s (2 * k + 1)) (s (2 * k + 2)) false) (tidied n (k + 1) s)

tidied_off : (n k : ℕ) (s : Setting) (i : ℕ) → ((m : ℕ) → k ≤ m → m < k + n → i ≡ 2 * m + 2 → ⊥) → tidied n k s i ≡ s i
unfolding tidied
tidied_off zero k s i apart = refl
tidied_off (suc n) k s i apart =
    put_off (2 * k + 2) (cond (s (2 * k + 1)) (s (2 * k + 2)) false) (tidied n (k + 1) s) i (apart k (omega arith) (omega arith))
    ∙ tidied_off n (k + 1) s i (λ m le lt. apart m (omega arith) (omega arith))

tidied_even : (n k : ℕ) (s : Setting) (m : ℕ) → k ≤ m → m < k + n → tidied n k s (2 * m + 2) ≡ cond (s (2 * m + 1)) (s (2 * m + 2)) false
unfolding tidied
tidied_even zero k s m le lt = absurd (omega arith)
tidied_even (suc n) k s m le lt =
    let b = cond (s (2 * k + 1)) (s (2 * k + 2)) false in
    elim (cases_eq m k) [
      | inl e ↦ put_at (2 * k + 2) b (tidied n (k + 1) s) (2 * m + 2) (omega arith) ∙ ap (λ (z : ℕ). cond (s (2 * z + 1)) (s (2 * z + 2)) false) (sym e)
      | inr ne ↦ put_off (2 * k + 2) b (tidied n (k + 1) s) (2 * m + 2) (λ q. ne (omega arith)) ∙ tidied_even n (k + 1) s m (omega arith) (omega arith)
    ]

-- the sign of an option that does not occur may be set to no
tidy_one : (k : ℕ) (f : Fun) (t : Setting) (a b : Bool) → TidyAt k f → t (2 * k + 1) ≡ a → t (2 * k + 2) ≡ b → f t ≡ f (put (2 * k + 2) (cond a b false) t)
tidy_one k f t true b h p q = ap f (put_own (2 * k + 2) b t q)
tidy_one k f t false true h p q = ap f (put_own (2 * k + 2) true t q) ∙ h t p
tidy_one k f t false false h p q = ap f (put_own (2 * k + 2) false t q)

tidied_same : (n k : ℕ) (f : Fun) (s : Setting) → ((m : ℕ) → k ≤ m → m < k + n → TidyAt m f) → f s ≡ f (tidied n k s)
unfolding tidied
tidied_same zero k f s h = refl
tidied_same (suc n) k f s h =
    let t = tidied n (k + 1) s in
    tidied_same n (k + 1) f s (λ m le lt. h m (omega arith) (omega arith))
    ∙ tidy_one k f t (s (2 * k + 1)) (s (2 * k + 2)) (h k (omega arith) (omega arith))
    (tidied_off n (k + 1) s (2 * k + 1) (λ m le lt q. omega arith))
    (tidied_off n (k + 1) s (2 * k + 2) (λ m le lt q. omega arith))

pub sets_have_products : SetsHaveProducts
sets_have_products n k f e own h s = tidied_same n k f s (λ m le lt. h.each m le (omega arith)) ∙ own (tidied n k s) (product_setting n k p) at
  where
    p : Words n
    p = product_from n k s

    at : (i : ℕ) → 2 * k < i → i ≤ 24 → tidied n k s i ≡ product_setting n k (product_from n k s) i
    at i lo hi =
        let j : ℕ = (i - 1) / 2 - k in
        let m : ℕ = (i - 1) / 2 in
        let few : j < n = omega arith in
        let is : m ≡ k + j = omega arith in
        elim (cases_eq (i % 2) 1) [
          | inl o ↦
              let at_i : 2 * m + 1 ≡ i = omega arith in
              let here : i ≡ 2 * (k + j) + 1 = omega arith in
              tidied_off n k s i (λ z le lt q. omega arith)
              ∙ ap s (sym at_i)
              ∙ sym (setting_odd n k j i p few here ∙ ap names (word_from n k j m s few is) ∙ names_word (s (2 * m + 1)) (s (2 * m + 2)))
          | inr o ↦
              let at_i : 2 * m + 2 ≡ i = omega arith in
              let here : i ≡ 2 * (k + j) + 2 = omega arith in
              ap (tidied n k s) (sym at_i)
              ∙ tidied_even n k s m (omega arith) (omega arith)
              ∙ sym (setting_even n k j i p few here ∙ ap wants (word_from n k j m s few is) ∙ wants_word (s (2 * m + 1)) (s (2 * m + 2)))
        ]

-- the sign of an option that does not occur is not in the product
product_tidy : (n k m : ℕ) (s : Setting) → s (2 * m + 1) ≡ false → product_from n k (put (2 * m + 2) true s) ≡ product_from n k (put (2 * m + 2) false s)
product_tidy n k m s e = product_alike n k (put (2 * m + 2) true s) (put (2 * m + 2) false s) (λ j le lt. same j)
  where
    odd : (b : Bool) (j : ℕ) → put (2 * m + 2) b s (2 * j + 1) ≡ s (2 * j + 1)
    odd b j = put_off (2 * m + 2) b s (2 * j + 1) (λ q. omega arith)

    same : (j : ℕ) → word (put (2 * m + 2) true s (2 * j + 1)) (put (2 * m + 2) true s (2 * j + 2)) ≡ word (put (2 * m + 2) false s (2 * j + 1)) (put (2 * m + 2) false s (2 * j + 2))
    same j =
        elim (cases_eq j m) [
          | inl q ↦
              let off : (b : Bool) → put (2 * m + 2) b s (2 * j + 1) ≡ false = λ b. odd b j ∙ ap (λ (z : ℕ). s (2 * z + 1)) q ∙ e in
              ap (λ a. word a (put (2 * m + 2) true s (2 * j + 2))) (off true) ∙ sym (ap (λ a. word a (put (2 * m + 2) false s (2 * j + 2))) (off false))
          | inr ne ↦
              let even : (b : Bool) → put (2 * m + 2) b s (2 * j + 2) ≡ s (2 * j + 2) = λ b. put_off (2 * m + 2) b s (2 * j + 2) (λ q. ne (omega arith)) in
              (λ i. word (odd true j i) (even true i)) ∙ sym (λ i. word (odd false j i) (even false i))
        ]

pub products_make_sets : ProductsMakeSets
products_make_sets n k c e = (
  λ s t a. ap c (product_alike n k s t (λ j le lt. λ i. word (a (2 * j + 1) (omega arith) (omega arith) i) (a (2 * j + 2) (omega arith) (omega arith) i))),
  record { each = λ m le lt s e. ap c (product_tidy n k m s e) },
  λ p. ap c (product_back n k p),
)

-- Lists of products in rising number. Assumes nothing.
use Rattle.std.proofs.Common.{◌≡◌, ℕ, ◌+◌, ◌^◌, ◌<◌, ◌≤◌, ◌↔◌, List, [], ◌∷◌, length, sym, refl, ap, ◌∙◌, subst, inl, inr, arith}
use Rattle.product.specs.Words.{Words, number}
use Rattle.product.specs.Lists.{In, Above, Rising}
use Rattle.product.proofs.Numbers.{number_below}

above_in : (n m : ℕ) (ps : List (Words n)) (p : Words n) → Above n m ps → In n p ps → m < number n p
above_in n m [] p a i = absurd i
above_in n m (q ∷ ps) p a (inl e) = subst (λ (x : Words n). m < number n x) e a.0
above_in n m (q ∷ ps) p a (inr i) = above_in n m ps p a.1 i

-- a product does not stand among those above it
pub not_above : (n : ℕ) (ps : List (Words n)) (q p : Words n) → Above n (number n q) ps → In n p ps → p ≡ q → ⊥
not_above n ps q p a i e = less (number n q) (number n p) (above_in n (number n q) ps p a i) (ap (number n) e)
  where
    less : (x y : ℕ) → x < y → y ≡ x → ⊥
    less x y lt e = omega arith

-- two such lists with the same products are equal
pub rising_same : (n : ℕ) (ps qs : List (Words n)) → Rising n ps → Rising n qs → ((p : Words n) → In n p ps ↔ In n p qs) → ps ≡ qs
rising_same n [] [] r s e = refl
rising_same n [] (q ∷ qs) r s e = absurd ((e q).1 (inl refl))
rising_same n (p ∷ ps) [] r s e = absurd ((e p).0 (inl refl))
rising_same n (p ∷ ps) (q ∷ qs) r s e = λ i. sym first i ∷ rising_same n ps qs r.1 s.1 (λ x. (there x, back x)) i
  where
    less : (x y : ℕ) → x < y → y < x → ⊥
    less x y a b = omega arith

    first : q ≡ p
    first =
        elim ((e p).0 (inl refl)) [
          | inl x ↦ x
          | inr x ↦
              elim ((e q).1 (inl refl)) [
                | inl y ↦ sym y
                | inr y ↦ absurd (less (number n p) (number n q) (above_in n (number n p) ps q r.0 y) (above_in n (number n q) qs p s.0 x))
              ]
        ]

    there : (x : Words n) → In n x ps → In n x qs
    there x i = elim ((e x).0 (inr i)) [ inl y ↦ absurd (not_above n ps p x r.0 i (sym y ∙ first)) | inr y ↦ y ]

    back : (x : Words n) → In n x qs → In n x ps
    back x i = elim ((e x).1 (inr i)) [ inl y ↦ absurd (not_above n qs q x s.0 i (sym y ∙ sym first)) | inr y ↦ y ]

above_few : (n m : ℕ) (ps : List (Words n)) → m < 3 ^ n → Above n m ps → Rising n ps → length ps + m < 3 ^ n
above_few n m [] lt a r = omega arith
above_few n m (p ∷ ps) lt a r = omega (arith, above_few n (number n p) ps (number_below n p) r.0 r.1, a.0)

-- there are no more of them than numbers
pub rising_few : (n : ℕ) (ps : List (Words n)) → Rising n ps → length ps ≤ 3 ^ n
rising_few n [] r = omega arith
rising_few n (p ∷ ps) r = omega (arith, above_few n (number n p) ps (number_below n p) r.0 r.1)

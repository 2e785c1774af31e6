-- Settings, choices by one variable, and functions that ignore the first variables. Assumes nothing.
use Rattle.std.proofs.Common.{◌≡◌, ℕ, ◌<◌, ◌≤◌, max, Bool, true, false, cond, sym, refl, ap, ◌∙◌, inl, inr, arith}
use mathlib.Core.Path.{fun_ext}
use Rattle.std.proofs.lemmas.Bool.{cases_lt, eq-eqb, ne_eqb, le-leb, lt-leb, cond-true, cond-false, and_from, and_left, and_right}
use Rattle.diagram.specs.Functions.{Setting, Fun, choice, put, Ignores, upto}

pub put_same : (l : ℕ) (b : Bool) (s : Setting) → put l b s l ≡ b
unfolding put
put_same l b s = rw (eq-eqb l l refl)

pub put_other : (l : ℕ) (b : Bool) (s : Setting) (i : ℕ) → l < i → s i ≡ put l b s i
unfolding put
put_other l b s i p = rw (ne_eqb i l (omega arith))

pub upto_in : (j : ℕ) (a s : Setting) (i : ℕ) → 1 ≤ i → i ≤ j → upto j a s i ≡ a i
unfolding upto
upto_in j a s i p q = cond-true _ (a i) (s i) (and_from _ _ (le-leb 1 i p) (le-leb i j q))

pub upto_before : (j : ℕ) (a s : Setting) (i : ℕ) → i < 1 → upto j a s i ≡ s i
unfolding upto
upto_before j a s i p = cond-false _ (a i) (s i) (and_left _ _ (lt-leb 1 i p))

pub upto_past : (j : ℕ) (a s : Setting) (i : ℕ) → j < i → upto j a s i ≡ s i
unfolding upto
upto_past j a s i p = cond-false _ (a i) (s i) (and_right _ _ (lt-leb i j p))

pub upto_none : (a s : Setting) → upto 0 a s ≡ s
upto_none a s = fun_ext (λ i. elim (cases_lt i 1) [ inl p ↦ upto_before 0 a s i p | inr p ↦ upto_past 0 a s i (omega arith) ])

-- Setting the first k levels, and then the first j, sets the first max j k.
pub upto_twice : (j k : ℕ) (a b s : Setting) → upto j a (upto k b s) ≡ upto (max j k) (upto j a b) s
upto_twice j k a b s = fun_ext at
  where
    at : (i : ℕ) → upto j a (upto k b s) i ≡ upto (max j k) (upto j a b) s i
    at i =
        elim (cases_lt i 1) [
          | inl p ↦ upto_before j a (upto k b s) i p ∙ upto_before k b s i p ∙ sym (upto_before (max j k) (upto j a b) s i p)
          | inr p ↦
              elim (cases_lt j i) [
                | inl q ↦
                    elim (cases_lt k i) [
                      | inl r ↦ upto_past j a (upto k b s) i q ∙ upto_past k b s i r ∙ sym (upto_past (max j k) (upto j a b) s i (omega arith))
                      | inr r ↦ upto_past j a (upto k b s) i q ∙ upto_in k b s i p r ∙ sym (upto_in (max j k) (upto j a b) s i p (omega arith) ∙ upto_past j a b i q)
                    ]
                | inr q ↦ upto_in j a (upto k b s) i p q ∙ sym (upto_in (max j k) (upto j a b) s i p (omega arith) ∙ upto_in j a b i p q)
              ]
        ]

-- A choice whose sides are equal makes no difference.
pub choice_same : (l : ℕ) (f : Fun) → f ≡ choice l f f
choice_same l f = fun_ext (λ s. either (s l) (f s))
  where
    either : (b x : Bool) → x ≡ cond b x x
    either true x = refl
    either false x = refl

pub choice_low : (l : ℕ) (f g : Fun) (s : Setting) → Ignores l f → f s ≡ choice l f g (put l false s)
choice_low l f g s p = rw (put_same l false s) (p s (put l false s) (put_other l false s))

pub choice_high : (l : ℕ) (f g : Fun) (s : Setting) → Ignores l g → g s ≡ choice l f g (put l true s)
choice_high l f g s p = rw (put_same l true s) (p s (put l true s) (put_other l true s))

-- The sides of a choice are determined by it.
module _ (l : ℕ) (f g u v : Fun) (e : choice l f g ≡ choice l u v) where
  pub low_parts : Ignores l f → Ignores l u → f ≡ u
  low_parts p q = fun_ext (λ s. choice_low l f g s p ∙ ap (λ (x : Fun). x (put l false s)) e ∙ sym (choice_low l u v s q))

  pub high_parts : Ignores l g → Ignores l v → g ≡ v
  high_parts p q = fun_ext (λ s. choice_high l f g s p ∙ ap (λ (x : Fun). x (put l true s)) e ∙ sym (choice_high l u v s q))

pub choice_ignores : (l k : ℕ) (f g : Fun) → k < l → Ignores l f → Ignores l g → Ignores k (choice l f g)
choice_ignores l k f g p q r s t a = rw (a l p, q s t (λ i z. a i (omega arith)), r s t (λ i z. a i (omega arith))) refl

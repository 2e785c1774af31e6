-- The set of the primes by the sets of the halves, and the working functions of the primes. Assumes nothing.
use Rattle.std.proofs.Common.{◌≡◌, ℕ, zero, suc, ◌+◌, ◌*◌, Bool, true, false, cond, not, ◌&&◌, ◌⊎◌, ◌↔◌, sym, refl, ap, ◌∙◌, subst, inl, inr, arith}
use mathlib.Core.Path.{fun_ext}
use Rattle.std.proofs.lemmas.Bool.{cases_Bool, false≢true, and_parts, and_from}
use Rattle.product.specs.Words.{Words}
use Rattle.product.specs.Masks.{word}
use Rattle.diagram.specs.Functions.{Fun, Constant, Ignores, Restriction, NodeOf}
use Rattle.implicant.specs.Implicants.{Condition, Prime, low, high, both}
use Rattle.implicant.specs.Variables.{signs_from, product_from, product_setting, condition, SignsOnly, OptionsOnly, ProductSet, ArePrimes, primes_by_halves, Here, Working, PrimeRestrictions, PrimeNodes}
use Rattle.implicant.specs.Theorems.{PrimesHaveOneSet, PrimesAreProductSet, NodesVary}
use Rattle.implicant.proofs.Primes.{prime_recursion}
use Rattle.implicant.proofs.Essentials.{prime_dec}
use Rattle.implicant.proofs.Settings.{product_alike, product_back}
use Rattle.implicant.proofs.Sets.{products_make_sets}

-- no option is left
pub primes_none : (k : ℕ) (f : Fun) → k ≡ 12 → SignsOnly k f → ArePrimes 0 k (condition 0 k f) f
primes_none k f e h s = (λ q. record { implies = λ u m. same ∙ q; tight = λ j m i. false≢true m }, λ x. sym same ∙ x.implies tt refl)
  where
    same : f (λ _. false) ≡ f s
    same = h (λ _. false) s (λ j le lt. absurd (omega arith))

and_not_true : (x y : Bool) (X Y : Type 0) → (x ≡ true) ↔ X → (y ≡ true) ↔ Y → ((x && not y) ≡ true) ↔ (X × (¬ Y))
and_not_true x y X Y p q = (to, from)
  where
    to : (x && not y) ≡ true → X × (¬ Y)
    to e =
        let r : (x ≡ true) × (not y ≡ true) = and_parts x (not y) e in
        (p.0 r.0, λ z. false≢true (sym (ap not (q.1 z)) ∙ r.1))

    from : X × (¬ Y) → (x && not y) ≡ true
    from z = elim (cases_Bool y) [ inl t ↦ absurd (z.1 (q.0 t)) | inr f ↦ and_from x (not y) (p.1 z.0) (ap not f) ]

iff_trans : {A B C : Type 0} → A ↔ B → C ↔ B → A ↔ C
iff_trans p q = (λ a. q.1 (p.0 a), λ c. p.1 (q.0 c))

-- one step: the sets of the "and" and of both halves make the set of the whole
pub primes_step : (n k : ℕ) (c : Condition (suc n)) (p p0 p1 : Fun) → ArePrimes n (k + 1) (both n c) p → ArePrimes n (k + 1) (low n c) p0 → ArePrimes n (k + 1) (high n c) p1 → ArePrimes (suc n) k c (primes_by_halves k p p0 p1)
primes_step n k c p p0 p1 a x0 x1 s = go (s (2 * k + 1)) (s (2 * k + 2))
  where
    rest : Words n
    rest = product_from n (k + 1) s

    go : (x y : Bool) → (cond x (cond y (p1 s && not (p s)) (p0 s && not (p s))) (p s) ≡ true) ↔ Prime (suc n) c (word x y, rest)
    go false y = iff_trans (a s) (prime_recursion n c rest).0
    go true false = iff_trans (and_not_true (p0 s) (p s) _ _ (x0 s) (a s)) (prime_recursion n c rest).1
    go true true = iff_trans (and_not_true (p1 s) (p s) _ _ (x1 s) (a s)) (prime_recursion n c rest).2

same_bool : (a b : Bool) → (a ≡ true → b ≡ true) → (b ≡ true → a ≡ true) → a ≡ b
same_bool true b p q = sym (p refl)
same_bool false true p q = q refl
same_bool false false p q = refl

-- a condition has one set of primes
pub primes_one : (n k : ℕ) (c : Condition n) (g h : Fun) → ArePrimes n k c g → ArePrimes n k c h → g ≡ h
primes_one n k c g h p q = fun_ext (λ s. same_bool (g s) (h s) (λ e. (q s).1 ((p s).0 e)) (λ e. (p s).1 ((q s).0 e)))

-- the set of the primes under another name of the condition and of the function
pub primes_at : (n k : ℕ) (c d : Condition n) (g h : Fun) → c ≡ d → g ≡ h → ArePrimes n k c g → ArePrimes n k d h
primes_at n k c d g h p q x = subst (λ (z : Condition n). ArePrimes n k z h) p (subst (λ (z : Fun). ArePrimes n k c z) q x)

told : {A : Type 0} → Dec A → Bool
told (yes x) = true
told (no x) = false

told_true : {A : Type 0} (d : Dec A) → (told d ≡ true) ↔ A
unfolding told
told_true (yes x) = (λ e. x, λ a. refl)
told_true (no x) = (λ e. absurd (false≢true e), λ a. absurd (x a))

-- a test for primes
is_prime : (n : ℕ) → Condition n → Words n → Bool
is_prime n c p = told (prime_dec n c p)

is_prime_true : (n : ℕ) (c : Condition n) (p : Words n) → (is_prime n c p ≡ true) ↔ Prime n c p
unfolding is_prime
is_prime_true n c p = told_true (prime_dec n c p)

pub primes_have_one_set : PrimesHaveOneSet
primes_have_one_set n k c =
    let g : Fun = λ s. is_prime n c (product_from n k s) in
    let are : ArePrimes n k c g = λ s. is_prime_true n c (product_from n k s) in
    (g, are, λ h x. primes_one n k c h g x are)

pub primes_are_product_set : PrimesAreProductSet
primes_are_product_set n k c g e x =
    let test : Fun = λ s. is_prime n c (product_from n k s) in
    let is : test ≡ g = primes_one n k c test g (λ s. is_prime_true n c (product_from n k s)) x in
    let set = products_make_sets n k (is_prime n c) e in (
      subst (λ (f : Fun). OptionsOnly k f) is set.0,
      subst (λ (f : Fun). ProductSet f) is set.1,
      λ p. subst (λ q. (g (product_setting n k p) ≡ true) ↔ Prime n c q) (product_back n k p) (x (product_setting n k p)),
    )

-- the set of the primes of the options after the first k ignores the variables before them
pub primes_ignore : (n k : ℕ) (c : Condition n) (g : Fun) → ArePrimes n k c g → Ignores (2 * k) g
primes_ignore n k c g x s t a =
    let same = product_alike n k s t (λ j le lt. λ i. word (a (2 * j + 1) (omega arith) i) (a (2 * j + 2) (omega arith) i)) in
    same_bool (g s) (g t) (λ e. (x t).1 (subst (Prime n c) same ((x s).0 e))) (λ e. (x s).1 (subst (Prime n c) (sym same) ((x t).0 e)))

-- The working functions of a condition, by those of its parts.
module _ (R : Fun → Fun → Type 0) where
  pub here_in : (n k : ℕ) (c : Condition n) (u : Fun) → Here R n k c u → Working R n k c u
  unfolding Working
  here_in zero k c u x = x
  here_in (suc n) k c u x = inl x

  pub low_in : (n k : ℕ) (c : Condition (suc n)) (u : Fun) → Working R n (k + 1) (low n c) u → Working R (suc n) k c u
  unfolding Working
  low_in n k c u x = inr (inl x)

  pub high_in : (n k : ℕ) (c : Condition (suc n)) (u : Fun) → Working R n (k + 1) (high n c) u → Working R (suc n) k c u
  unfolding Working
  high_in n k c u x = inr (inr (inl x))

  pub both_in : (n k : ℕ) (c : Condition (suc n)) (u : Fun) → Working R n (k + 1) (both n c) u → Working R (suc n) k c u
  unfolding Working
  both_in n k c u x = inr (inr (inr x))

  pub working_last : (k : ℕ) (c : Condition 0) (u : Fun) → Working R 0 k c u → Here R 0 k c u
  unfolding Working
  working_last k c u x = x

  pub working_parts : (n k : ℕ) (c : Condition (suc n)) (u : Fun) → Working R (suc n) k c u
      → Here R (suc n) k c u ⊎ (Working R n (k + 1) (low n c) u ⊎ (Working R n (k + 1) (high n c) u ⊎ Working R n (k + 1) (both n c) u))
  unfolding Working
  working_parts n k c u x = x

-- a larger relation has more working functions
pub working_up : (R Q : Fun → Fun → Type 0) (u : Fun) → ((f : Fun) → R f u → Q f u) → (n k : ℕ) (c : Condition n) → Working R n k c u → Working Q n k c u
unfolding Working
working_up R Q u up n k c x = go n k c x
  where
    here : (n k : ℕ) (c : Condition n) → Here R n k c u → Here Q n k c u
    here n k c (inl r) = inl (up (λ s. c (signs_from n k s)) r)
    here n k c (inr r) = inr (r.0, r.1, up r.0 r.2)

    go : (n k : ℕ) (c : Condition n) → Working R n k c u → Working Q n k c u
    go zero k c x = here zero k c x
    go (suc n) k c (inl x) = inl (here (suc n) k c x)
    go (suc n) k c (inr (inl x)) = inr (inl (go n (k + 1) (low n c) x))
    go (suc n) k c (inr (inr (inl x))) = inr (inr (inl (go n (k + 1) (high n c) x)))
    go (suc n) k c (inr (inr (inr x))) = inr (inr (inr (go n (k + 1) (both n c) x)))

-- working nodes are working functions
pub nodes_down : (n k : ℕ) (c : Condition n) (u : Fun) → PrimeNodes n k c u → PrimeRestrictions n k c u
nodes_down n k c u x = working_up NodeOf Restriction u (λ f r. r.restriction) n k c x

-- and working functions that are not constant are working nodes
pub nodes_up : (n k : ℕ) (c : Condition n) (u : Fun) → PrimeRestrictions n k c u → ¬ Constant u → PrimeNodes n k c u
nodes_up n k c u x v = working_up Restriction NodeOf u (λ f r. record { restriction = r; varies = v }) n k c x

pub nodes_vary : NodesVary
unfolding Working
nodes_vary n k c u = (λ x. (nodes_down n k c u x, varies n k c x), λ x. nodes_up n k c u x.0 x.1)
  where
    here : (n k : ℕ) (c : Condition n) → Here NodeOf n k c u → ¬ Constant u
    here n k c (inl r) = r.varies
    here n k c (inr r) = r.2.varies

    varies : (n k : ℕ) (c : Condition n) → PrimeNodes n k c u → ¬ Constant u
    varies zero k c x = here zero k c x
    varies (suc n) k c (inl x) = here (suc n) k c x
    varies (suc n) k c (inr (inl x)) = varies n (k + 1) (low n c) x
    varies (suc n) k c (inr (inr (inl x))) = varies n (k + 1) (high n c) x
    varies (suc n) k c (inr (inr (inr x))) = varies n (k + 1) (both n c) x

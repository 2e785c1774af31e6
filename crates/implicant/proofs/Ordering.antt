-- The list of a set's products. Assumes nothing.
use Rattle.std.proofs.Common.{◌≡◌, ℕ, zero, suc, ◌+◌, ◌*◌, ◌^◌, ◌<◌, ◌≤◌, Bool, true, false, cond, ◌⊎◌, List, [], ◌∷◌, ◌++◌, refl, ap, subst, inl, inr, mul-le-mul_right, add-mul, arith}
use Rattle.std.proofs.lemmas.Bool.{cases_Bool}
use Rattle.product.specs.Words.{Word, absent, refused, wanted, Words, digit, number}
use Rattle.product.specs.Lists.{In, Distinct, Above, Rising}
use Rattle.product.proofs.Numbers.{number_below}
use Rattle.implicant.specs.Lists.{prefixed, listed}
use Rattle.implicant.specs.Variables.{products_of}
use Rattle.implicant.specs.Theorems.{ListedOnce, PrimesListed}
use Rattle.implicant.proofs.Halves.{primes_are_product_set}

-- what stands in two lists, one behind the other
in_left : (n : ℕ) (p : Words n) (xs ys : List (Words n)) → In n p xs → In n p (xs ++ ys)
in_left n p [] ys i = absurd i
in_left n p (x ∷ xs) ys (inl e) = inl e
in_left n p (x ∷ xs) ys (inr i) = inr (in_left n p xs ys i)

in_right : (n : ℕ) (p : Words n) (xs ys : List (Words n)) → In n p ys → In n p (xs ++ ys)
in_right n p [] ys i = i
in_right n p (x ∷ xs) ys i = inr (in_right n p xs ys i)

in_either : (n : ℕ) (p : Words n) (xs ys : List (Words n)) → In n p (xs ++ ys) → In n p xs ⊎ In n p ys
in_either n p [] ys i = inr i
in_either n p (x ∷ xs) ys (inl e) = inl (inl e)
in_either n p (x ∷ xs) ys (inr i) = elim (in_either n p xs ys i) [ inl j ↦ inl (inr j) | inr j ↦ inr j ]

-- what stands behind a word
in_prefixed : (n : ℕ) (w : Word) (p : Words n) (ps : List (Words n)) → In n p ps → In (suc n) (w, p) (prefixed n w ps)
in_prefixed n w p [] i = i
in_prefixed n w p (q ∷ ps) (inl e) = inl (λ t. (w, e t))
in_prefixed n w p (q ∷ ps) (inr i) = inr (in_prefixed n w p ps i)

from_prefixed : (n : ℕ) (w : Word) (p : Words (suc n)) (ps : List (Words n)) → In (suc n) p (prefixed n w ps) → (w ≡ p.0) × In n p.1 ps
from_prefixed n w p [] i = absurd i
from_prefixed n w p (q ∷ ps) (inl e) = (ap (λ (z : Words (suc n)). z.0) e, inl (ap (λ (z : Words (suc n)). z.1) e))
from_prefixed n w p (q ∷ ps) (inr i) = let r = from_prefixed n w p ps i in (r.0, inr r.1)

-- two lists in rising number, the second above the first
above_append : (n m : ℕ) (xs ys : List (Words n)) → Above n m xs → ((q : Words n) → In n q ys → m < number n q) → Above n m (xs ++ ys)
above_append n m [] [] a h = tt
above_append n m [] (y ∷ ys) a h = (h y (inl refl), above_append n m [] ys tt (λ q i. h q (inr i)))
above_append n m (x ∷ xs) ys a h = (a.0, above_append n m xs ys a.1 h)

rising_append : (n : ℕ) (xs ys : List (Words n)) → Rising n xs → Rising n ys → ((p q : Words n) → In n p xs → In n q ys → number n p < number n q) → Rising n (xs ++ ys)
rising_append n [] ys r s h = s
rising_append n (x ∷ xs) ys r s h = (above_append n (number n x) xs ys r.0 (λ q. h x q (inl refl)), rising_append n xs ys r.1 s (λ p q i. h p q (inr i)))

above_prefixed : (n m : ℕ) (w : Word) (ps : List (Words n)) → Above n m ps → Above (suc n) (digit w * 3 ^ n + m) (prefixed n w ps)
above_prefixed n m w [] a = tt
above_prefixed n m w (p ∷ ps) a = (omega (arith, a.0), above_prefixed n m w ps a.1)

rising_prefixed : (n : ℕ) (w : Word) (ps : List (Words n)) → Rising n ps → Rising (suc n) (prefixed n w ps)
rising_prefixed n w [] r = tt
rising_prefixed n w (p ∷ ps) r = (above_prefixed n (number n p) w ps r.0, rising_prefixed n w ps r.1)

-- behind a smaller word numbers are smaller
smaller : (n : ℕ) (v w : Word) (xs ys : List (Words n)) → digit v < digit w → (p q : Words (suc n)) → In (suc n) p (prefixed n v xs) → In (suc n) q (prefixed n w ys) → number (suc n) p < number (suc n) q
smaller n v w xs ys lt p q i j =
    let a = ap (λ (z : Word). digit z * 3 ^ n) (from_prefixed n v p xs i).0 in
    let b = ap (λ (z : Word). digit z * 3 ^ n) (from_prefixed n w q ys j).0 in
    let step : (digit v + 1) * 3 ^ n ≤ digit w * 3 ^ n = mul-le-mul_right (3 ^ n) (omega arith) in
    omega (arith, a, b, step, add-mul (digit v) 1 (3 ^ n), number_below n p.1)

rising_listed : (n : ℕ) (c : Words n → Bool) → Rising n (listed n c)
unfolding listed
rising_listed zero c = last (c tt)
  where
    last : (b : Bool) → Rising 0 (cond b (tt ∷ []) [])
    last true = (tt, tt)
    last false = tt
rising_listed (suc n) c =
    let a = listed n (λ p. c (absent, p)) in
    let r = listed n (λ p. c (refused, p)) in
    let w = listed n (λ p. c (wanted, p)) in
    rising_append (suc n) (prefixed n absent a) (prefixed n refused r ++ prefixed n wanted w)
    (rising_prefixed n absent a (rising_listed n (λ p. c (absent, p))))
    (
    rising_append (suc n) (prefixed n refused r) (prefixed n wanted w)
    (rising_prefixed n refused r (rising_listed n (λ p. c (refused, p))))
    (rising_prefixed n wanted w (rising_listed n (λ p. c (wanted, p))))
    (smaller n refused wanted r w (omega arith))
    )
    (λ p q i j.
    elim (in_either (suc n) q (prefixed n refused r) (prefixed n wanted w) j) [
      | inl k ↦ smaller n absent refused a r (omega arith) p q i k
      | inr k ↦ smaller n absent wanted a w (omega arith) p q i k
    ])

-- rising numbers are distinct
above_in : (n m : ℕ) (p : Words n) (ps : List (Words n)) → Above n m ps → In n p ps → m < number n p
above_in n m p [] a i = absurd i
above_in n m p (q ∷ ps) a (inl e) = omega (arith, a.0, ap (number n) e)
above_in n m p (q ∷ ps) a (inr i) = above_in n m p ps a.1 i

rising_distinct : (n : ℕ) (ps : List (Words n)) → Rising n ps → Distinct n ps
rising_distinct n [] r = tt
rising_distinct n (p ∷ ps) r = (λ i. omega (arith, above_in n (number n p) p ps r.0 i), rising_distinct n ps r.1)

-- the products of the set, and no others, stand in its list
to_listed : (n : ℕ) (c : Words n → Bool) (p : Words n) → c p ≡ true → In n p (listed n c)
unfolding listed
to_listed zero c p e = rw e (inl refl)
to_listed (suc n) c (absent, p) e = in_left (suc n) (absent, p) (prefixed n absent (listed n (λ p. c (absent, p)))) _ (in_prefixed n absent p _ (to_listed n (λ p. c (absent, p)) p e))
to_listed (suc n) c (refused, p) e =
    in_right (suc n) (refused, p) (prefixed n absent (listed n (λ p. c (absent, p)))) _
    (in_left (suc n) (refused, p) (prefixed n refused (listed n (λ p. c (refused, p)))) _ (in_prefixed n refused p _ (to_listed n (λ p. c (refused, p)) p e)))
to_listed (suc n) c (wanted, p) e =
    in_right (suc n) (wanted, p) (prefixed n absent (listed n (λ p. c (absent, p)))) _
    (in_right (suc n) (wanted, p) (prefixed n refused (listed n (λ p. c (refused, p)))) _ (in_prefixed n wanted p _ (to_listed n (λ p. c (wanted, p)) p e)))

from_listed : (n : ℕ) (c : Words n → Bool) (p : Words n) → In n p (listed n c) → c p ≡ true
unfolding listed
from_listed zero c p i = elim (cases_Bool (c tt)) [ inl e ↦ e | inr e ↦ absurd (rw e at i) ]
from_listed (suc n) c p i =
    elim (in_either (suc n) p (prefixed n absent (listed n (λ p. c (absent, p)))) _ i) [
      | inl j ↦ part absent (from_prefixed n absent p _ j) (from_listed n (λ q. c (absent, q)) p.1)
      | inr j ↦
          elim (in_either (suc n) p (prefixed n refused (listed n (λ p. c (refused, p)))) _ j) [
            | inl k ↦ part refused (from_prefixed n refused p _ k) (from_listed n (λ q. c (refused, q)) p.1)
            | inr k ↦ part wanted (from_prefixed n wanted p _ k) (from_listed n (λ q. c (wanted, q)) p.1)
          ]
    ]
  where
    part : (w : Word) → (w ≡ p.0) × In n p.1 (listed n (λ q. c (w, q))) → (In n p.1 (listed n (λ q. c (w, q))) → c (w, p.1) ≡ true) → c p ≡ true
    part w r h = subst (λ (z : Word). c (z, p.1) ≡ true) r.0 (h r.1)

pub listed_once : ListedOnce
listed_once n c = (record { distinct = rising_distinct n (listed n c) (rising_listed n c); all = λ p. (to_listed n c p, from_listed n c p) }, rising_listed n c)

-- an empty set has an empty list
pub listed_none : (n : ℕ) (c : Words n → Bool) → ((p : Words n) → c p ≡ false) → listed n c ≡ []
unfolding listed
listed_none zero c h = rw (h tt) refl
listed_none (suc n) c h =
    rw (
      listed_none n (λ p. c (absent, p)) (λ p. h (absent, p)),
      listed_none n (λ p. c (refused, p)) (λ p. h (refused, p)),
      listed_none n (λ p. c (wanted, p)) (λ p. h (wanted, p)),
    ) refl

pub primes_listed : PrimesListed
unfolding products_of
primes_listed c g are p =
    let own = (primes_are_product_set 12 0 c g refl are).2 p in
    let all = (listed_once 12 (products_of g)).0.all p in
    (λ x. all.0 (own.1 x), λ i. own.0 (all.1 i))

-- Primes by computation: a condition as a decision tree, its primes as a tree of products, and that they are the primes. Assumes nothing.
use Rattle.std.proofs.Common.{◌≡◌, ℕ, zero, suc, Bool, true, false, cond, not, ◌&&◌, ◌↔◌, List, [], ◌∷◌, sym, refl, ◌∙◌, subst, inl, inr, arith}
use mathlib.Core.Path.{fun_ext}
use Rattle.std.proofs.lemmas.Bool.{true≢false, false≢true, and_parts, and_from, not-true}
use Rattle.product.specs.Words.{Version, Word, absent, refused, wanted, Words, size}
use Rattle.implicant.specs.Implicants.{Condition, Prime, low, high, both}
use Rattle.product.specs.Lists.{In}
use Rattle.implicant.specs.Examples.{blank, a_xor_b, cycle, XorPrimes, CyclePrimes, YesPrimes, NoPrimes}
use Rattle.implicant.proofs.Primes.{prime_recursion, some_version}

and_yes : (b : Bool) → (b && true) ≡ b
and_yes true = refl
and_yes false = refl

and_no : (b : Bool) → (b && false) ≡ false
and_no true = refl
and_no false = refl

and_not : (b : Bool) → false ≡ (b && not b)
and_not true = refl
and_not false = refl

-- A condition of n signs as a tree: no, yes, or a low and a high half for the first option.
data Tree : Type 0 where
  none all : Tree
  ask : Tree → Tree → Tree

holds : (n : ℕ) → Tree → Condition n
holds n none v = false
holds n all v = true
holds zero (ask l h) v = false
holds (suc n) (ask l h) v = cond v.0 (holds n h v.1) (holds n l v.1)

join : Tree → Tree → Tree
join none none = none
join none all = ask none all
join none (ask l h) = ask none (ask l h)
join all t = ask all t
join (ask l h) t = ask (ask l h) t

and_tree : Tree → Tree → Tree
and_tree none t = none
and_tree all t = t
and_tree (ask l h) none = none
and_tree (ask l h) all = ask l h
and_tree (ask l h) (ask l' h') = join (and_tree l l') (and_tree h h')

join_zero : (s t : Tree) (v : Version zero) → holds zero (join s t) v ≡ false
unfolding holds join
join_zero none none v = refl
join_zero none all v = refl
join_zero none (ask l h) v = refl
join_zero all t v = refl
join_zero (ask l h) t v = refl

join_suc : (n : ℕ) (s t : Tree) (v : Version (suc n)) → holds (suc n) (join s t) v ≡ cond v.0 (holds n t v.1) (holds n s v.1)
unfolding holds join
join_suc n none none (true, v) = refl
join_suc n none none (false, v) = refl
join_suc n none all v = refl
join_suc n none (ask l h) v = refl
join_suc n all t v = refl
join_suc n (ask l h) t v = refl

and_holds : (n : ℕ) (s t : Tree) (v : Version n) → holds n (and_tree s t) v ≡ (holds n s v && holds n t v)
unfolding holds and_tree
and_holds n none t v = refl
and_holds n all t v = refl
and_holds zero (ask l h) none v = refl
and_holds (suc n) (ask l h) none v = sym (and_no (cond v.0 (holds n h v.1) (holds n l v.1)))
and_holds zero (ask l h) all v = refl
and_holds (suc n) (ask l h) all v = sym (and_yes (cond v.0 (holds n h v.1) (holds n l v.1)))
and_holds zero (ask l h) (ask l' h') v = join_zero (and_tree l l') (and_tree h h') v
and_holds (suc n) (ask l h) (ask l' h') (true, v) = join_suc n (and_tree l l') (and_tree h h') (true, v) ∙ and_holds n h h' v
and_holds (suc n) (ask l h) (ask l' h') (false, v) = join_suc n (and_tree l l') (and_tree h h') (false, v) ∙ and_holds n l l' v

-- A set of products as a tree: none, the blank one alone, or by the word of the first option.
data Set : Type 0 where
  nothing empty : Set
  by : Set → Set → Set → Set

has : (n : ℕ) → Set → Words n → Bool
has n nothing p = false
has zero empty p = true
has zero (by a r w) p = false
has (suc n) empty (absent, p) = has n empty p
has (suc n) empty (refused, p) = false
has (suc n) empty (wanted, p) = false
has (suc n) (by a r w) (absent, p) = has n a p
has (suc n) (by a r w) (refused, p) = has n r p
has (suc n) (by a r w) (wanted, p) = has n w p

minus : ℕ → Set → Set → Set
minus n nothing t = nothing
minus n empty nothing = empty
minus n empty empty = nothing
minus zero empty (by a r w) = empty
minus (suc n) empty (by a r w) = by (minus n empty a) nothing nothing
minus n (by a r w) nothing = by a r w
minus zero (by a r w) empty = by a r w
minus (suc n) (by a r w) empty = by (minus n a empty) r w
minus zero (by a r w) (by a' r' w') = by a r w
minus (suc n) (by a r w) (by a' r' w') = by (minus n a a') (minus n r r') (minus n w w')

tree_primes : ℕ → Tree → Set
tree_primes n none = nothing
tree_primes n all = empty
tree_primes zero (ask l h) = nothing
tree_primes (suc n) (ask l h) = let b : Set = tree_primes n (and_tree l h) in by b (minus n (tree_primes n l) b) (minus n (tree_primes n h) b)

minus_is : (n : ℕ) (s t : Set) (p : Words n) → has n (minus n s t) p ≡ (has n s p && not (has n t p))
unfolding has minus
minus_is n nothing t p = refl
minus_is n empty nothing p = sym (and_yes (has n empty p))
minus_is n empty empty p = and_not (has n empty p)
minus_is zero empty (by a r w) p = refl
minus_is (suc n) empty (by a r w) (absent, p) = minus_is n empty a p
minus_is (suc n) empty (by a r w) (refused, p) = refl
minus_is (suc n) empty (by a r w) (wanted, p) = refl
minus_is n (by a r w) nothing p = sym (and_yes (has n (by a r w) p))
minus_is zero (by a r w) empty p = refl
minus_is (suc n) (by a r w) empty (absent, p) = minus_is n a empty p
minus_is (suc n) (by a r w) empty (refused, p) = sym (and_yes (has n r p))
minus_is (suc n) (by a r w) empty (wanted, p) = sym (and_yes (has n w p))
minus_is zero (by a r w) (by a' r' w') p = refl
minus_is (suc n) (by a r w) (by a' r' w') (absent, p) = minus_is n a a' p
minus_is (suc n) (by a r w) (by a' r' w') (refused, p) = minus_is n r r' p
minus_is (suc n) (by a r w) (by a' r' w') (wanted, p) = minus_is n w w' p

pub no_primes : NoPrimes
no_primes n p x = let u = some_version n p in false≢true (x.implies u.0 u.1)

pub yes_primes : YesPrimes
yes_primes zero p = (λ x. refl, λ e. record { implies = λ v m. refl; tight = λ k m i. false≢true m })
yes_primes (suc n) (absent, p) =
    let r = (prime_recursion n (λ v. true) p).0 in
    let h = yes_primes n p in
    (λ x. omega (arith, h.0 (r.0 x)), λ e. r.1 (h.1 (omega arith)))
yes_primes (suc n) (refused, p) = (λ x. let y = (prime_recursion n (λ v. true) p).1.0 x in absurd (y.1 y.0), λ e. absurd (omega arith))
yes_primes (suc n) (wanted, p) = (λ x. let y = (prime_recursion n (λ v. true) p).2.0 x in absurd (y.1 y.0), λ e. absurd (omega arith))

blank_in : (n : ℕ) (p : Words n) → (size n p ≡ 0) ↔ (has n empty p ≡ true)
unfolding has
blank_in zero p = (λ _. refl, λ _. refl)
blank_in (suc n) (absent, p) = let h = blank_in n p in (λ e. h.0 (omega arith), λ t. omega (arith, h.1 t))
blank_in (suc n) (refused, p) = (λ e. absurd (omega arith), λ t. absurd (false≢true t))
blank_in (suc n) (wanted, p) = (λ e. absurd (omega arith), λ t. absurd (false≢true t))

no_prime : (n : ℕ) (p : Words n) → Prime n (λ v. false) p ↔ (false ≡ true)
no_prime n p = (λ x. absurd (no_primes n p x), λ e. absurd (false≢true e))

all_prime : (n : ℕ) (p : Words n) → Prime n (λ v. true) p ↔ (has n empty p ≡ true)
all_prime n p = (λ x. (blank_in n p).0 ((yes_primes n p).0 x), λ t. (yes_primes n p).1 ((blank_in n p).1 t))

-- "of the half, and not of both", as a test
half_prime : (A B X : Type 0) (a b c : Bool) → X ↔ (A × (¬ B)) → A ↔ (a ≡ true) → B ↔ (b ≡ true) → c ≡ (a && not b) → X ↔ (c ≡ true)
half_prime A B X a b c x ia ib e = (
  λ u. e ∙ and_from a (not b) (ia.0 (x.0 u).0) (off b ib (x.0 u).1),
  λ t. let q : (a ≡ true) × (not b ≡ true) = and_parts a (not b) (sym e ∙ t) in x.1 (ia.1 q.0, λ y. true≢false (sym (ib.0 y) ∙ not-true b q.1)),
)
  where
    off : (b : Bool) → B ↔ (b ≡ true) → ¬ B → not b ≡ true
    off true i nb = absurd (nb (i.1 refl))
    off false i nb = refl

primes_are : (n : ℕ) (t : Tree) (p : Words n) → Prime n (holds n t) p ↔ (has n (tree_primes n t) p ≡ true)
unfolding holds has tree_primes
primes_are n none p = no_prime n p
primes_are n all p = all_prime n p
primes_are zero (ask l h) p = no_prime zero p
primes_are (suc n) (ask l h) (w, p) = go w (primes_are n (and_tree l h) p) (primes_are n l p) (primes_are n h p)
  where
    f : Condition (suc n)
    f = holds (suc n) (ask l h)

    b : Set
    b = tree_primes n (and_tree l h)

    e : holds n (and_tree l h) ≡ both n f
    e = fun_ext (λ v. and_holds n l h v)

    go : (w : Word) → Prime n (holds n (and_tree l h)) p ↔ (has n b p ≡ true) → Prime n (holds n l) p ↔ (has n (tree_primes n l) p ≡ true) → Prime n (holds n h) p ↔ (has n (tree_primes n h) p ≡ true) → Prime (suc n) f (w, p) ↔ (has (suc n) (tree_primes (suc n) (ask l h)) (w, p) ≡ true)
    go absent ib il ih =
        let r : Prime (suc n) f (absent, p) ↔ Prime n (both n f) p = (prime_recursion n f p).0 in
        (λ x. ib.0 (subst (λ g. Prime n g p) (sym e) (r.0 x)), λ t. r.1 (subst (λ g. Prime n g p) e (ib.1 t)))
    go refused ib il ih =
        half_prime (Prime n (low n f) p) (Prime n (both n f) p) (Prime (suc n) f (refused, p)) (has n (tree_primes n l) p) (has n b p) (has n (minus n (tree_primes n l) b) p)
        (prime_recursion n f p).1 il (subst (λ g. Prime n g p ↔ (has n b p ≡ true)) e ib) (minus_is n (tree_primes n l) b p)
    go wanted ib il ih =
        half_prime (Prime n (high n f) p) (Prime n (both n f) p) (Prime (suc n) f (wanted, p)) (has n (tree_primes n h) p) (has n b p) (has n (minus n (tree_primes n h) b) p)
        (prime_recursion n f p).2 ih (subst (λ g. Prime n g p ↔ (has n b p ≡ true)) e ib) (minus_is n (tree_primes n h) b p)

-- The products of a set, in rising order of their numbers.
abbrev All : (n : ℕ) → Set → List (Words n) → Type 0
All n s [] = Unit {0}
All n s (q ∷ qs) = (has n s q ≡ true) × All n s qs

under : (n : ℕ) → Word → List (Words n) → List (Words (suc n)) → List (Words (suc n))
under n w [] rest = rest
under n w (q ∷ qs) rest = (w, q) ∷ under n w qs rest

listed : (n : ℕ) → Set → List (Words n)
listed n nothing = []
listed n empty = blank n ∷ []
listed zero (by a r w) = []
listed (suc n) (by a r w) = under n absent (listed n a) (under n refused (listed n r) (under n wanted (listed n w) []))

in_under : (n : ℕ) (w : Word) (p : Words n) (qs : List (Words n)) (rest : List (Words (suc n))) → In n p qs → In (suc n) (w, p) (under n w qs rest)
unfolding under
in_under n w p [] rest i = absurd i
in_under n w p (q ∷ qs) rest (inl e) = inl (λ k. (w, e k))
in_under n w p (q ∷ qs) rest (inr i) = inr (in_under n w p qs rest i)

in_rest : (n : ℕ) (w : Word) (p : Words (suc n)) (qs : List (Words n)) (rest : List (Words (suc n))) → In (suc n) p rest → In (suc n) p (under n w qs rest)
unfolding under
in_rest n w p [] rest i = i
in_rest n w p (q ∷ qs) rest i = inr (in_rest n w p qs rest i)

is_blank : (n : ℕ) (p : Words n) → has n empty p ≡ true → blank n ≡ p
unfolding has
is_blank zero p e = refl
is_blank (suc n) (absent, p) e = λ k. (absent, is_blank n p e k)
is_blank (suc n) (refused, p) e = absurd (false≢true e)
is_blank (suc n) (wanted, p) e = absurd (false≢true e)

is_listed : (n : ℕ) (s : Set) (p : Words n) → has n s p ≡ true → In n p (listed n s)
unfolding has listed
is_listed n nothing p e = absurd (false≢true e)
is_listed n empty p e = inl (is_blank n p e)
is_listed zero (by a r w) p e = absurd (false≢true e)
is_listed (suc n) (by a r w) (absent, p) e = in_under n absent p (listed n a) (under n refused (listed n r) (under n wanted (listed n w) [])) (is_listed n a p e)
is_listed (suc n) (by a r w) (refused, p) e =
    in_rest n absent (refused, p) (listed n a) (under n refused (listed n r) (under n wanted (listed n w) []))
    (in_under n refused p (listed n r) (under n wanted (listed n w) []) (is_listed n r p e))
is_listed (suc n) (by a r w) (wanted, p) e =
    in_rest n absent (wanted, p) (listed n a) (under n refused (listed n r) (under n wanted (listed n w) []))
    (in_rest n refused (wanted, p) (listed n r) (under n wanted (listed n w) []) (in_under n wanted p (listed n w) [] (is_listed n w p e)))

-- A condition's primes are the products listed for a tree of it.
listed_is : (n : ℕ) (s : Set) (p : Words n) → All n s (listed n s) → In n p (listed n s) → has n s p ≡ true
listed_is n s p = go (listed n s)
  where
    go : (qs : List (Words n)) → All n s qs → In n p qs → has n s p ≡ true
    go [] a i = absurd i
    go (q ∷ qs) a (inl e) = subst (λ x. has n s x ≡ true) e a.0
    go (q ∷ qs) a (inr i) = go qs a.1 i

exactly : (n : ℕ) (f : Condition n) (t : Tree) → ((v : Version n) → holds n t v ≡ f v) → All n (tree_primes n t) (listed n (tree_primes n t))
    → (p : Words n) → Prime n f p ↔ In n p (listed n (tree_primes n t))
exactly n f t same all_in p =
    let e : holds n t ≡ f = fun_ext same in (
      λ x. is_listed n (tree_primes n t) p ((primes_are n t p).0 (subst (λ g. Prime n g p) (sym e) x)),
      λ i. subst (λ g. Prime n g p) e ((primes_are n t p).1 (listed_is n (tree_primes n t) p all_in i)),
    )

xor_tree : Tree
xor_tree = ask (ask none all) (ask all none)

xor_is : (v : Version 12) → holds 12 xor_tree v ≡ a_xor_b v
unfolding holds xor_tree
xor_is (true, (true, v)) = refl
xor_is (true, (false, v)) = refl
xor_is (false, (true, v)) = refl
xor_is (false, (false, v)) = refl

pub xor_primes : XorPrimes
unfolding tree_primes listed under minus and_tree join has xor_tree
xor_primes = exactly 12 a_xor_b xor_tree xor_is (refl, (refl, tt))

cycle_tree : Tree
cycle_tree = ask (ask (ask none all) (ask all all)) (ask (ask all all) (ask all none))

cycle_is : (v : Version 12) → holds 12 cycle_tree v ≡ cycle v
unfolding holds cycle_tree
cycle_is (true, (true, (true, v))) = refl
cycle_is (true, (true, (false, v))) = refl
cycle_is (true, (false, (true, v))) = refl
cycle_is (true, (false, (false, v))) = refl
cycle_is (false, (true, (true, v))) = refl
cycle_is (false, (true, (false, v))) = refl
cycle_is (false, (false, (true, v))) = refl
cycle_is (false, (false, (false, v))) = refl

pub cycle_primes : CyclePrimes
unfolding tree_primes listed under minus and_tree join has cycle_tree
cycle_primes = exactly 12 cycle cycle_tree cycle_is (refl, (refl, (refl, (refl, (refl, (refl, tt))))))

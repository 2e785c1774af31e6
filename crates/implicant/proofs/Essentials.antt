-- Products and versions are finitely many, so prime is decided and the two readings of essential agree. Assumes nothing.
use Rattle.std.proofs.Common.{◌≡◌, ℕ, zero, suc, Bool, true, false, ◌≢◌, ◌↔◌, refl, ap, subst}
use mathlib.Core.Bool.{Bool-discrete}
use Rattle.std.proofs.lemmas.Bool.{false≢true}
use Rattle.product.specs.Words.{Row, Version, Word, absent, refused, wanted, Words, meets}
use Rattle.implicant.specs.Implicants.{Condition, Prime, Essential, Irreplaceable, OtherMet, low, high, both}
use Rattle.implicant.specs.Theorems.{EssentialBothWays}
use Rattle.implicant.proofs.Primes.{prime_recursion, primes_cover}

and_dec : {A B : Type 0} → Dec A → Dec B → Dec (A × B)
and_dec (yes a) (yes b) = yes (a, b)
and_dec (yes a) (no nb) = no (λ x. nb x.1)
and_dec (no na) b = no (λ x. na x.0)

not_dec : {A : Type 0} → Dec A → Dec (¬ A)
not_dec (yes a) = no (λ n. n a)
not_dec (no na) = yes na

by_iff : {A B : Type 0} → A ↔ B → Dec B → Dec A
by_iff e (yes b) = yes (e.1 b)
by_iff e (no nb) = no (λ a. nb (e.0 a))

pub prime_dec : (n : ℕ) (f : Condition n) (p : Words n) → Dec (Prime n f p)
prime_dec zero f p = go (Bool-discrete (f tt) true)
  where
    go : Dec (f tt ≡ true) → Dec (Prime zero f p)
    go (yes e) = yes (record { implies = λ v m. e; tight = λ k m i. false≢true m })
    go (no ne) = no (λ x. ne (x.implies tt refl))
prime_dec (suc n) f (absent, p) = by_iff (prime_recursion n f p).0 (prime_dec n (both n f) p)
prime_dec (suc n) f (refused, p) = by_iff (prime_recursion n f p).1 (and_dec (prime_dec n (low n f) p) (not_dec (prime_dec n (both n f) p)))
prime_dec (suc n) f (wanted, p) = by_iff (prime_recursion n f p).2 (and_dec (prime_dec n (high n f) p) (not_dec (prime_dec n (both n f) p)))

-- A type over which a decided family is searched.
abbrev Searched : Type 0 → Type 1
Searched A = (P : A → Type 0) → ((a : A) → Dec (P a)) → Dec ((a : A) × P a)

search_bool : Searched Bool
search_bool P d = go (d false) (d true)
  where
    go : Dec (P false) → Dec (P true) → Dec ((b : Bool) × P b)
    go (yes x) y = yes (false, x)
    go (no nx) (yes y) = yes (true, y)
    go (no nx) (no ny) = no (λ z. none z.0 z.1)
      where
        none : (b : Bool) → P b → ⊥
        none false x = nx x
        none true y = ny y

search_word : Searched Word
search_word P d = go (d absent) (d refused) (d wanted)
  where
    go : Dec (P absent) → Dec (P refused) → Dec (P wanted) → Dec ((w : Word) × P w)
    go (yes x) y z = yes (absent, x)
    go (no nx) (yes y) z = yes (refused, y)
    go (no nx) (no ny) (yes z) = yes (wanted, z)
    go (no nx) (no ny) (no nz) = no (λ u. none u.0 u.1)
      where
        none : (w : Word) → P w → ⊥
        none absent x = nx x
        none refused y = ny y
        none wanted z = nz z

search_row : (A : Type 0) → Searched A → (n : ℕ) → Searched (Row A n)
search_row A sa zero P d = by_iff ((λ x. x.1), (λ x. (tt, x))) (d tt)
search_row A sa (suc n) P d =
    by_iff ((λ x. (x.0.0, (x.0.1, x.1))), (λ x. ((x.0, x.1.0), x.1.1)))
    (sa (λ a. (r : Row A n) × P (a, r)) (λ a. search_row A sa n (λ r. P (a, r)) (λ r. d (a, r))))

word_code : Word → Word → Type 0
word_code absent absent = Unit {0}
word_code absent refused = ⊥
word_code absent wanted = ⊥
word_code refused absent = ⊥
word_code refused refused = Unit {0}
word_code refused wanted = ⊥
word_code wanted absent = ⊥
word_code wanted refused = ⊥
word_code wanted wanted = Unit {0}

word_dec : (x y : Word) → Dec (x ≡ y)
unfolding word_code
word_dec absent absent = yes refl
word_dec absent refused = no (λ e. subst (word_code absent) e tt)
word_dec absent wanted = no (λ e. subst (word_code absent) e tt)
word_dec refused absent = no (λ e. subst (word_code refused) e tt)
word_dec refused refused = yes refl
word_dec refused wanted = no (λ e. subst (word_code refused) e tt)
word_dec wanted absent = no (λ e. subst (word_code wanted) e tt)
word_dec wanted refused = no (λ e. subst (word_code wanted) e tt)
word_dec wanted wanted = yes refl

pub words_dec : (n : ℕ) (p q : Words n) → Dec (p ≡ q)
words_dec zero p q = yes refl
words_dec (suc n) p q = by_iff ((λ e. (ap (λ x. x.0) e, ap (λ x. x.1) e)), (λ e. λ i. (e.0 i, e.1 i))) (and_dec (word_dec p.0 q.0) (words_dec n p.1 q.1))

other_dec : (n : ℕ) (f : Condition n) (p : Words n) (v : Version n) → Dec (OtherMet n f p v)
other_dec n f p v =
    by_iff ((λ x. (x.0, (x.1, x.2, x.3))), (λ x. (x.0, x.1.0, x.1.1, x.1.2)))
    (search_row Word search_word n (λ q. Prime n f q × (q ≢ p) × (meets n q v ≡ true))
    (λ q. and₃ (prime_dec n f q) (not_dec (words_dec n q p)) (Bool-discrete (meets n q v) true)))
  where
    and₃ : {A B C : Type 0} → Dec A → Dec B → Dec C → Dec (A × B × C)
    and₃ a b c = by_iff ((λ x. (x.0, (x.1, x.2))), (λ x. (x.0, x.1.0, x.1.1))) (and_dec a (and_dec b c))

pub essential_both_ways : EssentialBothWays
essential_both_ways n f p = (to, from)
  where
    to : Essential n f p → Irreplaceable n f p
    to x =
        record {
          prime = x.prime;
          differs = λ same. let o : OtherMet n f p x.version = (same x.version).0 x.has in o.2 (x.only o.0 o.1 o.3);
        }

    from : Irreplaceable n f p → Essential n f p
    from x = go (search_row Bool search_bool n (λ v. (f v ≡ true) × (¬ OtherMet n f p v)) (λ v. and_dec (Bool-discrete (f v) true) (not_dec (other_dec n f p v))))
      where
        stable : (q : Words n) → ¬ (q ≢ p) → q ≡ p
        stable q nn = pick (words_dec n q p)
          where
            pick : Dec (q ≡ p) → q ≡ p
            pick (yes e) = e
            pick (no ne) = absurd (nn ne)

        go : Dec ((v : Version n) × ((f v ≡ true) × (¬ OtherMet n f p v))) → Essential n f p
        go (yes y) = record { prime = x.prime; version = v; has = y.1.0; met = met; only = only }
          where
            v : Version n
            v = y.0

            only : (q : Words n) → Prime n f q → meets n q v ≡ true → q ≡ p
            only q pr m = stable q (λ ne. y.1.1 (q, pr, ne, m))

            met : meets n p v ≡ true
            met =
                let c : (q : Words n) × Prime n f q × (meets n q v ≡ true) = (primes_cover n f v).0 y.1.0 in
                subst (λ q. meets n q v ≡ true) (only c.0 c.1 c.2) c.2
        go (no ny) = absurd (x.differs (λ v. (λ e. found v e (other_dec n f p v), λ o. o.1.implies v o.3)))
          where
            found : (v : Version n) → f v ≡ true → Dec (OtherMet n f p v) → OtherMet n f p v
            found v e (yes o) = o
            found v e (no no_other) = absurd (ny (v, (e, no_other)))

-- Primes: the recursion on the first option, the cover, and the two readings of prime. Assumes nothing.
use Rattle.std.proofs.Common.{◌≡◌, ℕ, zero, suc, Bool, true, false, ◌⊎◌, ◌↔◌, sym, refl, ap, ◌∙◌, inl, inr}
use Rattle.std.proofs.lemmas.Bool.{true≢false, false≢true, and_parts, and_from, cases_Bool}
use Rattle.product.specs.Words.{Version, Word, absent, refused, wanted, Words, allows, meets, names}
use Rattle.implicant.specs.Implicants.{Condition, word_at, dropped, Implies, Prime, Contains, Maximal, low, high, both}
use Rattle.implicant.specs.Theorems.{PrimeRecursion, PrimesCover, PrimeBothWays}

-- What a product implies, by its first word.
module _ (n : ℕ) (f : Condition (suc n)) (p : Words n) where
  pub implies_absent : Implies (suc n) (absent, p) f ↔ Implies n p (both n f)
  implies_absent = (λ i v m. and_from (f (false, v)) (f (true, v)) (i (false, v) m) (i (true, v) m), from)
    where
      from : Implies n p (both n f) → Implies (suc n) (absent, p) f
      from i (true, v) m = (and_parts (f (false, v)) (f (true, v)) (i v m)).1
      from i (false, v) m = (and_parts (f (false, v)) (f (true, v)) (i v m)).0

  pub implies_refused : Implies (suc n) (refused, p) f ↔ Implies n p (low n f)
  implies_refused = (λ i v m. i (false, v) m, from)
    where
      from : Implies n p (low n f) → Implies (suc n) (refused, p) f
      from i (true, v) m = absurd (false≢true m)
      from i (false, v) m = i v m

  pub implies_wanted : Implies (suc n) (wanted, p) f ↔ Implies n p (high n f)
  implies_wanted = (λ i v m. i (true, v) m, from)
    where
      from : Implies n p (high n f) → Implies (suc n) (wanted, p) f
      from i (true, v) m = i v m
      from i (false, v) m = absurd (false≢true m)

-- A named word w that leaves the half h: what it implies is what the rest implies of h.
prime_named : (n : ℕ) (f : Condition (suc n)) (p : Words n) (w : Word) (h : Condition n) → names w ≡ true
    → ((q : Words n) → Implies (suc n) (w, q) f ↔ Implies n q h) → ((v : Version n) → both n f v ≡ true → h v ≡ true)
    → Prime (suc n) f (w, p) ↔ (Prime n h p × (¬ Prime n (both n f) p))
prime_named n f p w h nw imp le = (to, from)
  where
    to : Prime (suc n) f (w, p) → Prime n h p × (¬ Prime n (both n f) p)
    to x = (
      record { implies = (imp p).0 x.implies; tight = λ k m i. x.tight (suc k) m ((imp (dropped n k p)).1 i) },
      λ y. x.tight zero nw ((implies_absent n f p).1 y.implies),
    )

    from : Prime n h p × (¬ Prime n (both n f) p) → Prime (suc n) f (w, p)
    from x = record { implies = (imp p).1 x.0.implies; tight = tight }
      where
        tight : (k : ℕ) → names (word_at (suc n) k (w, p)) ≡ true → ¬ Implies (suc n) (dropped (suc n) k (w, p)) f
        tight zero m i =
            x.1 (record { implies = (implies_absent n f p).0 i; tight = λ k e j. x.0.tight k e (λ v u. le v (j v u)) })
        tight (suc k) m i = x.0.tight k m ((imp (dropped n k p)).0 i)

pub prime_recursion : PrimeRecursion
prime_recursion n f p = (
  (to, from),
  prime_named n f p refused (low n f) refl (implies_refused n f) (λ v e. (and_parts (f (false, v)) (f (true, v)) e).0),
  prime_named n f p wanted (high n f) refl (implies_wanted n f) (λ v e. (and_parts (f (false, v)) (f (true, v)) e).1),
)
  where
    to : Prime (suc n) f (absent, p) → Prime n (both n f) p
    to x = record { implies = (implies_absent n f p).0 x.implies; tight = λ k m i. x.tight (suc k) m ((implies_absent n f (dropped n k p)).1 i) }

    from : Prime n (both n f) p → Prime (suc n) f (absent, p)
    from x = record { implies = (implies_absent n f p).1 x.implies; tight = tight }
      where
        tight : (k : ℕ) → names (word_at (suc n) k (absent, p)) ≡ true → ¬ Implies (suc n) (dropped (suc n) k (absent, p)) f
        tight zero m i = absurd (false≢true m)
        tight (suc k) m i = x.tight k m ((implies_absent n f (dropped n k p)).0 i)

-- A version with f meets some prime: of the "and" where that has it, of its own half otherwise.
abbrev Met : (n : ℕ) → Condition n → Version n → Type 0
Met n f v = (p : Words n) × Prime n f p × (meets n p v ≡ true)

covered : (n : ℕ) (f : Condition n) (v : Version n) → f v ≡ true → Met n f v
covered zero f v e = (tt, record { implies = λ u m. e; tight = λ k m i. false≢true m }, refl)
covered (suc n) f (b, v) e = go b e (cases_Bool (both n f v)) (covered n (both n f) v) (covered n (low n f) v) (covered n (high n f) v)
  where
    apart : (p : Words n) → meets n p v ≡ true → both n f v ≡ false → ¬ Prime n (both n f) p
    apart p m no_both x = true≢false (sym (x.implies v m) ∙ no_both)

    go : (b : Bool) → f (b, v) ≡ true → (both n f v ≡ true) ⊎ (both n f v ≡ false) → (both n f v ≡ true → Met n (both n f) v) → (low n f v ≡ true → Met n (low n f) v) → (high n f v ≡ true → Met n (high n f) v) → Met (suc n) f (b, v)
    go b e (inl t) ib il ih = let x : Met n (both n f) v = ib t in ((absent, x.0), (prime_recursion n f x.0).0.1 x.1, x.2)
    go false e (inr u) ib il ih =
        let x : Met n (low n f) v = il e in
        ((refused, x.0), (prime_recursion n f x.0).1.1 (x.1, apart x.0 x.2 u), x.2)
    go true e (inr u) ib il ih =
        let x : Met n (high n f) v = ih e in
        ((wanted, x.0), (prime_recursion n f x.0).2.1 (x.1, apart x.0 x.2 u), x.2)

pub primes_cover : PrimesCover
primes_cover n f v = (covered n f v, λ x. x.1.implies v x.2)

-- Every product is met by some version.
allowed : Word → Bool
allowed absent = true
allowed refused = false
allowed wanted = true

allows_allowed : (w : Word) → allows w (allowed w) ≡ true
unfolding allowed
allows_allowed absent = refl
allows_allowed refused = refl
allows_allowed wanted = refl

pub some_version : (n : ℕ) (p : Words n) → (v : Version n) × (meets n p v ≡ true)
some_version zero p = (tt, refl)
some_version (suc n) p =
    let x : (v : Version n) × (meets n p.1 v ≡ true) = some_version n p.1 in
    ((allowed p.0, x.0), and_from (allows p.0 (allowed p.0)) (meets n p.1 x.0) (allows_allowed p.0) x.1)

-- A product that contains another is it, or contains what is left of it when some named option is dropped.
abbrev Looser : (n : ℕ) → Words n → Words n → Type 0
Looser n q p = (k : ℕ) × (names (word_at n k p) ≡ true) × Contains n q (dropped n k p)

word_cases : (x w : Word) → ((b : Bool) → allows w b ≡ true → allows x b ≡ true) → (x ≡ w) ⊎ ((x ≡ absent) × (names w ≡ true))
word_cases absent absent h = inl refl
word_cases absent refused h = inr (refl, refl)
word_cases absent wanted h = inr (refl, refl)
word_cases refused absent h = absurd (false≢true (h true refl))
word_cases refused refused h = inl refl
word_cases refused wanted h = absurd (false≢true (h true refl))
word_cases wanted absent h = absurd (false≢true (h false refl))
word_cases wanted refused h = absurd (false≢true (h false refl))
word_cases wanted wanted h = inl refl

looser : (n : ℕ) (q p : Words n) → Contains n q p → (q ≡ p) ⊎ Looser n q p
looser zero q p c = inl refl
looser (suc n) q p c = go (looser n q.1 p.1 rest)
  where
    rest : Contains n q.1 p.1
    rest v m =
        let b : Bool = allowed p.0 in
        (and_parts (allows q.0 b) (meets n q.1 v) (c (b, v) (and_from (allows p.0 b) (meets n p.1 v) (allows_allowed p.0) m))).1

    first : (b : Bool) → allows p.0 b ≡ true → allows q.0 b ≡ true
    first b a =
        let x : (v : Version n) × (meets n p.1 v ≡ true) = some_version n p.1 in
        (and_parts (allows q.0 b) (meets n q.1 x.0) (c (b, x.0) (and_from (allows p.0 b) (meets n p.1 x.0) a x.1))).0

    go : (q.1 ≡ p.1) ⊎ Looser n q.1 p.1 → (q ≡ p) ⊎ Looser (suc n) q p
    go (inr x) =
        inr (
          suc x.0,
          x.1,
          λ v m. let a : (allows p.0 v.0 ≡ true) × (meets n (dropped n x.0 p.1) v.1 ≡ true) = and_parts (allows p.0 v.0) (meets n (dropped n x.0 p.1) v.1) m in
              and_from (allows q.0 v.0) (meets n q.1 v.1) (first v.0 a.0) (x.2 v.1 a.1),
        )
    go (inl e) = go₂ (word_cases q.0 p.0 first)
      where
        go₂ : (q.0 ≡ p.0) ⊎ ((q.0 ≡ absent) × (names p.0 ≡ true)) → (q ≡ p) ⊎ Looser (suc n) q p
        go₂ (inl d) = inl (λ i. (d i, e i))
        go₂ (inr x) =
            inr (zero, x.1, λ v m. and_from (allows q.0 v.0) (meets n q.1 v.1) (ap (λ w. allows w v.0) x.0) (rest v.1 m))

word_dropped : (n k : ℕ) (p : Words n) → names (word_at n k (dropped n k p)) ≡ false
word_dropped zero k p = refl
word_dropped (suc n) zero p = refl
word_dropped (suc n) (suc k) p = word_dropped n k p.1

contains_dropped : (n k : ℕ) (p : Words n) → Contains n (dropped n k p) p
contains_dropped zero k p v m = refl
contains_dropped (suc n) zero p v m = (and_parts (allows p.0 v.0) (meets n p.1 v.1) m).1
contains_dropped (suc n) (suc k) p v m =
    let a : (allows p.0 v.0 ≡ true) × (meets n p.1 v.1 ≡ true) = and_parts (allows p.0 v.0) (meets n p.1 v.1) m in
    and_from (allows p.0 v.0) (meets n (dropped n k p.1) v.1) a.0 (contains_dropped n k p.1 v.1 a.1)

pub prime_both_ways : PrimeBothWays
prime_both_ways n f p = (to, from)
  where
    to : Prime n f p → Maximal n f p
    to x = record { implies = x.implies; alone = alone }
      where
        alone : (q : Words n) → Implies n q f → Contains n q p → q ≡ p
        alone q i c = go (looser n q p c)
          where
            go : (q ≡ p) ⊎ Looser n q p → q ≡ p
            go (inl e) = e
            go (inr l) = absurd (x.tight l.0 l.1 (λ v m. i v (l.2 v m)))

    from : Maximal n f p → Prime n f p
    from x =
        record {
          implies = x.implies;
          tight = λ k m i. false≢true (sym (word_dropped n k p) ∙ ap (λ q. names (word_at n k q)) (x.alone (dropped n k p) i (contains_dropped n k p)) ∙ m);
        }

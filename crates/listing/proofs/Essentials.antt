-- Where the counts are those of a condition's primes, a prime has a version with the count one exactly if it is essential. Assumes nothing.
use Rattle.std.proofs.Common.{◌≡◌, ℕ, zero, suc, ◌+◌, ◌*◌, ◌≤◌, Bool, true, false, cond, ◌↔◌, List, [], ◌∷◌, ◌++◌, get_or, replicate, sym, refl, ap, ◌∙◌, inl, inr, arith}
use Rattle.std.proofs.lemmas.List.Sums.{sum_by-cons, sum_by_push}
use Rattle.std.proofs.lemmas.Bool.{or_cases, or_left, or_right, cond-true, cond-false, cases_Bool, false≢true}
use Rattle.product.specs.Words.{Words, Version, absent, refused, wanted, meets}
use Rattle.product.specs.Lists.{In, Rising}
use Rattle.implicant.specs.Implicants.{Condition, Prime, Essential}
use Rattle.listing.specs.declared.counts.Count.{Count}
use Rattle.listing.specs.declared.counts.Count.TheVariants.{Zero, One, Many}
use Rattle.listing.specs.Counts.{place, met, count_of, one_more, is_one, Marked, Counted, alone, alone_of}
use Rattle.listing.proofs.Rising.{not_above}

one_is : (c : Count) → is_one c ≡ true → c ≡ One
one_is Zero e = cc
one_is One e = refl
one_is Many e = cc

-- a version that meets p and has the count one
record Lone (n : ℕ) (counts : List Count) (prefix : ℕ) (p : Words n) : Type 0 where
  version : Version n
  meets_p : meets n p version ≡ true
  one : get_or counts (place n prefix version) Zero ≡ One

module _ (counts : List Count) where
  alone_has : (n prefix : ℕ) (p : Words n) → alone n counts prefix p ≡ true → Lone n counts prefix p
  unfolding alone
  alone_has zero prefix p e = record { version = tt; meets_p = refl; one = one_is (get_or counts prefix Zero) e }
  alone_has (suc n) prefix (absent, p) e =
      elim (or_cases (alone n counts (2 * prefix) p) (alone n counts (2 * prefix + 1) p) e) [
        | inl x ↦ let w = alone_has n (2 * prefix) p x in record { version = (false, w.version); meets_p = w.meets_p; one = w.one }
        | inr x ↦ let w = alone_has n (2 * prefix + 1) p x in record { version = (true, w.version); meets_p = w.meets_p; one = w.one }
      ]
  alone_has (suc n) prefix (refused, p) e =
      let w = alone_has n (2 * prefix) p e in record { version = (false, w.version); meets_p = w.meets_p; one = w.one }
  alone_has (suc n) prefix (wanted, p) e =
      let w = alone_has n (2 * prefix + 1) p e in record { version = (true, w.version); meets_p = w.meets_p; one = w.one }

  has_alone : (n prefix : ℕ) (p : Words n) (v : Version n) → meets n p v ≡ true → get_or counts (place n prefix v) Zero ≡ One → alone n counts prefix p ≡ true
  unfolding alone
  has_alone zero prefix p v m e = ap is_one e
  has_alone (suc n) prefix (absent, p) (true, v) m e = or_right (alone n counts (2 * prefix) p) (alone n counts (2 * prefix + 1) p) (has_alone n (2 * prefix + 1) p v m e)
  has_alone (suc n) prefix (absent, p) (false, v) m e = or_left (alone n counts (2 * prefix) p) (alone n counts (2 * prefix + 1) p) (has_alone n (2 * prefix) p v m e)
  has_alone (suc n) prefix (refused, p) (true, v) m e = absurd (false≢true m)
  has_alone (suc n) prefix (refused, p) (false, v) m e = has_alone n (2 * prefix) p v m e
  has_alone (suc n) prefix (wanted, p) (true, v) m e = has_alone n (2 * prefix + 1) p v m e
  has_alone (suc n) prefix (wanted, p) (false, v) m e = absurd (false≢true m)

-- how many products of a list a version meets
module _ (n : ℕ) (v : Version n) where
  -- what a product adds
  adds : Words n → ℕ
  adds p = cond (meets n p v) 1 0

  met_first : (p : Words n) (ps : List (Words n)) → met n (p ∷ ps) v ≡ adds p + met n ps v
  unfolding adds
  met_first p ps = sum_by-cons (λ (q : Words n). cond (meets n q v) 1 0) p ps

  met_last : (ps : List (Words n)) (p : Words n) → met n (ps ++ (p ∷ [])) v ≡ met n ps v + adds p
  unfolding adds
  met_last ps p = sum_by_push (λ (q : Words n). cond (meets n q v) 1 0) ps p

  adds_one : (p : Words n) → meets n p v ≡ true → adds p ≡ 1
  unfolding adds
  adds_one p m = cond-true (meets n p v) 1 0 m

  adds_none : (p : Words n) → meets n p v ≡ false → adds p ≡ 0
  unfolding adds
  adds_none p m = cond-false (meets n p v) 1 0 m

  -- the first product, which is q, is met where q is
  adds_same : (p q : Words n) → p ≡ q → meets n q v ≡ true → adds p ≡ 1
  adds_same p q e m = adds_one p (ap (λ (x : Words n). meets n x v) e ∙ m)

  met_some : (ps : List (Words n)) (p : Words n) → In n p ps → meets n p v ≡ true → 1 ≤ met n ps v
  met_some [] p i m = absurd i
  met_some (q ∷ ps) p (inl e) m = omega (arith, met_first q ps, adds_same q p e m)
  met_some (q ∷ ps) p (inr i) m = omega (arith, met_first q ps, met_some ps p i m)

  -- where one is met, any two that are met are equal
  met_one : (ps : List (Words n)) (p q : Words n) → met n ps v ≡ 1 → In n p ps → In n q ps → meets n p v ≡ true → meets n q v ≡ true → q ≡ p
  met_one [] p q e i j m o = absurd i
  met_one (x ∷ ps) p q e (inl a) (inl b) m o = sym b ∙ a
  met_one (x ∷ ps) p q e (inl a) (inr b) m o = absurd (omega (arith, met_first x ps, adds_same x p a m, met_some ps q b o))
  met_one (x ∷ ps) p q e (inr a) (inl b) m o = absurd (omega (arith, met_first x ps, adds_same x q b o, met_some ps p a m))
  met_one (x ∷ ps) p q e (inr a) (inr b) m o = met_one ps p q (omega (arith, met_first x ps, met_some ps p a m)) a b m o

  met_none : (ps : List (Words n)) → ((q : Words n) → In n q ps → meets n q v ≡ true → ⊥) → met n ps v ≡ 0
  met_none [] none = refl
  met_none (q ∷ ps) none =
      elim (cases_Bool (meets n q v)) [
        | inl m ↦ absurd (none q (inl refl) m)
        | inr m ↦ omega (arith, met_first q ps, adds_none q m, met_none ps (λ x i. none x (inr i)))
      ]

  -- a product that is met, and no other of the list, is met alone
  one_met : (ps : List (Words n)) (p : Words n) → Rising n ps → In n p ps → meets n p v ≡ true → ((q : Words n) → In n q ps → meets n q v ≡ true → q ≡ p) → met n ps v ≡ 1
  one_met [] p r i m only = absurd i
  one_met (x ∷ ps) p r (inl e) m only =
      let none = met_none ps (λ q j o. not_above n ps x q r.0 j (only q (inr j) o ∙ sym e)) in
      omega (arith, met_first x ps, adds_same x p e m, none)
  one_met (x ∷ ps) p r (inr i) m only =
      elim (cases_Bool (meets n x v)) [
        | inl o ↦ absurd (not_above n ps x p r.0 i (sym (only x (inl refl) o)))
        | inr o ↦ omega (arith, met_first x ps, adds_none x o, one_met ps p r.1 i m (λ q j k. only q (inr j) k))
      ]

-- the mark of a product is Y exactly where it is essential
pub essential_is : (f : Condition 12) (ps : List (Words 12)) (counts : List Count) → ((p : Words 12) → Prime 12 f p ↔ In 12 p ps) → Rising 12 ps → Counted ps counts
    → (p : Words 12) → In 12 p ps → (alone_of counts p ≡ true) ↔ Essential 12 f p
unfolding alone_of
essential_is f ps counts primes rising counted p i = (there, back)
  where
    few : (k : ℕ) → count_of k ≡ One → k ≡ 1
    few zero e = cc
    few (suc zero) e = refl
    few (suc (suc k)) e = cc

    there : alone 12 counts 0 p ≡ true → Essential 12 f p
    there e =
        let w = alone_has counts 12 0 p e in
        let v = w.version in
        let prime = (primes p).1 i in
        let one : met 12 ps v ≡ 1 = few (met 12 ps v) (sym (counted.each v) ∙ w.one) in
        record { prime = prime; version = v; has = prime.implies v w.meets_p; met = w.meets_p; only = λ q x m. met_one 12 v ps p q one i ((primes q).0 x) w.meets_p m }

    back : Essential 12 f p → alone 12 counts 0 p ≡ true
    back x =
        let one = one_met 12 x.version ps p rising i x.met (λ q j m. x.only q ((primes q).1 j) m) in
        has_alone counts 12 0 p x.version x.met (counted.each x.version ∙ ap count_of one)

pub counted_none : (counts : List Count) → counts ≡ replicate 4096 Zero → Counted [] counts
counted_none counts clear = record { each = λ v. ap (λ (z : List Count). get_or z (place 12 0 v) Zero) clear ∙ zeros 4096 (place 12 0 v) }
  where
    zeros : (n i : ℕ) → get_or (replicate n Zero) i Zero ≡ Zero
    zeros zero i = refl
    zeros (suc n) zero = refl
    zeros (suc n) (suc i) = zeros n i

-- the counts after one product more
pub counted_more : (ps : List (Words 12)) (p : Words 12) (old new : List Count) → Counted ps old → Marked 12 0 p old new → Counted (ps ++ (p ∷ [])) new
unfolding adds
counted_more ps p old new c m = record {
  each = λ v. m.inside v ∙ ap (λ (z : Count). cond (meets 12 p v) (one_more z) z) (c.each v) ∙ step (meets 12 p v) (met 12 ps v) ∙ ap count_of (sym (met_last 12 v ps p));
}
  where
    step : (b : Bool) (k : ℕ) → cond b (one_more (count_of k)) (count_of k) ≡ count_of (k + cond b 1 0)
    step true zero = refl
    step true (suc zero) = refl
    step true (suc (suc k)) = sym (ap count_of {y = suc (suc (suc k))} (omega arith))
    step false k = ap count_of {x = k} (omega arith)

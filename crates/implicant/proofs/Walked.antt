-- One step of the walk for primes, on functions: its set, and its working functions. Assumes nothing.
use Rattle.std.proofs.Common.{◌≡◌, ℕ, suc, ◌+◌, ◌*◌, ◌⊎◌, List, sym, refl, subst, inl, inr, arith}
use Rattle.diagram.specs.declared.Node.{Node}
use Rattle.diagram.specs.Functions.{Fun, Restriction}
use Rattle.diagram.specs.Outcomes.{Grants, Denies}
use Rattle.diagram.proofs.Restrictions.{Sides}
use Rattle.diagram.proofs.Outcome.{grants_varying, denies_varying}
use Rattle.implicant.specs.Implicants.{Condition, low, high, both}
use Rattle.implicant.specs.Variables.{condition, SignsOnly, and_of, ArePrimes, primes_by_halves, Here, PrimeRestrictions, PrimeNodes}
use Rattle.implicant.proofs.Conditions.{low_is, high_is, both_is, signs_both, condition_is}
use Rattle.implicant.proofs.Halves.{primes_none, primes_one, primes_step, primes_at, here_in, low_in, high_in, both_in, working_last, working_parts, nodes_down, nodes_up}

-- The functions of the condition f of the n options after the first k, and of the set g of its primes.
module _ (n k : ℕ) (f : Fun) (left : n + k ≡ 12) (signs : SignsOnly k f) where
  pub in_own : (u : Fun) → Restriction f u → PrimeRestrictions n k (condition n k f) u
  in_own u r = here_in Restriction n k (condition n k f) u (inl (subst (λ (x : Fun). Restriction x u) (condition_is n k f left signs) r))

  module _ (g : Fun) (are : ArePrimes n k (condition n k f) g) where
    pub in_set : (u : Fun) → Restriction g u → PrimeRestrictions n k (condition n k f) u
    in_set u r = here_in Restriction n k (condition n k f) u (inr (g, are, r))

    pub here_parts : (u : Fun) → Here Restriction n k (condition n k f) u → Restriction f u ⊎ Restriction g u
    here_parts u (inl r) = inl (subst (λ (x : Fun). Restriction x u) (sym (condition_is n k f left signs)) r)
    here_parts u (inr r) = inr (subst (λ (x : Fun). Restriction x u) (primes_one n k (condition n k f) r.0 g r.1 are) r.2)

-- No option is left: f is the set, and its restrictions are all.
pub working_none : (k : ℕ) (f : Fun) → k ≡ 12 → SignsOnly k f → (u : Fun) → PrimeRestrictions 0 k (condition 0 k f) u → Restriction f u
working_none k f e signs u x =
    elim (here_parts 0 k f (omega arith) signs f (primes_none k f e signs) u (working_last Restriction k (condition 0 k f) u x)) [ inl r ↦ r | inr r ↦ r ]

-- f by its sides at the sign of option k + 1.
module _ (n k : ℕ) {f lo hi : Fun} (d : Sides (2 * k + 2) f lo hi) where
  abbrev C : Condition (suc n)
  C = condition (suc n) k f

  -- the sets of the "and" and of both sides make the set of f
  pub set_step : (p p0 p1 : Fun) → ArePrimes n (k + 1) (condition n (k + 1) (and_of lo hi)) p → ArePrimes n (k + 1) (condition n (k + 1) lo) p0 → ArePrimes n (k + 1) (condition n (k + 1) hi) p1
      → ArePrimes (suc n) k (condition (suc n) k f) (primes_by_halves k p p0 p1)
  set_step p p0 p1 a x0 x1 =
      primes_step n k C p p0 p1
      (primes_at n (k + 1) (condition n (k + 1) (and_of lo hi)) (both n C) p p (sym (both_is k d n)) refl a)
      (primes_at n (k + 1) (condition n (k + 1) lo) (low n C) p0 p0 (sym (low_is k d n)) refl x0)
      (primes_at n (k + 1) (condition n (k + 1) hi) (high n C) p1 p1 (sym (high_is k d n)) refl x1)

  pub in_low : (u : Fun) → PrimeRestrictions n (k + 1) (condition n (k + 1) lo) u → PrimeRestrictions (suc n) k (condition (suc n) k f) u
  in_low u x = low_in Restriction n k C u (subst (λ (c : Condition n). PrimeRestrictions n (k + 1) c u) (sym (low_is k d n)) x)

  pub in_high : (u : Fun) → PrimeRestrictions n (k + 1) (condition n (k + 1) hi) u → PrimeRestrictions (suc n) k (condition (suc n) k f) u
  in_high u x = high_in Restriction n k C u (subst (λ (c : Condition n). PrimeRestrictions n (k + 1) c u) (sym (high_is k d n)) x)

  pub in_both : (u : Fun) → PrimeRestrictions n (k + 1) (condition n (k + 1) (and_of lo hi)) u → PrimeRestrictions (suc n) k (condition (suc n) k f) u
  in_both u x = both_in Restriction n k C u (subst (λ (c : Condition n). PrimeRestrictions n (k + 1) c u) (sym (both_is k d n)) x)

  module _ (left : n + (k + 1) ≡ 12) (signs : SignsOnly k f) where
    -- the restrictions of the "and" are working functions
    pub in_and : (u : Fun) → Restriction (and_of lo hi) u → PrimeRestrictions (suc n) k (condition (suc n) k f) u
    in_and u r = in_both u (in_own n (k + 1) (and_of lo hi) left (signs_both k d signs) u r)

    -- every working function is one of f, of its set, or of a part
    pub working_split : (g : Fun) → ArePrimes (suc n) k (condition (suc n) k f) g → (u : Fun) → PrimeRestrictions (suc n) k (condition (suc n) k f) u
        → Restriction f u ⊎ (Restriction g u ⊎ (PrimeRestrictions n (k + 1) (condition n (k + 1) lo) u ⊎ (PrimeRestrictions n (k + 1) (condition n (k + 1) hi) u ⊎ PrimeRestrictions n (k + 1) (condition n (k + 1) (and_of lo hi)) u)))
    working_split g are u x =
        elim (working_parts Restriction n k C u x) [
          | inl here ↦ elim (here_parts (suc n) k f (omega arith) signs g are u here) [ inl r ↦ inl r | inr r ↦ inr (inl r) ]
          | inr deep ↦
              elim deep [
                | inl y ↦ inr (inr (inl (subst (λ (c : Condition n). PrimeRestrictions n (k + 1) c u) (low_is k d n) y)))
                | inr deeper ↦
                    elim deeper [
                      | inl y ↦ inr (inr (inr (inl (subst (λ (c : Condition n). PrimeRestrictions n (k + 1) c u) (high_is k d n) y))))
                      | inr y ↦ inr (inr (inr (inr (subst (λ (c : Condition n). PrimeRestrictions n (k + 1) c u) (both_is k d n) y))))
                    ]
              ]
        ]

-- By nodes in place of restrictions: constants make no difference.
pub grants_prime_nodes : (n k : ℕ) (c : Condition n) (old new : List Node) → Grants (PrimeRestrictions n k c) old new → Grants (PrimeNodes n k c) old new
grants_prime_nodes n k c old new x = grants_varying (nodes_up n k c) (nodes_down n k c) x

pub denies_prime_nodes : (limit n k : ℕ) (c : Condition n) (old new : List Node) → Denies limit (PrimeRestrictions n k c) old new → Denies limit (PrimeNodes n k c) old new
denies_prime_nodes limit n k c old new x = denies_varying (nodes_up n k c) x

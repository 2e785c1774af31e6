-- The walk for primes, step by step. Assumes nothing.
use Rattle.std.proofs.Common.{◌≡◌, ℕ, suc, ◌+◌, ◌-◌, ◌*◌, ◌<◌, ◌≤◌, List, Ok, Err, sym, refl, ap, ◌∙◌, subst, inl, inr, arith}
use Rattle.diagram.specs.declared.Node.{Node}
use Rattle.diagram.specs.Functions.{Fun, Restriction}
use Rattle.diagram.specs.Nodes.{Issued, meaning, level_of, Extends, Split, Stands}
use Rattle.diagram.specs.Counts.{HasHandle}
use Rattle.diagram.specs.Outcomes.{Grows, Denies}
use Rattle.diagram.proofs.Restrictions.{Sides}
use Rattle.diagram.proofs.Tables.{level_constant}
use Rattle.diagram.proofs.Growth.{extends_trans, issued_kept, meaning_kept, level_kept, has_handle_kept}
use Rattle.diagram.proofs.Descent.{restriction_handle}
use Rattle.diagram.proofs.Outcome.{grows_none, grows_up, grows_trans, denies_up, denies_after, denies_limit}
use Rattle.diagram.proofs.Account.{gives_grants}
use Rattle.table.specs.declared.faults.Reason.TheVariants.{Full}
use Rattle.table.specs.declared.faults.TableFault.{TableFault}
use Rattle.table.specs.Faults.{fault}
use Rattle.table.specs.Model.{Sound}
use Rattle.implicant.specs.Variables.{condition, SignsOnly, ArePrimes, primes_by_halves, PrimeRestrictions}
use Rattle.implicant.proofs.Conditions.{signs_low, signs_high, signs_both}
use Rattle.implicant.proofs.Handles.{signs_level, level_before}
use Rattle.implicant.proofs.Halves.{primes_none, primes_at}
use Rattle.implicant.proofs.Walked.{in_set, working_none, set_step, in_low, in_high, in_both, in_and, working_split}
use Rattle.formula.specs.declared.steps.Operator.TheVariants.{And}
use Rattle.walk.specs.declared.ops.Op.TheVariants.{Infix}
use Rattle.walk.specs.declared.cache.Task.TheVariants.{Primes}
use Rattle.walk.specs.Ops.{joined}
use Rattle.walk.specs.Entries.{RightTask}
use Rattle.walk.specs.Outcomes.{Walked, PrimesWalked}
use Rattle.walk.proofs.Halves.{branch_sides}

-- No option is left: f is the set.
pub none_left : {L k f : ℕ} {t : List Node} → k ≡ 12 → Sound L t → Issued t f → SignsOnly k (meaning t f) → PrimesWalked L (12 - k) k (meaning t f) t (Ok f) t
none_left {L} {k} {f} {t} e s p g = subst (λ m. PrimesWalked L m k (meaning t f) t (Ok f) t) zero_left (record {
  outcome = record {
    set = record { issued = p; level = deep; primes = primes_none k (meaning t f) e g };
    grants = record {
      grows = grows_none (PrimeRestrictions 0 k (condition 0 k (meaning t f))) t s.formed;
      all = λ u x. restriction_handle t f (meaning t f) u s.formed p refl (working_none k (meaning t f) e g u x);
    };
  };
})
  where
    zero_left : 0 ≡ 12 - k
    zero_left = omega arith

    deep : 2 * k + 1 ≤ level_of t f
    deep = elim (signs_level t s.formed f k p g) [ inl x ↦ omega arith | inr x ↦ omega (arith, level_constant t f x) ]

-- A remembered set.
pub remembered : {L k f h : ℕ} {t : List Node} → Sound L t → RightTask t (Primes f k) h → PrimesWalked L (12 - k) k (meaning t f) t (Ok h) t
remembered s r = record { outcome = record { set = r.1; grants = record { grows = grows_none _ _ s.formed; all = r.2 } } }

-- An option is left: f has no node before the level of its sign.
pub sign_level : {L k f : ℕ} {t : List Node} → Sound L t → k ≤ 12 → (k ≡ 12 → ⊥) → Issued t f → SignsOnly k (meaning t f) → 2 * k + 2 ≤ level_of t f
sign_level {L} {k} {f} {t} s few more p g = level_before t s.formed f k p g (omega (arith, more))

pub sign_last : {k : ℕ} → k ≤ 12 → (k ≡ 12 → ⊥) → 2 * k + 2 < 25
sign_last few more = omega (arith, more)

pub option_left : {k : ℕ} → k ≤ 12 → (k ≡ 12 → ⊥) → k < 12
option_left few more = omega (arith, more)

pub next_left : {k : ℕ} → k ≤ 12 → (k ≡ 12 → ⊥) → k + 1 ≤ 12
next_left few more = omega (arith, more)

pub options_fall : {k t : ℕ} → 12 - k ≡ t → k ≤ 12 → (k ≡ 12 → ⊥) → 12 - (k + 1) < t
options_fall e few more = omega (arith, more)

-- f with m options left: it splits by the sign of the first of them, and n are left after it.
pub record Divided (L n m k : ℕ) (t0 : List Node) (f f0 f1 : ℕ) : Type 0 where
  pub next : suc n ≡ m
  pub few : n + (k + 1) ≡ 12
  pub sound : Sound L t0
  pub issued : Issued t0 f
  pub signs : SignsOnly k (meaning t0 f)
  pub split : Split t0 (2 * k + 2) f f0 f1

pub divides : {L k f f0 f1 : ℕ} {t0 : List Node} → Sound L t0 → k ≤ 12 → (k ≡ 12 → ⊥) → Issued t0 f → SignsOnly k (meaning t0 f) → Split t0 (2 * k + 2) f f0 f1 → Divided L (12 - (k + 1)) (12 - k) k t0 f f0 f1
divides s few more p g x = record { next = omega (arith, more); few = omega (arith, more); sound = s; issued = p; signs = g; split = x }

module _ {L n m k : ℕ} {t0 : List Node} {f f0 f1 : ℕ} (d : Divided L n m k t0 f f0 f1) where
  abbrev V : Fun
  V = meaning t0 f

  abbrev V0 : Fun
  V0 = meaning t0 f0

  abbrev V1 : Fun
  V1 = meaning t0 f1

  abbrev M : Fun
  M = joined (Infix And) V0 V1

  -- the working functions of f, and those of a function of the n options after the first
  abbrev Q : Fun → Type 0
  Q = PrimeRestrictions m k (condition m k V)

  abbrev P : Fun → Fun → Type 0
  P v = PrimeRestrictions n (k + 1) (condition n (k + 1) v)

  sides : Sides (2 * k + 2) V V0 V1
  sides = branch_sides d.sound.formed (omega arith) d.split

  up : (u : Fun) → PrimeRestrictions (suc n) k (condition (suc n) k V) u → Q u
  up u x = subst (λ z. PrimeRestrictions z k (condition z k V) u) d.next x

  down : (u : Fun) → Q u → PrimeRestrictions (suc n) k (condition (suc n) k V) u
  down u x = subst (λ z. PrimeRestrictions z k (condition z k V) u) (sym d.next) x

  and_in : (u : Fun) → Restriction M u → Q u
  and_in u r = up u (in_and n k sides d.few d.signs u r)

  -- a part's refusal, after what the parts before it have entered
  refuses : {K : ℕ} {R : Fun → Type 0} {a b : List Node} {e : TableFault} → Grows Q t0 a → ((u : Fun) → R u → Q u) → K ≡ L → e ≡ fault Full K → Denies K R a b → PrimesWalked L m k V t0 (Err e) b
  refuses g into size is x = record { outcome = record { is = is ∙ ap (fault Full) size; denies = denies_limit size (denies_after g (denies_up into x)) } }

  -- the "and" of both halves, then its set, that of the low half and that of the high one
  pub and_refused : {l : ℕ} {t1 : List Node} {e : TableFault} → Walked L t0 l M (Err e) t1 → PrimesWalked L m k V t0 (Err e) t1
  and_refused x = refuses (grows_none Q t0 d.sound.formed) and_in refl x.outcome.is x.outcome.denies

  module _ {l b : ℕ} {t1 : List Node} (g : Walked L t0 l M (Ok b) t1) where
    grow_1 : Grows Q t0 t1
    grow_1 = grows_up and_in g.outcome.grows

    and_is : meaning t1 b ≡ M
    and_is = g.outcome.stands.value

    pub and_signs : SignsOnly (k + 1) (meaning t1 b)
    and_signs = subst (λ (v : Fun). SignsOnly (k + 1) v) (sym and_is) (signs_both k sides d.signs)

    both_into : (u : Fun) → P (meaning t1 b) u → Q u
    both_into u x = up u (in_both n k sides u (subst (λ (v : Fun). P v u) and_is x))

    pub both_refused : {K : ℕ} {t2 : List Node} {e : TableFault} → K ≡ L → PrimesWalked K n (k + 1) (meaning t1 b) t1 (Err e) t2 → PrimesWalked L m k V t0 (Err e) t2
    both_refused size x = refuses grow_1 both_into size x.outcome.is x.outcome.denies

    module _ {K2 p : ℕ} {t2 : List Node} (w : PrimesWalked K2 n (k + 1) (meaning t1 b) t1 (Ok p) t2) where
      grow_2 : Grows Q t0 t2
      grow_2 = grows_trans grow_1 (grows_up both_into w.outcome.grants.grows)

      low_is : meaning t2 f0 ≡ V0
      low_is = meaning_kept grow_2.extends f0 d.split.lo_issued

      pub low_issued : Issued t2 f0
      low_issued = issued_kept grow_2.extends f0 d.split.lo_issued

      pub low_signs : SignsOnly (k + 1) (meaning t2 f0)
      low_signs = subst (λ (v : Fun). SignsOnly (k + 1) v) (sym low_is) (signs_low k sides d.signs)

      low_into : (u : Fun) → P (meaning t2 f0) u → Q u
      low_into u x = up u (in_low n k sides u (subst (λ (v : Fun). P v u) low_is x))

      pub low_refused : {K : ℕ} {t3 : List Node} {e : TableFault} → K ≡ L → PrimesWalked K n (k + 1) (meaning t2 f0) t2 (Err e) t3 → PrimesWalked L m k V t0 (Err e) t3
      low_refused size x = refuses grow_2 low_into size x.outcome.is x.outcome.denies

      module _ {K3 p0 : ℕ} {t3 : List Node} (w0 : PrimesWalked K3 n (k + 1) (meaning t2 f0) t2 (Ok p0) t3) where
        grow_3 : Grows Q t0 t3
        grow_3 = grows_trans grow_2 (grows_up low_into w0.outcome.grants.grows)

        high_is : meaning t3 f1 ≡ V1
        high_is = meaning_kept grow_3.extends f1 d.split.hi_issued

        pub high_issued : Issued t3 f1
        high_issued = issued_kept grow_3.extends f1 d.split.hi_issued

        pub high_signs : SignsOnly (k + 1) (meaning t3 f1)
        high_signs = subst (λ (v : Fun). SignsOnly (k + 1) v) (sym high_is) (signs_high k sides d.signs)

        high_into : (u : Fun) → P (meaning t3 f1) u → Q u
        high_into u x = up u (in_high n k sides u (subst (λ (v : Fun). P v u) high_is x))

        pub high_refused : {K : ℕ} {t4 : List Node} {e : TableFault} → K ≡ L → PrimesWalked K n (k + 1) (meaning t3 f1) t3 (Err e) t4 → PrimesWalked L m k V t0 (Err e) t4
        high_refused size x = refuses grow_3 high_into size x.outcome.is x.outcome.denies

        module _ {K4 p1 : ℕ} {t4 : List Node} (w1 : PrimesWalked K4 n (k + 1) (meaning t3 f1) t3 (Ok p1) t4) where
          grow_4 : Grows Q t0 t4
          grow_4 = grows_trans grow_3 (grows_up high_into w1.outcome.grants.grows)

          x34 : Extends t3 t4
          x34 = w1.outcome.grants.grows.extends

          x24 : Extends t2 t4
          x24 = extends_trans w0.outcome.grants.grows.extends x34

          pub both_stands : Stands t4 (2 * k + 3) p (meaning t4 p)
          both_stands = record { issued = issued_kept x24 p w.outcome.set.issued; level = omega (arith, level_kept x24 p w.outcome.set.issued, w.outcome.set.level); value = refl }

          pub low_stands : Stands t4 (2 * k + 3) p0 (meaning t4 p0)
          low_stands = record { issued = issued_kept x34 p0 w0.outcome.set.issued; level = omega (arith, level_kept x34 p0 w0.outcome.set.issued, w0.outcome.set.level); value = refl }

          pub high_stands : Stands t4 (2 * k + 3) p1 (meaning t4 p1)
          high_stands = record { issued = w1.outcome.set.issued; level = omega (arith, w1.outcome.set.level); value = refl }

          abbrev R : Fun
          R = primes_by_halves k (meaning t4 p) (meaning t4 p0) (meaning t4 p1)

          -- the three sets make the set of f
          set_is : ArePrimes (suc n) k (condition (suc n) k V) R
          set_is =
              set_step n k sides (meaning t4 p) (meaning t4 p0) (meaning t4 p1)
              (primes_at n (k + 1) (condition n (k + 1) (meaning t1 b)) (condition n (k + 1) M) (meaning t2 p) (meaning t4 p) (ap (condition n (k + 1)) and_is) (sym (meaning_kept x24 p w.outcome.set.issued)) w.outcome.set.primes)
              (primes_at n (k + 1) (condition n (k + 1) (meaning t2 f0)) (condition n (k + 1) V0) (meaning t3 p0) (meaning t4 p0) (ap (condition n (k + 1)) low_is) (sym (meaning_kept x34 p0 w0.outcome.set.issued)) w0.outcome.set.primes)
              (primes_at n (k + 1) (condition n (k + 1) (meaning t3 f1)) (condition n (k + 1) V1) (meaning t4 p1) (meaning t4 p1) (ap (condition n (k + 1)) high_is) refl w1.outcome.set.primes)

          set_into : (u : Fun) → Restriction R u → Q u
          set_into u r = up u (in_set (suc n) k V (omega (arith, d.few)) d.signs R set_is u r)

          pub set_refused : {K l5 : ℕ} {t5 : List Node} {e : TableFault} → K ≡ L → Walked K t4 l5 R (Err e) t5 → PrimesWalked L m k V t0 (Err e) t5
          set_refused size x = refuses grow_4 set_into size x.outcome.is x.outcome.denies

          module _ {K5 h : ℕ} {t5 : List Node} (g5 : Walked K5 t4 (2 * k + 1) R (Ok h) t5) where
            grow_5 : Grows Q t0 t5
            grow_5 = grows_trans grow_4 (grows_up set_into g5.outcome.grows)

            x45 : Extends t4 t5
            x45 = g5.outcome.grows.extends

            -- every working function has a handle in the end
            all_in : (u : Fun) → Q u → HasHandle t5 u
            all_in u x =
                elim (working_split n k sides d.few d.signs R set_is u (down u x)) [
                  | inl r ↦ restriction_handle t5 f V u grow_5.well_formed (issued_kept grow_5.extends f d.issued) (meaning_kept grow_5.extends f d.issued) r
                  | inr rest ↦
                      elim rest [
                        | inl r ↦ (gives_grants g5.outcome).all u r
                        | inr parts ↦
                            elim parts [
                              | inl y ↦ has_handle_kept (extends_trans x34 x45) (w0.outcome.grants.all u (subst (λ (v : Fun). P v u) (sym low_is) y))
                              | inr others ↦
                                  elim others [
                                    | inl y ↦ has_handle_kept x45 (w1.outcome.grants.all u (subst (λ (v : Fun). P v u) (sym high_is) y))
                                    | inr y ↦ has_handle_kept (extends_trans x24 x45) (w.outcome.grants.all u (subst (λ (v : Fun). P v u) (sym and_is) y))
                                  ]
                            ]
                      ]
                ]

            whole : ArePrimes m k (condition m k V) (meaning t5 h)
            whole = subst (λ z. ArePrimes z k (condition z k V) (meaning t5 h)) d.next (subst (λ (v : Fun). ArePrimes (suc n) k (condition (suc n) k V) v) (sym g5.outcome.stands.value) set_is)

            pub primes_given : PrimesWalked L m k V t0 (Ok h) t5
            primes_given = record {
              outcome = record {
                set = record { issued = g5.outcome.stands.issued; level = g5.outcome.stands.level; primes = whole };
                grants = record { grows = grow_5; all = all_in };
              };
            }

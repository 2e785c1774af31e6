-- Functions of the signs alone: as conditions, and by their two sides at a variable. Assumes nothing.
use Rattle.std.proofs.Common.{◌≡◌, ℕ, suc, ◌+◌, ◌*◌, ◌<◌, ◌≤◌, Bool, true, false, cond, ◌&&◌, sym, refl, ap, ◌∙◌, subst, arith}
use mathlib.Core.Path.{fun_ext}
use Rattle.diagram.specs.Functions.{Setting, Fun, put}
use Rattle.diagram.proofs.Restrictions.{Sides}
use Rattle.implicant.specs.Implicants.{low, high, both}
use Rattle.implicant.specs.Variables.{signs_from, version_setting, condition, SignsOnly, and_of}
use Rattle.implicant.specs.Theorems.{SignsAreVersions, VersionsAreSigns}
use Rattle.implicant.proofs.Settings.{put_at, put_off, put_alike, version_even, signs_alike, signs_back}

-- what the sides answer is what f answers with the variable set
pub at_put : {l : ℕ} {f lo hi : Fun} → Sides l f lo hi → (b : Bool) (s : Setting) → f (put l b s) ≡ cond b (hi s) (lo s)
at_put {l} {f} {lo} {hi} d b s =
    let t : Setting = put l b s in
    ap (λ (u : Fun). u t) d.is ∙ ap (λ c. cond c (hi t) (lo t)) (put_at l b s l refl)
    ∙ ap (λ y. cond b y (lo t)) (d.high t s (λ i lt. put_off l b s i (λ q. omega arith)))
    ∙ ap (λ y. cond b (hi s) y) (d.low t s (λ i lt. put_off l b s i (λ q. omega arith)))

module _ {l : ℕ} {f lo hi : Fun} (d : Sides l f lo hi) (k : ℕ) where
  -- a side of a function of signs alone is one
  pub signs_side_low : SignsOnly k f → SignsOnly k lo
  signs_side_low h s t a = sym (at_put d false s) ∙ h (put l false s) (put l false t) (λ j le lt. put_alike l false s t (2 * j + 2) (λ _. a j le lt)) ∙ at_put d false t

  pub signs_side_high : SignsOnly k f → SignsOnly k hi
  signs_side_high h s t a = sym (at_put d true s) ∙ h (put l true s) (put l true t) (λ j le lt. put_alike l true s t (2 * j + 2) (λ _. a j le lt)) ∙ at_put d true t

  -- at a variable that is none of those signs the sides are equal
  pub signs_unread : ((j : ℕ) → k ≤ j → j < 12 → 2 * j + 2 ≡ l → ⊥) → SignsOnly k f → lo ≡ hi
  signs_unread apart h = fun_ext (λ s.
      sym (at_put d false s)
      ∙ h (put l false s) (put l true s) (λ j le lt. put_off l false s (2 * j + 2) (apart j le lt) ∙ sym (put_off l true s (2 * j + 2) (apart j le lt)))
      ∙ at_put d true s)

  -- at one of those signs a function of signs alone is made of two
  pub signs_by_sides : (j : ℕ) → k ≤ j → j < 12 → 2 * j + 2 ≡ l → SignsOnly k lo → SignsOnly k hi → SignsOnly k f
  signs_by_sides j le lt e p q s t a =
      ap (λ (u : Fun). u s) d.is
      ∙ ap (λ c. cond c (hi s) (lo s)) (subst (λ i. s i ≡ t i) e (a j le lt))
      ∙ ap (λ y. cond (t l) y (lo s)) (q s t a) ∙ ap (λ y. cond (t l) (hi t) y) (p s t a)
      ∙ sym (ap (λ (u : Fun). u t) d.is)

-- f by its two sides at the sign of option k + 1
module _ (k : ℕ) {f lo hi : Fun} (d : Sides (2 * k + 2) f lo hi) where
  pub low_is : (n : ℕ) → low n (condition (suc n) k f) ≡ condition n (k + 1) lo
  low_is n = fun_ext (λ v. at_put d false (version_setting n (k + 1) v))

  pub high_is : (n : ℕ) → high n (condition (suc n) k f) ≡ condition n (k + 1) hi
  high_is n = fun_ext (λ v. at_put d true (version_setting n (k + 1) v))

  pub both_is : (n : ℕ) → both n (condition (suc n) k f) ≡ condition n (k + 1) (and_of lo hi)
  both_is n = λ i v. low_is n i v && high_is n i v

  agree : (b : Bool) (s t : Setting) → ((j : ℕ) → k + 1 ≤ j → j < 12 → s (2 * j + 2) ≡ t (2 * j + 2)) → (j : ℕ) → k ≤ j → j < 12 → put (2 * k + 2) b s (2 * j + 2) ≡ put (2 * k + 2) b t (2 * j + 2)
  agree b s t a j le lt = put_alike (2 * k + 2) b s t (2 * j + 2) (λ ne. a j (past ne) lt)
    where
      past : (2 * j + 2 ≡ 2 * k + 2 → ⊥) → k + 1 ≤ j
      past ne = omega arith

  pub signs_low : SignsOnly k f → SignsOnly (k + 1) lo
  signs_low h s t a = sym (at_put d false s) ∙ h (put (2 * k + 2) false s) (put (2 * k + 2) false t) (agree false s t a) ∙ at_put d false t

  pub signs_high : SignsOnly k f → SignsOnly (k + 1) hi
  signs_high h s t a = sym (at_put d true s) ∙ h (put (2 * k + 2) true s) (put (2 * k + 2) true t) (agree true s t a) ∙ at_put d true t

  pub signs_both : SignsOnly k f → SignsOnly (k + 1) (and_of lo hi)
  signs_both h s t a = λ i. signs_low h s t a i && signs_high h s t a i

pub signs_are_versions : SignsAreVersions
signs_are_versions n k f e h s = sym (h (version_setting n k (signs_from n k s)) s (λ j le lt. version_even n k s j le (omega arith)))

-- a function of the signs left is its condition
pub condition_is : (n k : ℕ) (f : Fun) → n + k ≡ 12 → SignsOnly k f → f ≡ (λ s. condition n k f (signs_from n k s))
condition_is n k f e h = fun_ext (signs_are_versions n k f e h)

pub versions_are_signs : VersionsAreSigns
versions_are_signs n k c e = (λ s t a. ap c (signs_alike n k s t (λ j le lt. a j le (omega arith))), λ v. ap c (signs_back n k v))

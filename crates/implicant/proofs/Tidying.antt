-- Product sets by their two sides at a variable. Assumes nothing.
use Rattle.std.proofs.Common.{◌≡◌, ℕ, suc, ◌+◌, ◌*◌, ◌%◌, ◌<◌, Bool, true, false, cond, sym, refl, ap, ◌∙◌, subst, inl, inr, arith}
use mathlib.Core.Path.{fun_ext}
use Rattle.std.proofs.lemmas.Bool.{cases_eq, true≢false}
use Rattle.product.specs.Words.{Words, absent, refused, wanted}
use Rattle.diagram.specs.Functions.{Setting, Fun, Ignores, put}
use Rattle.diagram.proofs.Restrictions.{Sides}
use Rattle.implicant.specs.Variables.{product_setting, TidyAt, ProductSet, products}
use Rattle.implicant.proofs.Settings.{put_at, put_off, put_alike}
use Rattle.implicant.proofs.Conditions.{at_put}

pub put_swap : (a b : ℕ) (x y : Bool) (s : Setting) → (a ≡ b → ⊥) → put a x (put b y s) ≡ put b y (put a x s)
put_swap a b x y s ne = fun_ext (λ i.
    elim (cases_eq i a) [
      | inl e ↦ put_at a x (put b y s) i e ∙ sym (put_off b y (put a x s) i (λ q. ne (sym e ∙ q)) ∙ put_at a x s i e)
      | inr off ↦ put_off a x (put b y s) i off ∙ sym (put_alike b y (put a x s) s i (λ _. put_off a x s i off))
    ])

-- f with one variable set
pub tidy_part : (m l : ℕ) (b : Bool) (f g : Fun) → ((s : Setting) → g s ≡ f (put l b s)) → (l ≡ 2 * m + 2 → ⊥) → (l ≡ 2 * m + 1 → b ≡ false) → TidyAt m f → TidyAt m g
tidy_part m l b f g is ne own h s e =
    let off : put l b s (2 * m + 1) ≡ false =
    elim (cases_eq (2 * m + 1) l) [ inl p ↦ put_at l b s (2 * m + 1) p ∙ own (sym p) | inr p ↦ put_off l b s (2 * m + 1) p ∙ e ] in
    is (put (2 * m + 2) true s) ∙ ap f (put_swap l (2 * m + 2) b true s ne) ∙ h (put l b s) off ∙ ap f (sym (put_swap l (2 * m + 2) b false s ne)) ∙ sym (is (put (2 * m + 2) false s))

module _ (m : ℕ) {l : ℕ} {f lo hi : Fun} (d : Sides l f lo hi) where
  -- the sides of a function at another variable than the sign
  module _ (ne : l ≡ 2 * m + 2 → ⊥) where
    pub tidy_low : TidyAt m f → TidyAt m lo
    tidy_low h = tidy_part m l false f lo (λ s. sym (at_put d false s)) ne (λ _. refl) h

    pub tidy_high : (l ≡ 2 * m + 1 → ⊥) → TidyAt m f → TidyAt m hi
    tidy_high own h = tidy_part m l true f hi (λ s. sym (at_put d true s)) ne (λ q. absurd (own q)) h

    pub tidy_by_sides : TidyAt m lo → ((l ≡ 2 * m + 1 → ⊥) → TidyAt m hi) → TidyAt m f
    tidy_by_sides p q s e =
        let value : (b : Bool) → f (put (2 * m + 2) b s) ≡ cond (s l) (hi (put (2 * m + 2) b s)) (lo (put (2 * m + 2) b s)) =
        λ b. ap (λ (u : Fun). u (put (2 * m + 2) b s)) d.is ∙ ap (λ x. cond x (hi (put (2 * m + 2) b s)) (lo (put (2 * m + 2) b s))) (put_off (2 * m + 2) b s l ne) in
        let side : (x : Bool) → s l ≡ x → cond x (hi (put (2 * m + 2) true s)) (lo (put (2 * m + 2) true s)) ≡ cond x (hi (put (2 * m + 2) false s)) (lo (put (2 * m + 2) false s)) =
        λ x. elim x as (λ x. s l ≡ x → cond x (hi (put (2 * m + 2) true s)) (lo (put (2 * m + 2) true s)) ≡ cond x (hi (put (2 * m + 2) false s)) (lo (put (2 * m + 2) false s))) [
          | true ↦ λ t. q (λ own. true≢false (sym t ∙ ap s own ∙ e)) s e
          | false ↦ λ t. p s e
        ] in
        value true ∙ side (s l) refl ∙ sym (value false)

  -- at the sign itself the sides are equal
  pub tidy_unread : l ≡ 2 * m + 2 → TidyAt m f → lo ≡ hi
  tidy_unread own h = fun_ext (λ s.
      let t : Setting = put (2 * m + 1) false s in
      let past : (i : ℕ) → l < i → t i ≡ s i = λ i lt. put_off (2 * m + 1) false s i (λ q. omega arith) in
      let tidy : f (put l true t) ≡ f (put l false t) = subst (λ (z : ℕ). f (put z true t) ≡ f (put z false t)) (sym own) (h t (put_at (2 * m + 1) false s (2 * m + 1) refl)) in
      sym (d.low t s past) ∙ sym (at_put d false t) ∙ sym tidy ∙ at_put d true t ∙ d.high t s past)

-- a function that ignores the sign
pub tidy_ignores : (m : ℕ) (f : Fun) → Ignores (2 * m + 2) f → TidyAt m f
tidy_ignores m f h s e = h (put (2 * m + 2) true s) (put (2 * m + 2) false s) (λ i lt. put_off (2 * m + 2) true s i (λ q. omega arith) ∙ sym (put_off (2 * m + 2) false s i (λ q. omega arith)))

-- A product set by its parts at an option, whose occurrence variable is at level l: where it is absent, refused and wanted.
module _ {l : ℕ} (odd : l % 2 ≡ 1) {f lo hi : Fun} (d : Sides l f lo hi) where
  pub set_absent : ProductSet f → ProductSet lo
  set_absent t = record { each = λ m a b. tidy_low m d (λ q. omega arith) (t.each m a b) }

  module _ {no_side yes_side : Fun} (c : Sides (l + 1) hi no_side yes_side) where
    -- a side of the sign ignores it, and is at other options as f is
    side : (g : Fun) → Ignores (l + 1) g → ((m : ℕ) → (l ≡ 2 * m + 1 → ⊥) → TidyAt m hi → TidyAt m g) → ProductSet f → ProductSet g
    side g own h t = record {
      each = λ m a b.
          elim (cases_eq l (2 * m + 1)) [
            | inl e ↦ let z : l + 1 ≡ 2 * m + 2 = omega arith in tidy_ignores m g (subst (λ i. Ignores i g) z own)
            | inr ne ↦ h m ne (tidy_high m d (λ q. omega arith) ne (t.each m a b))
          ];
    }

    pub set_refused : ProductSet f → ProductSet no_side
    set_refused = side no_side c.low (λ m ne. tidy_low m c (λ q. ne (omega arith)))

    pub set_wanted : ProductSet f → ProductSet yes_side
    set_wanted = side yes_side c.high (λ m ne. tidy_high m c (λ q. ne (omega arith)) (λ q. omega arith))

    pub set_by_parts : ProductSet lo → ProductSet no_side → ProductSet yes_side → ProductSet f
    set_by_parts x y z = record {
      each = λ m a b.
          tidy_by_sides m d (λ q. omega arith) (x.each m a b) (λ ne. tidy_by_sides m c (λ q. ne (omega arith)) (y.each m a b) (λ _. z.each m a b));
    }

-- The products of a function by its sides at the variables of option k + 1.
module _ (n k : ℕ) {f lo hi : Fun} (d : Sides (2 * k + 1) f lo hi) (p : Words n) where
  pub products_absent : Ignores (2 * k + 2) lo → products (suc n) k f (absent, p) ≡ products n (k + 1) lo p
  products_absent own =
      let rest = product_setting n (k + 1) p in
      at_put d false (put (2 * k + 2) false rest) ∙ own (put (2 * k + 2) false rest) rest (λ i lt. put_off (2 * k + 2) false rest i (λ q. omega arith))

  -- the sign of an option that is absent is no
  pub products_unsigned : {no_side yes_side : Fun} → Sides (2 * k + 2) lo no_side yes_side → products (suc n) k f (absent, p) ≡ products n (k + 1) no_side p
  products_unsigned c = at_put d false (put (2 * k + 2) false (product_setting n (k + 1) p)) ∙ at_put c false (product_setting n (k + 1) p)

  module _ {no_side yes_side : Fun} (c : Sides (2 * k + 2) hi no_side yes_side) where
    pub products_refused : products (suc n) k f (refused, p) ≡ products n (k + 1) no_side p
    products_refused = at_put d true (put (2 * k + 2) false (product_setting n (k + 1) p)) ∙ at_put c false (product_setting n (k + 1) p)

    pub products_wanted : products (suc n) k f (wanted, p) ≡ products n (k + 1) yes_side p
    products_wanted = at_put d true (put (2 * k + 2) true (product_setting n (k + 1) p)) ∙ at_put c true (product_setting n (k + 1) p)

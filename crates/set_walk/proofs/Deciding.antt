-- Handles by their nodes: which mean product sets, and where a product leads. Assumes nothing.
use Rattle.std.proofs.Common.{◌≡◌, ℕ, ◌+◌, ◌-◌, ◌*◌, ◌%◌, ◌<◌, Bool, true, false, cond, eqb, List, Ok, sym, refl, ap, ◌∙◌, subst, arith}
use Rattle.std.proofs.lemmas.Bool.{cond_both}
use Rattle.product.specs.declared.masks.Product.{Product}
use Rattle.product.specs.Products.{words_of}
use Rattle.diagram.specs.declared.Node.{Node}
use Rattle.diagram.specs.Functions.{Setting, Fun, put}
use Rattle.diagram.specs.Nodes.{Issued, meaning, level_of, Fit, Split}
use Rattle.diagram.proofs.Restrictions.{Sides}
use Rattle.diagram.proofs.Tables.{meaning_constant, meaning_at, fit_at, level_at, level_most}
use Rattle.table.specs.Model.{Sound, Got}
use Rattle.implicant.specs.Variables.{ProductSet, products_of, mask_setting}
use Rattle.implicant.proofs.Tidying.{set_absent, set_refused, set_wanted, set_by_parts}
use Rattle.implicant.proofs.Handles.{meaning_options, sides_at, set_odd}
use Rattle.implicant.proofs.Masking.{masks_are_words}
use Rattle.walk.proofs.Halves.{branch_sides}

pub constant_set : (ns : List Node) (h : ℕ) → h < 2 → ProductSet (meaning ns h)
constant_set ns h p = record { each = λ m a b s e. answer (put (2 * m + 2) true s) ∙ sym (answer (put (2 * m + 2) false s)) }
  where
    answer : (s : Setting) → meaning ns h s ≡ eqb h 1
    answer s = ap (λ (f : Fun). f s) (meaning_constant ns h p)

module _ {N : ℕ} {ns : List Node} {h : ℕ} {n : Node} (s : Sound N ns) (x : Got N ns h (Ok n)) where
  pub node_fit : Fit ns n
  node_fit = fit_at ns h n s.formed x.outcome

  -- The measure falls to any handle that is deeper than the node.
  pub deeper_falls : (k : ℕ) → n.level < level_of ns k → 25 - level_of ns k < 25 - level_of ns h
  deeper_falls k lt = omega (arith, level_at ns h n x.outcome, level_most ns k s.formed)

  -- A node at a sign shows that there is no product set.
  pub even_node : n.level % 2 ≡ 0 → ProductSet (meaning ns h) → ⊥
  even_node even t = omega (arith, set_odd ns s.formed h n x.outcome t)

  module _ (odd : n.level % 2 ≡ 0 → ⊥) where
    one : n.level % 2 ≡ 1
    one = omega arith

    sides : Sides n.level (meaning ns h) (meaning ns n.low) (meaning ns n.high)
    sides = sides_at ns s.formed h n x.outcome

    -- The sign's level is one of the 24.
    pub sign_last : n.level + 1 < 25
    sign_last = omega (arith, node_fit.last, odd)

    pub absent_set : ProductSet (meaning ns h) → ProductSet (meaning ns n.low)
    absent_set = set_absent one sides

    module _ {no yes : ℕ} (d : Split ns (n.level + 1) n.high no yes) where
      branches : Sides (n.level + 1) (meaning ns n.high) (meaning ns no) (meaning ns yes)
      branches = branch_sides s.formed (omega arith) d

      pub no_falls : 25 - level_of ns no < 25 - level_of ns h
      no_falls = deeper_falls no (omega (arith, d.lo_deeper))

      pub yes_falls : 25 - level_of ns yes < 25 - level_of ns h
      yes_falls = deeper_falls yes (omega (arith, d.hi_deeper))

      pub refused_set : ProductSet (meaning ns h) → ProductSet (meaning ns no)
      refused_set = set_refused one sides branches

      pub wanted_set : ProductSet (meaning ns h) → ProductSet (meaning ns yes)
      wanted_set = set_wanted one sides branches

      pub whole_set : ProductSet (meaning ns n.low) → ProductSet (meaning ns no) → ProductSet (meaning ns yes) → ProductSet (meaning ns h)
      whole_set = set_by_parts one sides branches

      -- Where the high side does not read the sign, both branches are one.
      pub unread_set : no ≡ yes → ProductSet (meaning ns n.low) → ProductSet (meaning ns no) → ProductSet (meaning ns h)
      unread_set e a r = whole_set a r (subst (λ (k : ℕ). ProductSet (meaning ns k)) e r)

  -- The child that a product leads to.
  module _ (p : Product) {k : ℕ} (e : k ≡ cond (mask_setting p.named p.sign n.level) n.high n.low) where
    abbrev v : Setting
    v = mask_setting p.named p.sign

    chosen : (P : ℕ → Type 0) → P n.high → P n.low → P k
    chosen P hi lo = subst P (sym e) (cond_both (v n.level) n.high n.low P (λ _. hi) (λ _. lo))

    pub child_issued : Issued ns k
    child_issued = chosen (Issued ns) node_fit.high_issued node_fit.low_issued

    pub child_falls : 25 - level_of ns k < 25 - level_of ns h
    child_falls = deeper_falls k (chosen (λ i. n.level < level_of ns i) node_fit.high_deeper node_fit.low_deeper)

    -- It answers there as the node does.
    pub child_same : products_of (meaning ns k) (words_of p) ≡ products_of (meaning ns h) (words_of p)
    child_same =
        sym (masks_are_words (meaning ns k) (meaning_options ns s.formed k) p)
        ∙ ap (λ (i : ℕ). meaning ns i v) e
        ∙ either (v n.level)
        ∙ sym (ap (λ (f : Fun). f v) (meaning_at ns h n s.formed x.outcome))
        ∙ masks_are_words (meaning ns h) (meaning_options ns s.formed h) p
      where
        either : (b : Bool) → meaning ns (cond b n.high n.low) v ≡ cond b (meaning ns n.high v) (meaning ns n.low v)
        either true = refl
        either false = refl

-- A constant answers the same everywhere.
pub constant_answers : (ns : List Node) (h : ℕ) → h < 2 → (p : Product) → eqb h 1 ≡ products_of (meaning ns h) (words_of p)
unfolding products_of
constant_answers ns h lt p = sym (ap (λ (f : Fun). products_of f (words_of p)) (meaning_constant ns h lt))

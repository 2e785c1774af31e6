-- Handles that mean functions of the signs alone, or product sets: which variables their nodes read. Assumes nothing.
use Rattle.std.proofs.Common.{◌≡◌, ℕ, ◌+◌, ◌-◌, ◌*◌, ◌/◌, ◌%◌, ◌<◌, ◌≤◌, ◌⊎◌, List, inl, inr, arith}
use Rattle.std.proofs.lemmas.Bool.{cases_lt, cases_eq}
use Rattle.diagram.specs.declared.Node.{Node}
use Rattle.diagram.specs.Nodes.{Issued, meaning, level_of, node_at, At, WellFormed}
use Rattle.diagram.proofs.Restrictions.{Sides}
use Rattle.diagram.proofs.Tables.{has_node, fit_at, level_at, split_at, split_sides, level_constant, levels_only}
use Rattle.diagram.proofs.Canon.{canonical}
use Rattle.implicant.specs.Variables.{SignsOnly, OptionsOnly, ProductSet, TidyAt}
use Rattle.implicant.proofs.Conditions.{signs_unread}
use Rattle.implicant.proofs.Tidying.{tidy_unread}

-- what a handle means depends on the variables of the options alone
pub meaning_options : (ns : List Node) → WellFormed ns → (h : ℕ) → OptionsOnly 0 (meaning ns h)
meaning_options ns w h = levels_only ns w h

module _ (ns : List Node) (w : WellFormed ns) (h : ℕ) (n : Node) (at : At ns h n) where
  -- what a node's handle means, by its children
  pub sides_at : Sides n.level (meaning ns h) (meaning ns n.low) (meaning ns n.high)
  sides_at = let f = fit_at ns h n w at in split_sides ns n.level h n.low n.high w f.first f.last (split_at ns h n w at)

  pub sides_differ : ¬ (meaning ns n.low ≡ meaning ns n.high)
  sides_differ e = let f = fit_at ns h n w at in f.differ (canonical ns w n.low n.high f.low_issued f.high_issued e)

  -- a function of the signs after the first k options has its node at one of these signs
  pub signs_deep : (k : ℕ) → SignsOnly k (meaning ns h) → 2 * k + 2 ≤ n.level
  signs_deep k g =
      elim (cases_lt n.level (2 * k + 2)) [
        | inl y ↦ absurd (sides_differ (signs_unread sides_at k (λ j le lt e. omega arith) g))
        | inr y ↦ y
      ]

  pub signs_even : (k : ℕ) → SignsOnly k (meaning ns h) → n.level % 2 ≡ 0
  signs_even k g =
      elim (cases_eq (n.level % 2) 0) [
        | inl e ↦ e
        | inr ne ↦ absurd (sides_differ (signs_unread sides_at k (λ j le lt e. ne (omega arith)) g))
      ]

  -- a product set has its node at no sign
  pub tidy_elsewhere : (m : ℕ) → TidyAt m (meaning ns h) → ¬ (n.level ≡ 2 * m + 2)
  tidy_elsewhere m t e = sides_differ (tidy_unread m sides_at e t)

  pub set_odd : ProductSet (meaning ns h) → n.level % 2 ≡ 1
  set_odd t =
      let f = fit_at ns h n w at in
      elim (cases_eq (n.level % 2) 1) [
        | inl e ↦ e
        | inr ne ↦
            let m : ℕ = n.level / 2 - 1 in
            let is : n.level ≡ 2 * m + 2 = omega (arith, f.first, ne) in
            absurd (tidy_elsewhere m (t.each m (omega arith) (omega (arith, f.last))) is)
      ]

pub signs_level : (ns : List Node) → WellFormed ns → (h k : ℕ) → Issued ns h → SignsOnly k (meaning ns h) → (2 * k + 2 ≤ level_of ns h) ⊎ (h < 2)
signs_level ns w h k p g =
    elim (cases_lt h 2) [
      | inl z ↦ inr z
      | inr z ↦ let a = has_node ns h z p in inl (omega (arith, level_at ns h (node_at ns h) a, signs_deep ns w h (node_at ns h) a k g))
    ]

pub level_before : (ns : List Node) → WellFormed ns → (h k : ℕ) → Issued ns h → SignsOnly k (meaning ns h) → k < 12 → 2 * k + 2 ≤ level_of ns h
level_before ns w h k p g lt = elim (signs_level ns w h k p g) [ inl x ↦ x | inr x ↦ omega (arith, level_constant ns h x) ]

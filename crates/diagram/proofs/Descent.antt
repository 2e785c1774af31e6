-- The restrictions of what a handle means are what the handles that it reaches mean. Assumes nothing.
use Rattle.std.proofs.Common.{◌≡◌, ℕ, ◌+◌, ◌≤◌, Bool, true, false, cond, List, [], ◌∷◌, ◌++◌, length, sym, refl, ap, ◌∙◌, subst, inl, inr, arith}
use Rattle.std.proofs.lemmas.Bool.{cases_lt, cases_eq}
use Rattle.diagram.specs.declared.Node.{Node}
use Rattle.diagram.specs.Functions.{Setting, Fun, Constant, restrict, Restriction, NodeOf}
use Rattle.diagram.specs.Nodes.{Issued, meaning, node_at, Fit, WellFormed, Reaches, here, to_low, to_high}
use Rattle.diagram.specs.Counts.{HasHandle}
use Rattle.diagram.specs.Theorems.{NodesReached}
use Rattle.diagram.proofs.Restrictions.{Sides, restriction_self, restriction_trans, restrict_ignored, restrict_choice, low_restriction, high_restriction}
use Rattle.diagram.proofs.Tables.{issued_more, meaning_more, node_more, newest_meaning, newest_level, newest_node, has_node, fit_at, split_at, split_sides, ignores}
use Rattle.diagram.proofs.Canon.{varies_at, two_at}

-- What a node's handle means, by its children.
node_sides : (ns : List Node) (h : ℕ) → WellFormed ns → 2 ≤ h → Issued ns h → Sides (node_at ns h).level (meaning ns h) (meaning ns (node_at ns h).low) (meaning ns (node_at ns h).high)
node_sides ns h w two p =
    let a = has_node ns h two p in
    let f = fit_at ns h _ w a in
    split_sides ns _ h _ _ w f.first f.last (split_at ns h _ w a)

node_fit : (ns : List Node) (h : ℕ) → WellFormed ns → 2 ≤ h → Issued ns h → Fit ns (node_at ns h)
node_fit ns h w two p = fit_at ns h _ w (has_node ns h two p)

pub reach_issued : (ns : List Node) → WellFormed ns → {h k : ℕ} → Issued ns h → Reaches ns h k → Issued ns k
reach_issued ns w p here = p
reach_issued ns w {h} p (to_low two r) = reach_issued ns w (node_fit ns h w two p).low_issued r
reach_issued ns w {h} p (to_high two r) = reach_issued ns w (node_fit ns h w two p).high_issued r

pub reach_restriction : (ns : List Node) → WellFormed ns → {h k : ℕ} → Issued ns h → Reaches ns h k → Restriction (meaning ns h) (meaning ns k)
reach_restriction ns w {h} p here = restriction_self (meaning ns h)
reach_restriction ns w {h} p (to_low two r) = restriction_trans (low_restriction (node_sides ns h w two p)) (reach_restriction ns w (node_fit ns h w two p).low_issued r)
reach_restriction ns w {h} p (to_high two r) = restriction_trans (high_restriction (node_sides ns h w two p)) (reach_restriction ns w (node_fit ns h w two p).high_issued r)

pub reach_more : (more ns : List Node) → WellFormed ns → {h k : ℕ} → Issued ns h → Reaches ns h k → Reaches (more ++ ns) h k
reach_more more ns w p here = here
reach_more more ns w {h} {k} p (to_low two r) =
    to_low two (subst (λ n. Reaches (more ++ ns) n.low k) (sym (node_more more ns h p)) (reach_more more ns w (node_fit ns h w two p).low_issued r))
reach_more more ns w {h} {k} p (to_high two r) =
    to_high two (subst (λ n. Reaches (more ++ ns) n.high k) (sym (node_more more ns h p)) (reach_more more ns w (node_fit ns h w two p).high_issued r))

-- The handle that h reaches by the first j levels of a.
pub record Down (ns : List Node) (h j : ℕ) (a : Setting) : Type 0 where
  pub at : ℕ
  pub issued : Issued ns at
  pub reached : Reaches ns h at
  pub is : meaning ns at ≡ restrict j a (meaning ns h)

down_more : (m : Node) (ns : List Node) (h j : ℕ) (a : Setting) → WellFormed ns → Issued ns h → Down ns h j a → Down (m ∷ ns) h j a
down_more m ns h j a w p r = record {
  at = r.at;
  issued = issued_more (m ∷ []) ns r.at r.issued;
  reached = reach_more (m ∷ []) ns w p r.reached;
  is = meaning_more (m ∷ []) ns r.at r.issued ∙ r.is ∙ ap (restrict j a) (sym (meaning_more (m ∷ []) ns h p));
}

-- The newest node goes to the child that its variable chooses.
down_newest : (m : Node) (ns : List Node) (h j : ℕ) (a : Setting) → Fit ns m → h ≡ length ns + 2 → m.level ≤ j
    → Down (m ∷ ns) m.low j a → Down (m ∷ ns) m.high j a → Down (m ∷ ns) h j a
down_newest m ns h j a f e x lo hi = pick (a m.level) refl
  where
    ms : List Node
    ms = m ∷ ns

    two : 2 ≤ h
    two = omega arith

    value : restrict j a (meaning ms h) ≡ restrict j a (cond (a m.level) (meaning ns m.high) (meaning ns m.low))
    value = ap (restrict j a) (newest_meaning m ns h e) ∙ restrict_choice m.level j a _ _ f.first x

    pick : (b : Bool) → a m.level ≡ b → Down ms h j a
    pick true q = record {
      at = hi.at;
      issued = hi.issued;
      reached = to_high two (subst (λ n. Reaches ms n.high hi.at) (sym (newest_node m ns h e)) hi.reached);
      is = hi.is ∙ ap (restrict j a) (meaning_more (m ∷ []) ns m.high f.high_issued) ∙ sym (value ∙ ap (λ c. restrict j a (cond c (meaning ns m.high) (meaning ns m.low))) q);
    }
    pick false q = record {
      at = lo.at;
      issued = lo.issued;
      reached = to_low two (subst (λ n. Reaches ms n.low lo.at) (sym (newest_node m ns h e)) lo.reached);
      is = lo.is ∙ ap (restrict j a) (meaning_more (m ∷ []) ns m.low f.low_issued) ∙ sym (value ∙ ap (λ c. restrict j a (cond c (meaning ns m.high) (meaning ns m.low))) q);
    }

pub descend : (ns : List Node) → WellFormed ns → (h : ℕ) → Issued ns h → (j : ℕ) (a : Setting) → Down ns h j a
unfolding meaning
descend [] w h p j a = record { at = h; issued = p; reached = here; is = refl }
descend (m ∷ ns) w h p j a =
    let child : (k : ℕ) → Issued ns k → Down (m ∷ ns) k j a = λ k q. down_more m ns k j a w.2 q (descend ns w.2 k q j a) in
    elim (cases_eq h (length ns + 2)) [
      | inl e ↦
          elim (cases_lt j m.level) [
            | inl x ↦ record { at = h; issued = p; reached = here; is = restrict_ignored j a _ (ignores (m ∷ ns) h j w p (omega (arith, newest_level m ns h e, x))) }
            | inr x ↦ down_newest m ns h j a w.0 e x (child m.low w.0.low_issued) (child m.high w.0.high_issued)
          ]
      | inr e ↦ child h (omega (arith, e))
    ]

-- Each restriction of what a handle means has a handle.
pub restriction_handle : (ns : List Node) (h : ℕ) (f g : Fun) → WellFormed ns → Issued ns h → meaning ns h ≡ f → Restriction f g → HasHandle ns g
restriction_handle ns h f g w p e x =
    let d = descend ns w h p x.depth x.setting in
    record { at = d.at; issued = d.issued; is = d.is ∙ ap (restrict x.depth x.setting) e ∙ sym x.is }

pub nodes_reached : NodesReached
nodes_reached ns w h p g = (to, from)
  where
    to : NodeOf (meaning ns h) g → (k : ℕ) × (2 ≤ k) × Reaches ns h k × (meaning ns k ≡ g)
    to x =
        let d = descend ns w h p x.restriction.depth x.restriction.setting in
        let is : meaning ns d.at ≡ g = d.is ∙ sym x.restriction.is in
        (d.at, two_at ns d.at (subst (λ (f : Fun). ¬ Constant f) (sym is) x.varies), d.reached, is)

    from : (k : ℕ) × (2 ≤ k) × Reaches ns h k × (meaning ns k ≡ g) → NodeOf (meaning ns h) g
    from x = record {
      restriction = subst (Restriction (meaning ns h)) x.3 (reach_restriction ns w p x.2);
      varies = subst (λ (f : Fun). ¬ Constant f) x.3 (varies_at ns w x.0 x.1 (reach_issued ns w p x.2));
    }

-- What follows from a table's answers. Assumes nothing.
use Rattle.std.proofs.Common.{◌≡◌, ℕ, ◌+◌, ◌<◌, ◌≤◌, List, [], ◌∷◌, Ok, Err, Result, sym, refl, ap, ◌∙◌, subst, inl, inr, arith}
use Rattle.std.proofs.lemmas.Bool.{cases_lt}
use Rattle.diagram.specs.declared.Node.{Node}
use Rattle.diagram.specs.Functions.{Fun, choice}
use Rattle.diagram.specs.Nodes.{Issued, meaning, level_of, At, Fit, WellFormed, Extends, Split, Stands}
use Rattle.diagram.proofs.Settings.{choice_same}
use Rattle.diagram.proofs.Tables.{node_function, level_constant, level_at, level_most, split_at, split_none, newest_node}
use Rattle.diagram.proofs.Growth.{extends_self}
use Rattle.diagram.proofs.Account.{gives_held, entered_gives, absent_denies}
use Rattle.table.specs.declared.faults.TableFault.{TableFault}
use Rattle.table.specs.Model.{Got, Found, Entered, Inserted}
use Rattle.walk.specs.Outcomes.{Walked}

-- An issued handle without a node is a constant.
pub gotten_none : {N : ℕ} {ns : List Node} {h : ℕ} {e : TableFault} → Issued ns h → Got N ns h (Err e) → h < 2
gotten_none {h = h} p x = elim (cases_lt h 2) [ inl q ↦ q | inr q ↦ absurd (x.outcome.0 q p) ]

-- The two branches at level l, by what getting the handle answered.
pub split_node : {N : ℕ} {ns : List Node} {l h : ℕ} {n : Node} → WellFormed ns → Got N ns h (Ok n) → n.level ≡ l → Split ns l h n.low n.high
split_node {ns = ns} {h = h} {n = n} w x e = subst (λ l. Split ns l h n.low n.high) e (split_at ns h n w x.outcome)

pub split_deeper : {N : ℕ} {ns : List Node} {l h : ℕ} {n : Node} → Issued ns h → l ≤ level_of ns h → Got N ns h (Ok n) → (n.level ≡ l → ⊥) → Split ns l h h h
split_deeper {ns = ns} {l = l} {h = h} {n = n} p q x e = split_none ns l h p (omega (arith, level_at ns h n x.outcome, e))

pub split_constant : {N : ℕ} {ns : List Node} {l h : ℕ} {e : TableFault} → Issued ns h → l < 25 → Got N ns h (Err e) → Split ns l h h h
split_constant {ns = ns} {l = l} {h = h} p q x = split_none ns l h p (omega (arith, level_constant ns h (gotten_none p x)))

-- A walk keeps the nodes that were there, granted or refused.
pub walked_extends : {N l : ℕ} {f : Fun} {a b : List Node} (r : Result ℕ TableFault) → Walked N a l f r b → Extends a b
walked_extends (Ok h) x = x.outcome.grows.extends
walked_extends (Err e) x = x.outcome.denies.grows.extends

-- A node that both sides make needless.
pub same_walked : {N : ℕ} {ns : List Node} {l low high : ℕ} → WellFormed ns → Stands ns (l + 1) low (meaning ns low) → low ≡ high
    → Walked N ns l (choice l (meaning ns low) (meaning ns high)) (Ok low) ns
same_walked {ns = ns} {l = l} {low = low} w x e = record {
  outcome = gives_held w (record { issued = x.issued; level = omega (arith, x.level); value = choice_same l (meaning ns low) ∙ ap (λ z. choice l (meaning ns low) (meaning ns z)) e });
}

-- Sides below a level fit under a node of it.
pub sides_fit : {ns : List Node} {l low high : ℕ} → WellFormed ns → 1 ≤ l → Stands ns (l + 1) low (meaning ns low) → Stands ns (l + 1) high (meaning ns high)
    → (low ≡ high → ⊥) → Fit ns (record { level = l; low = low; high = high })
sides_fit {ns = ns} {l = l} {low = low} w first x y differ = record {
  first = first;
  last = omega (arith, x.level, level_most ns low w);
  differ = differ;
  low_issued = x.issued;
  high_issued = y.issued;
  low_deeper = omega (arith, x.level);
  high_deeper = omega (arith, y.level);
}

-- Inserting a node that fits has the outcome of a walk for the node's function.
module _ (N : ℕ) {ns : List Node} {n : Node} (w : WellFormed ns) (f : Fit ns n) where
  abbrev After : Result ℕ TableFault → List Node → Type 0
  After r new = Walked N ns n.level (node_function ns n) r new

  found : {h : ℕ} {new : List Node} → Found ns n h new → After (Ok h) new
  found {h} x = subst (After (Ok h)) (sym x.kept) (record { outcome = entered_gives ns ns h n w f (extends_self ns) x.at (λ k p q. absurd (omega arith)) })

  entered : {h : ℕ} {new : List Node} → Entered N ns n h new → After (Ok h) new
  entered {h} x =
      let a : At (n ∷ ns) h n = record { issued = omega (arith, x.handle); two = omega (arith, x.handle); is = newest_node n ns h x.handle } in
      subst (After (Ok h)) (sym x.added) (record { outcome = entered_gives ns (n ∷ ns) h n (f, x.absent, w) f (n ∷ [], refl) a (λ k p q. omega (arith, x.handle)) })

  pub inserted : (r : Result ℕ TableFault) (new : List Node) → Inserted N ns n r new → Walked N ns n.level (node_function ns n) r new
  inserted (Ok h) new x = elim x.outcome.1 [ inl y ↦ found y | inr y ↦ entered y ]
  inserted (Err e) new x =
      elim x.outcome [
        | inl y ↦ absurd (y.unfit f)
        | inr y ↦ subst (After (Err e)) (sym y.kept) (record { outcome = record { is = y.is; denies = absent_denies N ns n w f y.full y.absent } })
      ]

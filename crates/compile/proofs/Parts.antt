-- Postfix steps run on a stack of trees: what is on the stack are parts of the tree in the end. Assumes nothing.
use Rattle.std.proofs.Common.{◌≡◌, ℕ, ◌⊎◌, List, [], ◌∷◌, sym, ap, ◌∙◌, subst, inl, inr, ⊎_elim}
use Rattle.diagram.specs.declared.Node.{Node}
use Rattle.diagram.specs.Functions.{Fun, Constant, Restriction}
use Rattle.diagram.specs.Nodes.{Extends}
use Rattle.diagram.specs.Outcomes.{Grants, Denies}
use Rattle.diagram.proofs.Growth.{issued_kept, meaning_kept}
use Rattle.diagram.proofs.Outcome.{grants_varying, denies_varying}
use Rattle.formula.specs.declared.steps.Leaf.{Leaf}
use Rattle.formula.specs.declared.steps.Operator.{Operator}
use Rattle.formula.specs.declared.steps.Step.{Step}
use Rattle.formula.specs.declared.steps.Step.TheVariants.{Load, Negate, Apply}
use Rattle.formula.specs.Grammar.{Tree, leaf, neg, binary, postfix}
use Rattle.formula.specs.Running.{run}
use Rattle.formula.proofs.Values.{run_all, eval_tree}
use Rattle.compile.specs.Trees.{of_tree, Part, whole, negated, left, right, PartNode, PartRestriction, StackRestriction, Mean}

abbrev pub tree_run : List Step → List Tree → List Tree
tree_run ss us = run leaf neg binary ss us

pub tree_run_all : (t : Tree) → tree_run (postfix t) [] ≡ t ∷ []
tree_run_all t = run_all leaf neg binary t ∙ ap (λ u. u ∷ []) (eval_tree t)

pub part_trans : {t u v : Tree} → Part t u → Part u v → Part t v
part_trans whole q = q
part_trans (negated p) q = negated (part_trans p q)
part_trans (left p) q = left (part_trans p q)
part_trans (right p) q = right (part_trans p q)

-- each tree of a stack is a part of t
abbrev pub Parts : Tree → List Tree → Type 0
Parts t [] = Unit {0}
Parts t (u ∷ us) = Part t u × Parts t us

one_part : (t : Tree) (us : List Tree) → us ≡ t ∷ [] → Parts t us
one_part t us e = subst (Parts t) (sym e) (whole, tt)

pub run_parts : (t : Tree) (ss : List Step) (us : List Tree) → tree_run ss us ≡ t ∷ [] → Parts t us
unfolding run
run_parts t [] us e = one_part t us e
run_parts t (Load a ∷ ss) us e = (run_parts t ss (leaf a ∷ us) e).1
run_parts t (Negate ∷ ss) [] e = cc
run_parts t (Negate ∷ ss) (x ∷ us) e = let r = run_parts t ss (neg x ∷ us) e in (part_trans r.0 (negated whole), r.1)
run_parts t (Apply op ∷ ss) [] e = cc
run_parts t (Apply op ∷ ss) (y ∷ []) e = cc
run_parts t (Apply op ∷ ss) (y ∷ (x ∷ us)) e =
    let r = run_parts t ss (binary op x y ∷ us) e in
    (part_trans r.0 (right whole), (part_trans r.0 (left whole), r.1))

-- the restrictions of a stack are among those of the tree
pub stack_within : (t : Tree) (us : List Tree) → Parts t us → (g : Fun) → StackRestriction us g → PartRestriction t g
stack_within t [] ps g s = absurd s
stack_within t (u ∷ us) ps g s = ⊎_elim (λ p. record { part = p.part; of = part_trans ps.0 p.of; restriction = p.restriction }) (λ r. stack_within t us ps.1 g r) s

-- a new tree on the stack adds its own restrictions to those of its operands
pub leaf_split : (a : Leaf) (us : List Tree) (g : Fun) → StackRestriction (leaf a ∷ us) g → StackRestriction us g ⊎ Restriction (of_tree (leaf a)) g
leaf_split a us g s = ⊎_elim (λ p. inr (leaf_only a p.part p.of g p.restriction)) (λ r. inl r) s
  where
    leaf_only : (a : Leaf) (u : Tree) → Part (leaf a) u → (g : Fun) → Restriction (of_tree u) g → Restriction (of_tree (leaf a)) g
    leaf_only a u whole g r = r

pub neg_split : (x : Tree) (us : List Tree) (g : Fun) → StackRestriction (neg x ∷ us) g → StackRestriction (x ∷ us) g ⊎ Restriction (of_tree (neg x)) g
neg_split x us g s = ⊎_elim (λ p. neg_part x p.part p.of g p.restriction) (λ r. inl (inr r)) s
  where
    neg_part : (x u : Tree) → Part (neg x) u → (g : Fun) → Restriction (of_tree u) g → StackRestriction (x ∷ us) g ⊎ Restriction (of_tree (neg x)) g
    neg_part x u whole g r = inr r
    neg_part x u (negated p) g r = inl (inl (record { part = u; of = p; restriction = r }))

pub binary_split : (op : Operator) (x y : Tree) (us : List Tree) (g : Fun) → StackRestriction (binary op x y ∷ us) g → StackRestriction (y ∷ (x ∷ us)) g ⊎ Restriction (of_tree (binary op x y)) g
binary_split op x y us g s = ⊎_elim (λ p. binary_part op x y p.part p.of g p.restriction) (λ r. inl (inr (inr r))) s
  where
    binary_part : (op : Operator) (x y u : Tree) → Part (binary op x y) u → (g : Fun) → Restriction (of_tree u) g → StackRestriction (y ∷ (x ∷ us)) g ⊎ Restriction (of_tree (binary op x y)) g
    binary_part op x y u whole g r = inr r
    binary_part op x y u (left p) g r = inl (inr (inl (record { part = u; of = p; restriction = r })))
    binary_part op x y u (right p) g r = inl (inl (record { part = u; of = p; restriction = r }))

pub leaf_join : (a : Leaf) (us : List Tree) (g : Fun) → StackRestriction us g ⊎ Restriction (of_tree (leaf a)) g → StackRestriction (leaf a ∷ us) g
leaf_join a us g s = ⊎_elim (λ r. inr r) (λ r. inl (record { part = leaf a; of = whole; restriction = r })) s

pub neg_join : (x : Tree) (us : List Tree) (g : Fun) → StackRestriction (x ∷ us) g ⊎ Restriction (of_tree (neg x)) g → StackRestriction (neg x ∷ us) g
neg_join x us g s =
    ⊎_elim
    (λ q. ⊎_elim (λ p. inl (record { part = p.part; of = negated p.of; restriction = p.restriction })) (λ r. inr r) q)
    (λ r. inl (record { part = neg x; of = whole; restriction = r })) s

pub binary_join : (op : Operator) (x y : Tree) (us : List Tree) (g : Fun) → StackRestriction (y ∷ (x ∷ us)) g ⊎ Restriction (of_tree (binary op x y)) g → StackRestriction (binary op x y ∷ us) g
binary_join op x y us g s =
    ⊎_elim
    (λ q. ⊎_elim (λ p. inl (record { part = p.part; of = right p.of; restriction = p.restriction })) (λ z. ⊎_elim (λ p. inl (record { part = p.part; of = left p.of; restriction = p.restriction })) (λ r. inr r) z) q)
    (λ r. inl (record { part = binary op x y; of = whole; restriction = r })) s

-- growth keeps what a stack means
pub mean_kept : (a b : List Node) (hs : List ℕ) (us : List Tree) → Extends a b → Mean a hs us → Mean b hs us
mean_kept a b [] [] e m = tt
mean_kept a b [] (u ∷ us) e m = m
mean_kept a b (h ∷ hs) [] e m = m
mean_kept a b (h ∷ hs) (u ∷ us) e m = (issued_kept e h m.0, meaning_kept e h m.0 ∙ m.1, mean_kept a b hs us e m.2)

-- without the constants
pub part_node : (t : Tree) (g : Fun) → PartRestriction t g → ¬ Constant g → PartNode t g
part_node t g p v = record { part = p.part; of = p.of; node = record { restriction = p.restriction; varies = v } }

pub node_part : (t : Tree) (g : Fun) → PartNode t g → PartRestriction t g
node_part t g p = record { part = p.part; of = p.of; restriction = p.node.restriction }

pub grants_parts : {t : Tree} {old new : List Node} → Grants (PartRestriction t) old new → Grants (PartNode t) old new
grants_parts {t} g = grants_varying (part_node t) (node_part t) g

pub denies_parts : {t : Tree} {limit : ℕ} {old new : List Node} → Denies limit (PartRestriction t) old new → Denies limit (PartNode t) old new
denies_parts {t} d = denies_varying (part_node t) d

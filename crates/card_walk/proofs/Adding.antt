-- Sums made one by one. Assumes nothing.
use Rattle.std.proofs.Common.{◌≡◌, ℕ, ◌⊎◌, List, [], ◌∷◌, ◌++◌, Ok, Err, Result, sym, refl, ap, ◌∙◌, subst, inl, inr, ⊎_elim}
use mathlib.Core.Path.{fun_ext}
use Rattle.std.proofs.Math.Bool.{or_assoc, or-false}
use Rattle.diagram.specs.declared.Node.{Node}
use Rattle.diagram.specs.Functions.{Fun, Constant, Restriction}
use Rattle.diagram.specs.Nodes.{Issued, meaning, WellFormed}
use Rattle.diagram.specs.Outcomes.{Grants, Denies}
use Rattle.diagram.proofs.Growth.{meaning_kept}
use Rattle.diagram.proofs.Outcome.{grows_none, grants_then, denies_then, denies_up, grants_varying, denies_varying, denies_limit}
use Rattle.diagram.proofs.Account.{gives_grants}
use Rattle.table.specs.declared.faults.TableFault.{TableFault}
use Rattle.table.specs.declared.faults.Reason.TheVariants.{Full}
use Rattle.table.specs.Faults.{fault}
use Rattle.formula.specs.Grammar.{Tree}
use Rattle.formula.specs.declared.steps.Operator.TheVariants.{Or}
use Rattle.walk.specs.declared.ops.Op.TheVariants.{Infix}
use Rattle.walk.specs.Ops.{joined}
use Rattle.walk.specs.Outcomes.{Walked}
use Rattle.compile.specs.Trees.{of_tree}
use Rattle.compile.specs.Outcomes.{Compiled}
use Rattle.compile.proofs.Parts.{part_node, node_part}
use Rattle.card_walk.specs.Sums.{never, either, sum_onto, some_of, SumNode, SumRestriction}
use Rattle.card_walk.specs.Outcomes.{SumMade, Summed}

-- the sum is yes where f or some tree is
sum_some : (f : Fun) (ts : List Tree) → sum_onto f ts ≡ either f (some_of ts)
sum_some f [] = fun_ext (λ s. sym (or-false (f s)))
sum_some f (t ∷ ts) = sum_some (either f (of_tree t)) ts ∙ fun_ext (λ s. or_assoc (f s) (of_tree t s) (some_of ts s))

pub sum_is : (ts : List Tree) → sum_onto never ts ≡ some_of ts
sum_is ts = sum_some never ts

-- sums go on
sum_more : (f : Fun) (ts us : List Tree) → sum_onto f (ts ++ us) ≡ sum_onto (sum_onto f ts) us
sum_more f [] us = refl
sum_more f (t ∷ ts) us = sum_more (either f (of_tree t)) ts us

restriction_more : (f : Fun) (ts us : List Tree) (g : Fun) → SumRestriction f ts g ⊎ SumRestriction (sum_onto f ts) us g → SumRestriction f (ts ++ us) g
restriction_more f [] us g x = ⊎_elim (λ z. absurd z) (λ z. z) x
restriction_more f (t ∷ ts) us g (inl (inl x)) = inl x
restriction_more f (t ∷ ts) us g (inl (inr x)) = inr (restriction_more (either f (of_tree t)) ts us g (inl x))
restriction_more f (t ∷ ts) us g (inr x) = inr (restriction_more (either f (of_tree t)) ts us g (inr x))

restriction_split : (f : Fun) (ts us : List Tree) (g : Fun) → SumRestriction f (ts ++ us) g → SumRestriction f ts g ⊎ SumRestriction (sum_onto f ts) us g
restriction_split f [] us g x = inr x
restriction_split f (t ∷ ts) us g (inl x) = inl (inl x)
restriction_split f (t ∷ ts) us g (inr x) = ⊎_elim (λ y. inl (inr y)) (λ y. inr y) (restriction_split (either f (of_tree t)) ts us g x)

grants_as : {P Q : Fun → Type 0} {a b : List Node} → ((g : Fun) → P g → Q g) → ((g : Fun) → Q g → P g) → Grants P a b → Grants Q a b
grants_as up down x = grants_varying (λ g p _. up g p) down x

-- By nodes in place of restrictions: constants make no difference.
sum_node : (f : Fun) (ts : List Tree) (g : Fun) → SumRestriction f ts g → ¬ Constant g → SumNode f ts g
sum_node f [] g x v = x
sum_node f (t ∷ ts) g (inl (inl p)) v = inl (inl (part_node t g p v))
sum_node f (t ∷ ts) g (inl (inr r)) v = inl (inr (record { restriction = r; varies = v }))
sum_node f (t ∷ ts) g (inr x) v = inr (sum_node (either f (of_tree t)) ts g x v)

node_sum : (f : Fun) (ts : List Tree) (g : Fun) → SumNode f ts g → SumRestriction f ts g
node_sum f [] g x = x
node_sum f (t ∷ ts) g (inl (inl p)) = inl (inl (node_part t g p))
node_sum f (t ∷ ts) g (inl (inr n)) = inl (inr n.restriction)
node_sum f (t ∷ ts) g (inr x) = inr (node_sum (either f (of_tree t)) ts g x)

pub grants_sum : (f : Fun) (ts : List Tree) {old new : List Node} → Grants (SumRestriction f ts) old new → Grants (SumNode f ts) old new
grants_sum f ts x = grants_varying (sum_node f ts) (node_sum f ts) x

pub denies_sum : {limit : ℕ} (f : Fun) (ts : List Tree) {old new : List Node} → Denies limit (SumRestriction f ts) old new → Denies limit (SumNode f ts) old new
denies_sum {limit} f ts x = denies_varying (sum_node f ts) x

pub sum_varies : (f : Fun) (ts : List Tree) (g : Fun) → SumNode f ts g → ¬ Constant g
sum_varies f [] g x = absurd x
sum_varies f (t ∷ ts) g (inl (inl p)) = p.node.varies
sum_varies f (t ∷ ts) g (inl (inr n)) = n.varies
sum_varies f (t ∷ ts) g (inr x) = sum_varies (either f (of_tree t)) ts g x

-- One formula more.
module _ (N : ℕ) (old : List Node) (sum : ℕ) (held : Issued old sum) (t : Tree) where
  abbrev f : Fun
  f = meaning old sum

  pub part_refused : {e : TableFault} {mid : List Node} → Compiled N old t (Err e) mid → Summed N (meaning old sum) old (t ∷ []) (Err e) mid
  part_refused w = record { outcome = record { is = w.outcome.is; denies = denies_up (λ g p. inl (inl p)) w.outcome.denies } }

  module _ {h : ℕ} {mid : List Node} (built : Compiled N old t (Ok h) mid) where
    either_is : joined (Infix Or) (meaning mid sum) (meaning mid h) ≡ either f (of_tree t)
    either_is =
        let up = built.outcome.grants.grows.extends in
        ap (λ (u : Fun). joined (Infix Or) u (meaning mid h)) (meaning_kept up sum held) ∙ ap (λ (u : Fun). joined (Infix Or) f u) built.outcome.means

    pub added : {M l : ℕ} (r : Result ℕ TableFault) {new : List Node} → M ≡ N → Walked M mid l (joined (Infix Or) (meaning mid sum) (meaning mid h)) r new → Summed N (meaning old sum) old (t ∷ []) r new
    added {M} {l} (Ok k) {new} m w =
        let give = w.outcome in
        let both = grants_then built.outcome.grants (subst (λ (u : Fun). Grants (Restriction u) mid new) either_is (gives_grants give)) in
        record { outcome = record { issued = give.stands.issued; means = give.stands.value ∙ either_is; grants = grants_as (λ g x. inl x) (λ g x. ⊎_elim (λ y. y) (λ z. absurd z) x) both } }
    added {M} {l} (Err e) {new} m w =
        let deny = subst (λ (u : Fun). Denies N (Restriction u) mid new) either_is (denies_limit m w.outcome.denies) in
        record { outcome = record { is = w.outcome.is ∙ ap (fault Full) m; denies = denies_up (λ g x. inl x) (denies_then built.outcome.grants deny) } }

-- No formula, and then one by one.
pub summed_none : (ns : List Node) (sum : ℕ) → WellFormed ns → Issued ns sum → SumMade (meaning ns sum) ns [] sum ns
summed_none ns sum w i = record { issued = i; means = refl; grants = record { grows = grows_none _ ns w; all = λ g x. absurd x } }

module _ (f : Fun) (old : List Node) (ts us : List Tree) {sum : ℕ} {mid : List Node} (done : SumMade f old ts sum mid) where
  pub summed_more : {h : ℕ} {new : List Node} → SumMade (meaning mid sum) mid us h new → SumMade f old (ts ++ us) h new
  summed_more {h} {new} x =
      let next = subst (λ (u : Fun). Grants (SumRestriction u us) mid new) done.means x.grants in
      record {
        issued = x.issued;
        means = x.means ∙ ap (λ (u : Fun). sum_onto u us) done.means ∙ sym (sum_more f ts us);
        grants = grants_as (restriction_more f ts us) (restriction_split f ts us) (grants_then done.grants next);
      }

  pub refused_more : {limit : ℕ} {new : List Node} → Denies limit (SumRestriction (meaning mid sum) us) mid new → Denies limit (SumRestriction f (ts ++ us)) old new
  refused_more {limit} {new} x =
      let next = subst (λ (u : Fun). Denies limit (SumRestriction u us) mid new) done.means x in
      denies_up (restriction_more f ts us) (denies_then done.grants next)

-- what refuses the first of some trees refuses them all
pub refused_rest : (f : Fun) (ts us : List Tree) {limit : ℕ} {a b : List Node} → Denies limit (SumRestriction f ts) a b → Denies limit (SumRestriction f (ts ++ us)) a b
refused_rest f ts us x = denies_up (λ g y. restriction_more f ts us g (inl y)) x

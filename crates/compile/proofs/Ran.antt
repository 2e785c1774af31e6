-- The loop over a formula's steps: what the stack holds between two of them. Assumes nothing.
use Rattle.std.proofs.Common.{◌≡◌, ℕ, suc, ◌+◌, ◌<◌, ◌≤◌, ◌⊎◌, List, [], ◌∷◌, ◌++◌, length, get_or, drop, Ok, Err, sym, refl, ap, ◌∙◌, subst, inl, ⊎_elim, arith, drop_of_length-le, reverse}
use mathlib.Core.HLevel.{⊥_prop}
use mathlib.Core.Logic.{∥∥₁_elim}
use native.Mathlib.Bridge.{le_prop}
use Rattle.std.proofs.lemmas.List.{drop_more, reverse-append, length-reverse}
use Rattle.diagram.specs.declared.Node.{Node}
use Rattle.diagram.specs.Functions.{Fun, Restriction}
use Rattle.diagram.specs.Nodes.{WellFormed}
use Rattle.diagram.specs.Outcomes.{Grants}
use Rattle.diagram.proofs.Outcome.{grows_none, grants_then, denies_then, grants_varying, denies_up}
use Rattle.diagram.proofs.Account.{gives_grants}
use Rattle.table.specs.declared.faults.TableFault.{TableFault}
use Rattle.formula.specs.declared.steps.Step.{Step}
use Rattle.formula.specs.declared.steps.Step.TheVariants.{Load, Negate, Apply}
use Rattle.formula.specs.declared.stored.Formula.{Formula}
use Rattle.formula.specs.Answer.{steps_of}
use Rattle.formula.specs.Grammar.{Tree, postfix}
use Rattle.formula.specs.Running.{run, Enough}
use Rattle.walk.specs.Outcomes.{Walked}
use Rattle.compile.specs.Trees.{of_tree, StackRestriction, Mean}
use Rattle.compile.specs.Steps.{top, under}
use Rattle.compile.specs.Outcomes.{Compiled}
use Rattle.compile.proofs.Parts.{tree_run, tree_run_all, run_parts, stack_within, leaf_split, neg_split, binary_split, leaf_join, neg_join, binary_join, mean_kept}

-- the operands of a step are there
abbrev Has : Step → List Tree → Type 0
Has (Load a) us = Unit {0}
Has Negate [] = ⊥
Has Negate (x ∷ us) = Unit {0}
Has (Apply op) [] = ⊥
Has (Apply op) (y ∷ []) = ⊥
Has (Apply op) (y ∷ (x ∷ us)) = Unit {0}

has_prop : (s : Step) (us : List Tree) → IsProp (Has s us)
has_prop (Load a) us = λ x y. refl
has_prop Negate [] = ⊥_prop
has_prop Negate (u ∷ us) = λ x y. refl
has_prop (Apply op) [] = ⊥_prop
has_prop (Apply op) (v ∷ []) = ⊥_prop
has_prop (Apply op) (v ∷ (u ∷ us)) = λ x y. refl

has : (s : Step) (ss : List Step) (us : List Tree) (t : Tree) → tree_run (s ∷ ss) us ≡ t ∷ [] → Has s us
unfolding run
has (Load a) ss us t e = tt
has Negate ss [] t e = cc
has Negate ss (x ∷ us) t e = tt
has (Apply op) ss [] t e = cc
has (Apply op) ss (y ∷ []) t e = cc
has (Apply op) ss (y ∷ (x ∷ us)) t e = tt

run_step : (s : Step) (ss : List Step) (us : List Tree) → Has s us → tree_run (s ∷ ss) us ≡ tree_run ss (top s us ∷ under s us)
unfolding run
run_step (Load a) ss us p = refl
run_step Negate ss [] p = absurd p
run_step Negate ss (x ∷ us) p = refl
run_step (Apply op) ss [] p = absurd p
run_step (Apply op) ss (y ∷ []) p = absurd p
run_step (Apply op) ss (y ∷ (x ∷ us)) p = refl

step_split : (s : Step) (us : List Tree) → Has s us → (g : Fun) → StackRestriction (top s us ∷ under s us) g → StackRestriction us g ⊎ Restriction (of_tree (top s us)) g
step_split (Load a) us p g r = leaf_split a us g r
step_split Negate [] p g r = absurd p
step_split Negate (x ∷ us) p g r = neg_split x us g r
step_split (Apply op) [] p g r = absurd p
step_split (Apply op) (y ∷ []) p g r = absurd p
step_split (Apply op) (y ∷ (x ∷ us)) p g r = binary_split op x y us g r

step_join : (s : Step) (us : List Tree) → Has s us → (g : Fun) → StackRestriction us g ⊎ Restriction (of_tree (top s us)) g → StackRestriction (top s us ∷ under s us) g
step_join (Load a) us p g r = leaf_join a us g r
step_join Negate [] p g r = absurd p
step_join Negate (x ∷ us) p g r = neg_join x us g r
step_join (Apply op) [] p g r = absurd p
step_join (Apply op) (y ∷ []) p g r = absurd p
step_join (Apply op) (y ∷ (x ∷ us)) p g r = binary_join op x y us g r

-- as many handles as trees
mean_many : (ns : List Node) (hs : List ℕ) (us : List Tree) → Mean ns hs us → length hs ≡ length us
mean_many ns [] [] m = refl
mean_many ns [] (u ∷ us) m = absurd m
mean_many ns (h ∷ hs) [] m = absurd m
mean_many ns (h ∷ hs) (u ∷ us) m = ap suc (mean_many ns hs us m.2)

enough : (s : Step) (h : ℕ) (us : List Tree) → Has s us → h ≡ length us → h < 4096 → Enough s h
enough (Load a) h us p e w = w
enough Negate h [] p e w = absurd p
enough Negate h (x ∷ us) p e w = (omega arith, omega arith)
enough (Apply op) h [] p e w = absurd p
enough (Apply op) h (y ∷ []) p e w = absurd p
enough (Apply op) h (y ∷ (x ∷ us)) p e w = (omega arith, omega arith)

-- after i of the steps, with the nodes `old` before the first: the stack's trees, what the steps that are left make of them, and that they are made
pub record Ran (steps : List Step) (i : ℕ) (old now : List Node) (hs : List ℕ) : Type 0 where
  pub trees : List Tree
  pub mean : Mean now (reverse hs) trees
  pub left : tree_run (drop i steps) trees ≡ tree_run steps []
  pub grants : Grants (StackRestriction trees) old now
  pub low : length hs ≤ i

pub ran_none : (steps : List Step) (ns : List Node) (hs : List ℕ) → WellFormed ns → hs ≡ [] → Ran steps 0 ns ns hs
ran_none steps ns hs w e = record {
  trees = [];
  mean = subst (λ l. Mean ns (reverse l) []) (sym e) tt;
  left = refl;
  grants = record { grows = grows_none _ ns w; all = λ g p. absurd p };
  low = omega (arith, ap length e);
}

module _ {steps : List Step} {i : ℕ} {old now : List Node} {hs : List ℕ} (r : Ran steps i old now hs) (f : Formula) (is : steps ≡ steps_of f) where
  many : length hs ≡ length r.trees
  many = sym (length-reverse hs) ∙ mean_many now (reverse hs) r.trees r.mean

  -- one more step, s
  module _ (d : Step) (lt : i < length steps) where
    abbrev s : Step
    s = get_or steps i d

    next : drop i steps ≡ s ∷ drop (i + 1) steps
    next = drop_more steps i d lt

    ready : Has s r.trees
    ready =
        ∥∥₁_elim f.spelled (has_prop s r.trees)
        (λ t. has s (drop (i + 1) steps) r.trees t.1 (ap (λ l. tree_run l r.trees) (sym next) ∙ r.left ∙ ap (λ l. tree_run l []) (is ∙ t.3) ∙ tree_run_all t.1))

    after : tree_run (drop (i + 1) steps) (top s r.trees ∷ under s r.trees) ≡ tree_run steps []
    after = sym (run_step s (drop (i + 1) steps) r.trees ready) ∙ ap (λ l. tree_run l r.trees) (sym next) ∙ r.left

    pub step_enough : Enough (get_or steps i d) (length hs)
    step_enough = enough s (length hs) r.trees ready many (omega (arith, r.low, ap length is, f.few))

    pub step_refused : {M N : ℕ} {new : List Node} {err : TableFault} (t : Tree) → steps_of f ≡ postfix t → M ≡ N → Walked M now 0 (of_tree (top (get_or steps i d) r.trees)) (Err err) new → Compiled N old t (Err err) new
    step_refused {M} {N} {new} {err} t e m w =
        let parts = run_parts t (drop (i + 1) steps) (top s r.trees ∷ under s r.trees) (after ∙ ap (λ l. tree_run l []) (is ∙ e) ∙ tree_run_all t) in
        let d = denies_up (λ g x. stack_within t (top s r.trees ∷ under s r.trees) parts g (step_join s r.trees ready g x)) (denies_then r.grants w.outcome.denies) in
        subst (λ n. Compiled n old t (Err err) new) m (record { outcome = record { is = w.outcome.is; denies = d } })

    pub step_ran : {N h : ℕ} {new : List Node} {ys : List ℕ} (xs : List ℕ) → Walked N now 0 (of_tree (top (get_or steps i d) r.trees)) (Ok h) new → Mean now (reverse xs) (under (get_or steps i d) r.trees) → length xs ≤ length hs → ys ≡ xs ++ h ∷ [] → Ran steps (i + 1) old new ys
    step_ran {N} {h} {new} {ys} xs w below shrinks pushed =
        let g = w.outcome in
        let turned : reverse ys ≡ h ∷ reverse xs = ap reverse pushed ∙ reverse-append xs (h ∷ []) in
        let longer : length ys ≡ suc (length xs) = sym (length-reverse ys) ∙ ap length turned ∙ ap suc (length-reverse xs) in
        let kept = mean_kept now new (reverse xs) (under s r.trees) g.grows.extends below in
        record {
          trees = top s r.trees ∷ under s r.trees;
          mean = subst (λ l. Mean new l (top s r.trees ∷ under s r.trees)) (sym turned) (g.stands.issued, g.stands.value, kept);
          left = after;
          grants = grants_varying (λ f x _. step_join s r.trees ready f x) (λ f x. step_split s r.trees ready f x) (grants_then r.grants (gives_grants g));
          low = omega (arith, r.low);
        }

  -- no step is left
  module _ (le : length steps ≤ i) where
    all_run : (t : Tree) → steps_of f ≡ postfix t → r.trees ≡ t ∷ []
    unfolding run
    all_run t e = sym (ap (λ l. tree_run l r.trees) (drop_of_length-le steps le)) ∙ r.left ∙ ap (λ l. tree_run l []) (is ∙ e) ∙ tree_run_all t

    pub some_left : 0 < length hs
    some_left = ∥∥₁_elim f.spelled le_prop (λ t. omega (arith, many, ap length (all_run t.1 t.3)))

    pub ran_done : {N h : ℕ} (xs : List ℕ) → hs ≡ xs ++ h ∷ [] → (t : Tree) → steps_of f ≡ postfix t → Compiled N old t (Ok h) now
    ran_done {N} {h} xs last t e =
        let m = subst (λ us. Mean now (h ∷ reverse xs) us) (all_run t e) (subst (λ l. Mean now l r.trees) (ap reverse last ∙ reverse-append xs (h ∷ [])) r.mean) in
        record {
          outcome = record {
            issued = m.0;
            means = m.1;
            grants = grants_varying (λ g p _. ⊎_elim (λ x. x) absurd p) (λ g p. inl p) (subst (λ us. Grants (StackRestriction us) old now) (all_run t e) r.grants);
          };
        }

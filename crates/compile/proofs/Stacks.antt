-- One step over a stack of handles: what its walk makes. Assumes nothing.
use Rattle.std.proofs.Common.{◌≡◌, ℕ, ◌*◌, ◌<◌, ◌≤◌, Bool, true, false, cond, not, List, [], ◌∷◌, ◌++◌, Ok, Err, Some, Option, Result, sym, refl, ap, ◌∙◌, subst, arith, reverse}
use mathlib.Core.Path.{fun_ext}
use mathlib.Core.Bool.{beq}
use mir.Val.{bool_byte}
use Rattle.std.specs.Option.{option_to_list}
use Rattle.std.proofs.lemmas.List.{reverse-append}
use Rattle.diagram.specs.declared.Node.{Node}
use Rattle.diagram.specs.Functions.{Fun, choice}
use Rattle.diagram.specs.Nodes.{meaning, WellFormed, Stands}
use Rattle.diagram.proofs.Tables.{level_constant, meaning_constant}
use Rattle.diagram.proofs.Account.{gives_held}
use Rattle.table.specs.declared.faults.TableFault.{TableFault}
use Rattle.formula.specs.declared.steps.Leaf.TheVariants.{Constant}
use Rattle.formula.specs.declared.steps.Leaf.TheVariants as leaf'
use Rattle.formula.specs.declared.steps.Operator.{Operator}
use Rattle.formula.specs.declared.steps.Operator.TheVariants.{Xor}
use Rattle.formula.specs.declared.steps.Step.{Step}
use Rattle.formula.specs.declared.steps.Step.TheVariants.{Negate, Apply}
use Rattle.formula.specs.Grammar.{Tree, leaf}
use Rattle.formula.specs.Meaning.{truth}
use Rattle.walk.specs.declared.ops.Op.TheVariants.{Infix}
use Rattle.walk.specs.Ops.{joined}
use Rattle.walk.specs.Outcomes.{Walked}
use Rattle.compile.specs.Trees.{of_tree, Mean}
use Rattle.compile.specs.Steps.{top}

-- a walk for a function that is shown equal, at whatever level
pub walked_as : {N l : ℕ} {old new : List Node} {f g : Fun} (r : Result ℕ TableFault) → f ≡ g → Walked N old l f r new → Walked N old 0 g r new
walked_as {N} {l} {old} {new} {f} r e w = subst (λ (u : Fun). Walked N old 0 u r new) e (first r w)
  where
    first : (r : Result ℕ TableFault) → Walked N old l f r new → Walked N old 0 f r new
    first (Ok h) x = record { outcome = record { grows = x.outcome.grows; stands = record { issued = x.outcome.stands.issued; level = omega arith; value = x.outcome.stands.value } } }
    first (Err e) x = record { outcome = x.outcome }

-- handles 0 and 1 stand below every level of a variable
pub constant_stands : (ns : List Node) (l h : ℕ) → h < 2 → l ≤ 25 → Stands ns l h (meaning ns h)
constant_stands ns l h c d = record { issued = omega arith; level = omega (arith, level_constant ns h c); value = refl }

pub constant_walked : (N : ℕ) (ns : List Node) (b : Bool) → WellFormed ns → Walked N ns 0 (of_tree (leaf (Constant b))) (Ok (bool_byte b)) ns
unfolding of_tree truth
constant_walked N ns true w = walked_as {l = 0} _ (meaning_constant ns 1 (omega arith)) (record { outcome = gives_held w (constant_stands ns 0 1 (omega arith) (omega arith)) })
constant_walked N ns false w = walked_as {l = 0} _ (meaning_constant ns 0 (omega arith)) (record { outcome = gives_held w (constant_stands ns 0 0 (omega arith) (omega arith)) })

pub option_function : (ns : List Node) (k : ℕ) → choice (2 * k) (meaning ns 0) (meaning ns 1) ≡ of_tree (leaf (leaf'.Option k))
unfolding of_tree truth
option_function ns k =
    ap (λ f. choice (2 * k) f (meaning ns 1)) (meaning_constant ns 0 (omega arith)) ∙ ap (λ f. choice (2 * k) (λ _. false) f) (meaning_constant ns 1 (omega arith))
    ∙ fun_ext (λ s. elim (s (2 * k)) as (λ b. cond b true false ≡ b) [ true ↦ refl | false ↦ refl ])

-- a function that differs from yes is the negation
not_true_is : (b : Bool) → not (beq b true) ≡ not b
not_true_is true = refl
not_true_is false = refl

-- x is the newest handle
negated_function : (ns : List Node) (x : ℕ) (hs : List ℕ) (us : List Tree) → Mean ns (x ∷ hs) us → joined (Infix Xor) (meaning ns x) (meaning ns 1) ≡ of_tree (top Negate us)
unfolding of_tree truth
negated_function ns x hs [] m = absurd m
negated_function ns x hs (u ∷ us) m =
    ap (λ (f : Fun). joined (Infix Xor) (meaning ns x) f) (meaning_constant ns 1 (omega arith))
    ∙ fun_ext (λ s. not_true_is (meaning ns x s) ∙ ap (λ (f : Fun). not (f s)) m.1)

-- y is the newest handle, and x the one before
joined_function : (op : Operator) (ns : List Node) (y x : ℕ) (hs : List ℕ) (us : List Tree) → Mean ns (y ∷ (x ∷ hs)) us → joined (Infix op) (meaning ns x) (meaning ns y) ≡ of_tree (top (Apply op) us)
unfolding of_tree truth
joined_function op ns y x hs [] m = absurd m
joined_function op ns y x hs (v ∷ []) m = absurd m.2
joined_function op ns y x hs (v ∷ (u ∷ us)) m = ap (λ (f : Fun). joined (Infix op) f (meaning ns y)) m.2.1 ∙ ap (λ (f : Fun). joined (Infix op) (of_tree u) f) m.1

-- the same with the newest handle last, as the code has them
module _ (ns : List Node) (us : List Tree) {hs : List ℕ} (m : Mean ns (reverse hs) us) (xs : List ℕ) (x : ℕ) where
  turned : hs ≡ xs ++ x ∷ [] → Mean ns (x ∷ reverse xs) us
  turned e = subst (λ l. Mean ns l us) (ap reverse e ∙ reverse-append xs (x ∷ [])) m

  negate_function : hs ≡ xs ++ x ∷ [] → joined (Infix Xor) (meaning ns x) (meaning ns 1) ≡ of_tree (top Negate us)
  negate_function e = negated_function ns x (reverse xs) us (turned e)

  apply_function : (op : Operator) (y : ℕ) → hs ≡ (xs ++ x ∷ []) ++ y ∷ [] → joined (Infix op) (meaning ns x) (meaning ns y) ≡ of_tree (top (Apply op) us)
  apply_function op y e =
      joined_function op ns y x (reverse xs) us (subst (λ l. Mean ns l us) (ap reverse e ∙ reverse-append (xs ++ x ∷ []) (y ∷ []) ∙ ap (λ l. y ∷ l) (reverse-append xs (x ∷ []))) m)

-- the walks of the two steps that pop operands, as `pop` and `unwrap` tell of them
pub negated_walked : {N l : ℕ} {ns new : List Node} {r : Result ℕ TableFault} {s : Step} {hs : List ℕ} (xs : List ℕ) {o : Option ℕ} {x : ℕ} (us : List Tree)
    → Walked N ns l (joined (Infix Xor) (meaning ns x) (meaning ns 1)) r new → s ≡ Negate → hs ≡ xs ++ option_to_list o → o ≡ Some x → Mean ns (reverse hs) us → Walked N ns 0 (of_tree (top s us)) r new
negated_walked {ns = ns} {r = r} xs {x = x} us w is popped some m =
    walked_as r (negate_function ns us m xs x (popped ∙ ap (λ p. xs ++ option_to_list p) some) ∙ ap (λ t. of_tree (top t us)) (sym is)) w

pub applied_walked : {N l : ℕ} {ns new : List Node} {r : Result ℕ TableFault} {s : Step} {op : Operator} {hs ys : List ℕ} (xs : List ℕ) {o p : Option ℕ} {x y : ℕ} (us : List Tree)
    → Walked N ns l (joined (Infix op) (meaning ns x) (meaning ns y)) r new → s ≡ Apply op → hs ≡ ys ++ option_to_list o → o ≡ Some y → ys ≡ xs ++ option_to_list p → p ≡ Some x → Mean ns (reverse hs) us → Walked N ns 0 (of_tree (top s us)) r new
applied_walked {ns = ns} {r = r} {op = op} {ys = ys} xs {x = x} {y = y} us w is last some before other m =
    let popped = last ∙ ap (λ p. ys ++ option_to_list p) some ∙ ap (λ l. l ++ y ∷ []) (before ∙ ap (λ p. xs ++ option_to_list p) other) in
    walked_as r (apply_function ns us m xs x op y popped ∙ ap (λ t. of_tree (top t us)) (sym is)) w

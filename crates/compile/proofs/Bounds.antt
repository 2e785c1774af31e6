-- The options of a formula are the twelve. Assumes nothing.
use Rattle.std.proofs.Common.{◌≡◌, ℕ, ◌+◌, ◌-◌, ◌<◌, ◌≤◌, Bool, true, false, cond, eqb, leb, List, [], ◌++◌, length, get_or, sym, refl, ◌∙◌, subst, arith, leb-true}
use mathlib.Core.Logic.{∥∥₁_elim}
use mathlib.Core.HLevel.{×_prop}
use native.Mathlib.Bridge.{le_prop}
use Rattle.std.specs.List.{All}
use Rattle.std.proofs.lemmas.List.Elements.{All-nil, All-cons, All-push, All-append, All-get_or}
use Rattle.formula.specs.declared.steps.Leaf.{Leaf}
use Rattle.formula.specs.declared.steps.Leaf.TheVariants.{Constant, Option}
use Rattle.formula.specs.declared.steps.Operator.{Operator}
use Rattle.formula.specs.declared.steps.Operator.TheVariants.{And, Xor, Or, Implies, Iff}
use Rattle.formula.specs.declared.steps.Step.{Step}
use Rattle.formula.specs.declared.steps.Step.TheVariants.{Load, Negate, Apply}
use Rattle.formula.specs.declared.steps.Token.{Token}
use Rattle.formula.specs.declared.steps.Token.TheVariants.{Operand, Negation, Infix, Opening, Closing, Foreign}
use Rattle.formula.specs.declared.stored.Formula.{Formula}
use Rattle.formula.specs.Answer.{steps_of}
use Rattle.formula.specs.Notation.{notation}
use Rattle.formula.specs.Grammar.{Tree, binary, postfix, Derives, single, negated, bracket, looser, chained, once}
use Rattle.compile.specs.Steps.{Bounded}

-- an option's number, and 1 for any other token
abbrev number : Token → ℕ
number (Operand (Constant v)) = 1
number (Operand (Option k)) = k
number Negation = 1
number (Infix k op) = 1
number Opening = 1
number Closing = 1
number Foreign = 1

record Numbered (κ : Token) : Type 0 where
  first : 1 ≤ number κ
  last : number κ ≤ 12

plain : (κ : Token) → number κ ≡ 1 → Numbered κ
plain κ e = record { first = omega (arith, e); last = omega (arith, e) }

either : (x : Bool) (a b : Token) → Numbered a → Numbered b → Numbered (cond x a b)
either true a b p q = p
either false a b p q = q

-- a character that is no option comes before the rest of the notation
before : (x : Bool) (a b : Token) → number a ≡ 1 → Numbered b → Numbered (cond x a b)
before x a b e q = either x a b (plain a e) q

letter : (b : ℕ) (x : Bool) → leb b 108 ≡ x → Numbered (cond x (Operand (Option (b - 97 + 1))) Foreign)
letter b true e = record { first = omega arith; last = omega (arith, leb-true b 108 e) }
letter b false e = plain Foreign refl

all_numbered : (b : ℕ) → Numbered (notation b)
all_numbered b =
    before (eqb b 38) (Infix 5 And) _ refl
    (before (eqb b 94) (Infix 4 Xor) _ refl
    (before (eqb b 124) (Infix 3 Or) _ refl
    (before (eqb b 62) (Infix 2 Implies) _ refl
    (before (eqb b 61) (Infix 1 Iff) _ refl
    (before (eqb b 33) Negation _ refl
    (before (eqb b 40) Opening _ refl
    (before (eqb b 41) Closing _ refl
    (before (eqb b 48) (Operand (Constant false)) _ refl
    (before (eqb b 49) (Operand (Constant true)) _ refl
    (either (leb 97 b) _ Foreign (letter b (leb b 108) refl) (plain Foreign refl)))))))))))

pub leaf_bounded : (b : ℕ) (a : Leaf) → notation b ≡ Operand a → Bounded (Load a)
leaf_bounded b (Constant v) e = tt
leaf_bounded b (Option k) e = let n = subst Numbered e (all_numbered b) in (n.first, n.last)

-- every step of a formula is bounded
bounded_binary : (op : Operator) (l r : Tree) → All Bounded (postfix l) → All Bounded (postfix r) → All Bounded (postfix (binary op l r))
unfolding postfix
bounded_binary op l r p q = All-push Bounded (postfix l ++ postfix r) (Apply op) (All-append Bounded (postfix l) (postfix r) p q) tt

all_bounded : {n k : ℕ} {text : List ℕ} {t : Tree} → Derives n k text t → All Bounded (postfix t)
unfolding postfix
all_bounded (single {b = b} {a = a} e) = All-cons Bounded (Load a) [] (leaf_bounded b a e) (All-nil Bounded)
all_bounded (negated {t = t} e d) = All-push Bounded (postfix t) Negate (all_bounded d) tt
all_bounded (bracket a b e f m d) = all_bounded d
all_bounded (looser d) = all_bounded d
all_bounded (chained b {op = op} {l = l} {r = r} e k d f) = bounded_binary op l r (all_bounded d) (all_bounded f)
all_bounded (once b {op = op} {l = l} {r = r} e k d f) = bounded_binary op l r (all_bounded d) (all_bounded f)

bounded_prop : (s : Step) → IsProp (Bounded s)
bounded_prop (Load (Constant b)) = λ x y. refl
bounded_prop (Load (Option k)) = ×_prop le_prop le_prop
bounded_prop Negate = λ x y. refl
bounded_prop (Apply op) = λ x y. refl

pub step_bounded : (f : Formula) {steps : List Step} (i : ℕ) (d : Step) → steps ≡ steps_of f → i < length steps → Bounded (get_or steps i d)
step_bounded f {steps} i d is lt = ∥∥₁_elim f.spelled (bounded_prop (get_or steps i d)) (λ t. All-get_or Bounded steps i d lt (subst (All Bounded) (sym (is ∙ t.3)) (all_bounded t.2)))

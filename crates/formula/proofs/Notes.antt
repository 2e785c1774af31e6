-- What every byte of the notation keeps to. Assumes nothing.
use Rattle.std.proofs.Common.{◌≡◌, ℕ, ◌+◌, ◌-◌, ◌≤◌, Bool, true, false, cond, eqb, leb, subst, arith}
use Rattle.formula.specs.declared.steps.Leaf.TheVariants.{Constant, Option}
use Rattle.formula.specs.declared.steps.Operator.{Operator}
use Rattle.formula.specs.declared.steps.Operator.TheVariants.{And, Xor, Or, Implies, Iff}
use Rattle.formula.specs.declared.steps.Token.{Token}
use Rattle.formula.specs.declared.steps.Token.TheVariants.{Operand, Negation, Infix, Opening, Closing, Foreign}
use Rattle.formula.specs.Notation.{notation}

abbrev Fine : Token → Type 0
Fine (Operand a) = Unit {0}
Fine Negation = Unit {0}
Fine (Infix k s) = (1 ≤ k) × (k ≤ 5)
Fine Opening = Unit {0}
Fine Closing = Unit {0}
Fine Foreign = Unit {0}

record Fit (κ : Token) : Type 0 where
  is : Fine κ

cond_fit : (x : Bool) (a b : Token) → Fit a → Fit b → Fit (cond x a b)
cond_fit true a b f g = f
cond_fit false a b f g = g

infix_fit : (k : ℕ) (s : Operator) → 1 ≤ k → k ≤ 5 → Fit (Infix k s)
infix_fit k s h j = record { is = (h, j) }

all_fit : (b : ℕ) → Fit (notation b)
all_fit b =
    cond_fit (eqb b 38) (Infix 5 And) _ (infix_fit 5 And (omega arith) (omega arith))
    (cond_fit (eqb b 94) (Infix 4 Xor) _ (infix_fit 4 Xor (omega arith) (omega arith))
    (cond_fit (eqb b 124) (Infix 3 Or) _ (infix_fit 3 Or (omega arith) (omega arith))
    (cond_fit (eqb b 62) (Infix 2 Implies) _ (infix_fit 2 Implies (omega arith) (omega arith))
    (cond_fit (eqb b 61) (Infix 1 Iff) _ (infix_fit 1 Iff (omega arith) (omega arith))
    (cond_fit (eqb b 33) Negation _ (record { is = tt })
    (cond_fit (eqb b 40) Opening _ (record { is = tt })
    (cond_fit (eqb b 41) Closing _ (record { is = tt })
    (cond_fit (eqb b 48) (Operand (Constant false)) _ (record { is = tt })
    (cond_fit (eqb b 49) (Operand (Constant true)) _ (record { is = tt })
    (cond_fit (leb 97 b) _ Foreign (cond_fit (leb b 108) (Operand (Option (b - 97 + 1))) Foreign (record { is = tt }) (record { is = tt })) (record { is = tt })))))))))))

pub strength_bounds : (b k : ℕ) (s : Operator) → notation b ≡ Infix k s → (1 ≤ k) × (k ≤ 5)
strength_bounds b k s e = (subst Fit e (all_fit b)).is

-- The 22 characters and what each stands for.
use Rattle.std.specs.Prelude.{◌≡◌, ℕ, ◌+◌, ◌-◌, true, false, cond, ◌==◌, nat_le}
use Rattle.formula.specs.declared.steps.Leaf.TheVariants.{Constant, Option}
use Rattle.formula.specs.declared.steps.Operator.{Operator}
use Rattle.formula.specs.declared.steps.Operator.TheVariants.{And, Xor, Or, Implies, Iff}
use Rattle.formula.specs.declared.steps.Step.{Step}
use Rattle.formula.specs.declared.steps.Step.TheVariants.{Load, Negate, Apply}
use Rattle.formula.specs.declared.steps.Token.{Token}
use Rattle.formula.specs.declared.steps.Token.TheVariants.{Operand, Negation, Infix, Opening, Closing, Foreign}

-- `& ^ | > =` with their binding strengths, `!`, the brackets, `0`, `1`, and the letters a to l
abbrev pub notation : ℕ → Token
notation b =
    cond (b == 38) (Infix 5 And)
    (cond (b == 94) (Infix 4 Xor)
    (cond (b == 124) (Infix 3 Or)
    (cond (b == 62) (Infix 2 Implies)
    (cond (b == 61) (Infix 1 Iff)
    (cond (b == 33) Negation
    (cond (b == 40) Opening
    (cond (b == 41) Closing
    (cond (b == 48) (Operand (Constant false))
    (cond (b == 49) (Operand (Constant true))
    (cond (nat_le 97 b) (cond (nat_le b 108) (Operand (Option (b - 97 + 1))) Foreign) Foreign))))))))))

-- from the tightest to the loosest
abbrev pub strength : Operator → ℕ
strength And = 5
strength Xor = 4
strength Or = 3
strength Implies = 2
strength Iff = 1

-- the character b stands for a step
abbrev pub Shows : ℕ → Step → Type 0
Shows b (Load a) = notation b ≡ Operand a
Shows b Negate = notation b ≡ Negation
Shows b (Apply op) = notation b ≡ Infix (strength op) op

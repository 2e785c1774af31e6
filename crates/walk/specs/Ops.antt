-- What the operators answer, and the functions that the walks make of those of their operands.
use Rattle.std.specs.Prelude.{ℕ, Bool, not, ◌&&◌}
use Rattle.diagram.specs.Functions.{Fun, put}
use Rattle.formula.specs.Meaning.{combine}
use Rattle.walk.specs.declared.ops.Op.{Op}
use Rattle.walk.specs.declared.ops.Op.TheVariants.{Infix, AndNot}

abbrev pub answer : Op → Bool → Bool → Bool
answer (Infix operator) a b = combine operator a b
answer AndNot a b = a && not b

-- Two functions joined, answer by answer.
abbrev pub joined : Op → Fun → Fun → Fun
joined op f g s = answer op (f s) (g s)

-- f with the variable of level l set to b.
abbrev pub cofactor : ℕ → Bool → Fun → Fun
cofactor l b f s = f (put l b s)

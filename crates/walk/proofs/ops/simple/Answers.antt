use Rattle.std.proofs.Common.{ℕ, Option, sym, subst, rules}
use Rattle.walk.specs.Shortcuts.{Simple}
use Rattle.walk.proofs.Shortened.{simple_constant, simple_rest}
use Rattle.walk.proofs.ops.simple.Goals as goal

pub returns-then-a-b : goal.returns-then-a-b
returns-then-a-b c = simple_constant c.args.a c.args.b c.args.h (search rules)

pub returns : goal.returns
returns c = subst (λ (r : Option ℕ). Simple c.args.a c.args.b c.args.h r) (sym c.then_some.ensures) (simple_rest c.args.a c.args.b c.args.h c.if-a-b.false)

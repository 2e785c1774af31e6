use Rattle.std.proofs.Common.{[], ◌++◌, ◌-◌, arith}
use Rattle.decimal.proofs.Writing.{puts_none, puts_two, puts_as}
use Rattle.product.specs.Masks.{literal}
use Rattle.product.proofs.Lettering.{literal_next, literal_room, letters_all}
use Rattle.product.proofs.Sealed.{letters_by_bits}
use Rattle.product.proofs.spelling.put_literals.Goals as goal

pub loop-j-init : goal.loop-j-init
loop-j-init c = ([], letters_by_bits c.args.product, puts_none c.args.output.now)

pub put_literal-requires-clause-room : goal.put_literal-requires-clause-room
put_literal-requires-clause-room c =
    let i = c.loop-j.invariant in
    omega (arith, literal_room _ _ _ i.0 _ i.1 (omega arith) (omega arith), i.2.put.value, i.2.long, c.requires)

pub loop-j-preserved : goal.loop-j-preserved
loop-j-preserved c =
    let p = c.args.product in
    let i = c.loop-j.invariant in
    (i.0 ++ literal p.named p.sign (c.loop-j.j - 1), literal_next _ _ _ i.0 _ i.1 (omega arith) (omega arith), puts_two i.2 c.put_literal.ensures)

pub returns : goal.returns
returns c = let i = c.loop-j.invariant in puts_as (letters_all _ _ _ i.0 _ i.1 (omega arith)) i.2

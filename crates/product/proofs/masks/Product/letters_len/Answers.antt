use Rattle.std.proofs.Common.{arith}
use Rattle.product.proofs.Sealed.{letters_by_ones}
use Rattle.product.proofs.masks.Product.letters_len.Goals as goal

pub overflow_sub-result : goal.overflow_sub-result
overflow_sub-result c = omega (arith, c.length.ensures.count, letters_by_ones c.args.self)

pub returns : goal.returns
returns c = record {
  value = omega (arith, c.length.ensures.count, letters_by_ones c.args.self);
  few = omega (arith, c.length.ensures.few);
}

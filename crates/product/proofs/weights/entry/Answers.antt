use Rattle.std.proofs.Common.{eqb→eq}
use Rattle.product.specs.Weights.{weight_of, right}
use Rattle.product.proofs.Table.{at}
use Rattle.product.proofs.weights.entry.Goals as goal

pub returns : goal.returns
unfolding weight_of
returns c = eqb→eq _ _ (at right c.args.table.now c.requires.rule c.args.mask c.requires.long)

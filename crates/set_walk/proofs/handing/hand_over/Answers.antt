use Rattle.std.proofs.Common.{[], List, ◌++◌, subst, arith}
use Rattle.product.specs.Words.{Words}
use Rattle.diagram.specs.Nodes.{meaning}
use Rattle.diagram.proofs.Tables.{level_least}
use Rattle.set_walk.proofs.Walking.{handed_all}
use Rattle.set_walk.proofs.handing.hand_over.Goals as goal

pub walk-requires : goal.walk-requires
walk-requires g c =
    let t = c.args.table.now in
    record { issued = c.requires; level = omega (arith, c.new.ensures.gone, level_least (g.T.NodeTable.nodes t) c.args.set (g.met.T.NodeTable.sound t).formed) }

pub returns : goal.returns
returns g c =
    let f = meaning (g.T.NodeTable.nodes c.args.table.now) c.args.set in
    let old = c.args.receiver.now in
    let after = λ (start : _) (ps : List (Words 12)) (fed : g.R.Receiver.fed start old ps).
    subst (λ (qs : List (Words 12)). g.R.Receiver.fed start c.walk.new.receiver (ps ++ qs)) (handed_all c.new.result f c.new.ensures) (c.walk.ensures start ps fed) in
    record { all = after old [] (g.met.R.Receiver.begins old); after = after }

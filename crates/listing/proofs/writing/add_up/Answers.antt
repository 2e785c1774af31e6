use Rattle.diagram.specs.Nodes.{meaning}
use Rattle.implicant.specs.Lists.{listed}
use Rattle.implicant.specs.Variables.{products_of}
use Rattle.implicant.proofs.Ordering.{listed_once}
use Rattle.listing.specs.Counts.{alone_of}
use Rattle.listing.proofs.Receiving.{sized_none}
use Rattle.listing.proofs.Finishing.{measured}
use Rattle.listing.proofs.writing.add_up.Goals as goal

pub returns : goal.returns
returns g c =
    let products = products_of (meaning (g.T.NodeTable.nodes c.args.table.now) c.args.set) in
    let marked = alone_of c.args.counter.now.counts in
    let none = c.default.ensures in
    measured marked (listed 12 products) c.hand_over.new.receiver.totals (listed_once 12 products).1 (c.hand_over.ensures.all.1 (sized_none marked c.default.result none.0 none.1.0 none.1.1))

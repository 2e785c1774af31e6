use Rattle.product.specs.Products.{words_of}
use Rattle.listing.proofs.Essentials.{counted_more}
use Rattle.listing.proofs.receivers.CounterReceiver.take.Goals as goal

pub returns : goal.returns
returns c = λ start ps fed begun. counted_more ps (words_of c.args.product) c.args.self.now.counts c.add.new.self.counts (fed begun) c.add.ensures

use Rattle.std.proofs.Common.{◌≡◌, Bool, ap, ◌∙◌, subst}
use Rattle.product.specs.Products.{words_of}
use Rattle.listing.specs.Counts.{alone_of}
use Rattle.listing.specs.Received.{Grown}
use Rattle.listing.proofs.Receiving.{sized_more}
use Rattle.listing.proofs.receivers.SizerReceiver.take.Goals as goal

pub returns : goal.returns
returns c = λ start ps fed.
    let p = words_of c.args.product in
    let marked = alone_of start.counter.now.counts in
    let is : c.is_essential-marked.result ≡ marked p = c.is_essential-marked.ensures ∙ ap (λ z. alone_of z.now.counts p) fed.0 in
    let grown = subst (λ (b : Bool). Grown c.row_len.result b c.args.self.now.totals c.add.new.self) is c.add.ensures in
    (fed.0, λ begun. sized_more marked ps p (fed.1 begun) (c.row_len.ensures (marked p)) grown)

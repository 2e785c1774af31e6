use Rattle.std.proofs.Common.{◌≡◌, Bool, ap, ◌∙◌, subst, arith}
use Rattle.decimal.specs.Outputs.{Puts}
use Rattle.product.specs.Products.{words_of}
use Rattle.listing.specs.Counts.{alone_of}
use Rattle.listing.specs.Listing.{row}
use Rattle.listing.proofs.Receiving.{begun_more, begun_past}
use Rattle.listing.proofs.receivers.WriterReceiver.take.Goals as goal

pub returns-then-room-row_len : goal.returns-then-room-row_len
returns-then-room-row_len c = λ start ps fed.
    let p = words_of c.args.product in
    let marked = alone_of start.counter.now.counts in
    (fed.0, fed.1, begun_past marked ps p fed.2 (omega (arith, c.if-room-row_len.true, c.room.ensures, c.row_len.ensures (marked p))))

pub returns : goal.returns
returns c = λ start ps fed.
    let p = words_of c.args.product in
    let marked = alone_of start.counter.now.counts in
    let is : c.is_essential-marked.result ≡ marked p = c.is_essential-marked.ensures ∙ ap (λ z. alone_of z.now.counts p) fed.0 in
    (fed.0, fed.1, begun_more marked ps p fed.2 (subst (λ (b : Bool). Puts (row p b) c.args.self.now.output.now c.put_row.new.output) is c.put_row.ensures))

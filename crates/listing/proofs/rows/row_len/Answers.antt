use Rattle.std.proofs.Common.{arith}
use Rattle.product.specs.Products.{words_of}
use Rattle.listing.proofs.Rowing.{field_length, row_length}
use Rattle.listing.proofs.rows.row_len.Goals as goal

pub returns : goal.returns
returns c =
    let k = c.number.result in
    let s = c.length.result in
    λ y. omega (arith, row_length (words_of c.args.product) y k s c.number.ensures.value c.length.ensures.value, field_length k, field_length s, c.digits.ensures.count, c.digits-2.ensures.count, c.letters_len.ensures.value)

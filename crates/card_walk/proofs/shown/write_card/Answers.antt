use Rattle.std.proofs.Common.{◌-◌, length, Err, refl, ap, ◌∙◌, arith, rules}
use borrow.Rule.Slice.PartMut.{same_len_mid}
use Rattle.std.proofs.lemmas.Result.{err_from_is_err_and}
use Rattle.card_walk.proofs.Showing.{card_refused, head_fits, card_written}
use Rattle.card_walk.proofs.shown.write_card.Goals as goal

pub returns-in_err-written : goal.returns-in_err-written
returns-in_err-written g c =
    let p = err_from_is_err_and c.from_residual.result c.from_residual.ensures.1 in
    card_refused c.args.title.now c.args.out.now _ c.min-from.result c.min-from.ensures c.in_err-written.field-0.0 _ _ _ (p.1 ∙ ap Err p.2) c.in_err-written.ensures refl

pub put_heading-requires : goal.put_heading-requires
put_heading-requires g c =
    let p = c.requires.primes in
    let from = c.min-from.result in
    let old = c.args.out.now in
    let fits = head_fits c.args.title.now old _ from c.min-from.ensures p.0 p.1 c.in_ok-written.written _ c.in_ok-written.ensures in
    omega (arith, fits, c.new.ensures.start, ap length c.new.ensures.bytes, same_len_mid from (length old - from) old c.write_list.new.out c.write_list.auto.out)

pub returns : goal.returns
returns g c =
    let p = c.requires.primes in
    card_written c.args.title.now c.args.out.now _ c.min-from.result c.min-from.ensures p.0 p.1 c.in_ok-written.written _ c.in_ok-written.ensures c.new.ensures.start c.new.ensures.bytes c.put_heading.ensures (search rules)

use Rattle.std.proofs.Common.{arith}
use Rattle.listing.proofs.Rowing.{field_length, last_length}
use Rattle.listing.proofs.totals.Totals.last_len.Goals as goal

pub returns-clause-count : goal.returns-clause-count
returns-clause-count c =
    let t = c.args.self in
    omega (arith, last_length t.primes t.essential, field_length t.primes, c.digits.ensures.count, c.digits-2.ensures.count)

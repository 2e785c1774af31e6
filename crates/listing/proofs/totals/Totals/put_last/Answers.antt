use Rattle.decimal.proofs.Writing.{puts_two, puts_as}
use Rattle.listing.proofs.Rowing.{last_is}
use Rattle.listing.proofs.totals.Totals.put_last.Goals as goal

pub returns : goal.returns
returns c = puts_as (last_is c.args.self.primes c.args.self.essential) (puts_two (puts_two (puts_two c.bytes.ensures c.put_field.ensures) c.decimal.ensures) c.byte.ensures)

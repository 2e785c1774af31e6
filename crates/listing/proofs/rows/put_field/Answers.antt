use Rattle.decimal.proofs.Writing.{puts_two, puts_as}
use Rattle.listing.proofs.Rowing.{field_is}
use Rattle.listing.proofs.rows.put_field.Goals as goal

pub returns : goal.returns
returns c = puts_as (field_is c.args.n) (puts_two c.decimal.ensures c.byte.ensures)

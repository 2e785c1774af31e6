use Rattle.table.proofs.Outcomes.{insert_decided, get_decided, insert_again}
use Rattle.table.proofs.decided.outcomes_are_decided.Goals as goal

pub returns : goal.returns
returns c = record { insert = insert_decided; get = get_decided; again = insert_again }

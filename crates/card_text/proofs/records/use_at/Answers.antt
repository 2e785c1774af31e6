use Rattle.card_text.specs.Grammar.{use_row}
use Rattle.card_text.proofs.records.use_at.Goals as goal

pub returns-in_err-record : goal.returns-in_err-record
returns-in_err-record c = rw c.from_residual.ensures (λ formula more b. c.in_err-record.ensures (use_row formula) more b)

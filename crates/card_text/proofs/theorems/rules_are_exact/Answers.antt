use Rattle.card_text.proofs.Exactly.{one_card, card_kept, one_fault}
use Rattle.card_text.proofs.theorems.rules_are_exact.Goals as goal

pub returns : goal.returns
returns c = record { card = one_card; kept = card_kept; fault = one_fault }

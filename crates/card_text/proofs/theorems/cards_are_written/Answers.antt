use Rattle.card_text.proofs.Layouts.{card_written, written_card}
use Rattle.card_text.proofs.theorems.cards_are_written.Goals as goal

pub returns : goal.returns
returns c = record { is = card_written; all = written_card }

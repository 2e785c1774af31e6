use Rattle.std.proofs.Common.{◌-◌, List, length}
use Rattle.card_text.specs.Grammar.{Row}
use Rattle.card_text.proofs.Walk.{Arrived}
use Rattle.card_text.proofs.reader.read_card.Given as goal

abbrev pub invariant-loop-at : goal.invariant-loop-at
invariant-loop-at l = (rows : List Row) × Arrived l.text l.at l.seen rows

abbrev pub decreases-loop-at : goal.decreases-loop-at
decreases-loop-at l = length l.text - l.at

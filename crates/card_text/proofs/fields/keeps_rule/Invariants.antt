use Rattle.std.proofs.Common.{take}
use Rattle.std.specs.List.{AllByRecursion}
use Rattle.card_text.specs.Card.{Plain}
use Rattle.card_text.proofs.fields.keeps_rule.Given as goal

abbrev pub invariant-loop-b : goal.invariant-loop-b
invariant-loop-b l = AllByRecursion Plain (take l.b-index l.bytes)

-- The numbers and places of a card's faults.
use Rattle.std.specs.Prelude.{ℕ}
use Rattle.card_text.specs.Faults.{text_number, text_place}
use Rattle.engine.specs.declared.card_faults.CardFault.{CardFault}
use Rattle.engine.specs.declared.card_faults.CardFault.TheVariants.{Text, Graph, ShortOutput}
use Rattle.engine.specs.Faults.{graph_number, graph_place}

abbrev pub card_number : CardFault → ℕ
card_number (Text e) = text_number e
card_number (Graph e) = graph_number e
card_number ShortOutput = 15

abbrev pub card_place : CardFault → ℕ
card_place (Text e) = text_place e
card_place (Graph e) = graph_place e
card_place ShortOutput = 0

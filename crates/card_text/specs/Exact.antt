-- The rules decide every text in one way. That each is decided is what reading it shows.
use Rattle.std.specs.Prelude.{◌≡◌, ℕ, List}
use Rattle.card_text.specs.Grammar.{Row}
use Rattle.card_text.specs.Card.{IsCard}
use Rattle.card_text.specs.Faults.{Refused}
use Rattle.card_text.specs.declared.faults.TextFault.{TextFault}

-- a text is one card at most
abbrev pub OneCard : Type 0
OneCard = (text : List ℕ) (rows others : List Row) → IsCard text rows → IsCard text others → rows ≡ others

-- a card is not refused
abbrev pub CardKept : Type 0
CardKept = (text : List ℕ) (rows : List Row) (fault : TextFault) → IsCard text rows → Refused text fault → ⊥

-- a text is refused for one fault, at one place
abbrev pub OneFault : Type 0
OneFault = (text : List ℕ) (fault other : TextFault) → Refused text fault → Refused text other → fault ≡ other

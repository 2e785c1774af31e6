-- What showing a card's text answers, over a table of size N, and the nodes and the output then.
use Rattle.std.specs.Prelude.{◌≡◌, ℕ, ◌⊎◌, List, Err, Result}
use Rattle.diagram.specs.declared.Node.{Node}
use Rattle.formula.specs.Grammar.{Tree}
use Rattle.implicant.specs.Variables.{condition_of}
use Rattle.card_text.specs.declared.faults.TextFault.{TextFault}
use Rattle.card_text.specs.Grammar.{Row}
use Rattle.card_text.specs.Card.{IsCard, formulas, card_title}
use Rattle.card_text.specs.Faults.{Refused}
use Rattle.card_walk.specs.Sums.{TreesOf, some_of}
use Rattle.card_walk.specs.Shown.{IsShown}
use Rattle.engine.specs.declared.card_faults.CardFault.{CardFault}
use Rattle.engine.specs.declared.card_faults.CardFault.TheVariants.{Text}
use Rattle.engine.specs.Works.{shown}
use Rattle.engine.specs.Lists.{Writing}

-- the text is a card: its CARD record and the list of its condition, with the working nodes of reading and listing it as one set
pub record Showing (N : ℕ) (text : List ℕ) (old : List Node) (before : List ℕ) (r : Result ℕ CardFault) (new : List Node) (after : List ℕ) : Type 0 where
  pub rows : List Row
  pub card : IsCard text rows
  pub trees : List Tree
  pub are : TreesOf (formulas rows) trees
  pub writing : Writing N (shown trees) (IsShown (card_title rows) (condition_of (some_of trees))) old before r new after

-- the text is none; its fault is carried whole, and nothing changed
pub record Unshown (text : List ℕ) (old : List Node) (before : List ℕ) (r : Result ℕ CardFault) (new : List Node) (after : List ℕ) : Type 0 where
  pub fault : TextFault
  pub refused : Refused text fault
  pub is : r ≡ Err (Text fault)
  pub nodes : new ≡ old
  pub output : after ≡ before

pub record ShowOut (N : ℕ) (text : List ℕ) (old : List Node) (before : List ℕ) (r : Result ℕ CardFault) (new : List Node) (after : List ℕ) : Type 0 where
  pub outcome : Showing N text old before r new after ⊎ Unshown text old before r new after

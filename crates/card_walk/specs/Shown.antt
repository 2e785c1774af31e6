-- What is shown of a card: its CARD record and its list.
use Rattle.std.specs.Prelude.{◌≡◌, ℕ, List, [], ◌∷◌, ◌++◌, Result}
use Rattle.diagram.specs.Functions.{Fun}
use Rattle.implicant.specs.Implicants.{Condition}
use Rattle.implicant.specs.Variables.{ArePrimes}
use Rattle.card_text.specs.Grammar.{card_row, spell}
use Rattle.listing.specs.declared.faults.ListFault.{ListFault}
use Rattle.listing.specs.Listing.{IsList}
use Rattle.listing.specs.Outcome.{Writing}

-- the CARD record of a title, ended by a line feed (10)
unfoldable pub heading : List ℕ → List ℕ
heading title = spell (card_row title) ++ 10 ∷ []

-- the bytes are the CARD record of the title, and then the list of f
pub record IsShown (title : List ℕ) (f : Condition 12) (bytes : List ℕ) : Type 0 where
  pub rows : List ℕ
  pub list : IsList f rows
  pub are : bytes ≡ heading title ++ rows

-- the outcome of writing them, for the condition whose primes are the set g
pub record CardWritten (title : List ℕ) (g : Fun) (r : Result ℕ ListFault) (old new : List ℕ) : Type 0 where
  pub bytes : List ℕ
  pub shows : (f : Condition 12) → ArePrimes 12 0 f g → IsShown title f bytes
  pub outcome : Writing bytes r old new

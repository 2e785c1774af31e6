-- The records of a card, and how each is written.
use Rattle.std.specs.Prelude.{◌≡◌, ℕ, List, ◌∷◌, ◌++◌, codes, ◌≢◌}
use Rattle.std.specs.List.{AllByRecursion}

-- a record by what its fields hold: a title; a letter and a name; a formula; nothing
pub data Row : Type 0 where
  card_row : List ℕ → Row
  opt_row : ℕ → List ℕ → Row
  use_row : List ℕ → Row
  end_row : Row

-- the record as it stands in the text, without its line feed; 44 is the comma
abbrev pub spell : Row → List ℕ
spell (card_row title) = codes "CARD,1," ++ title
spell (opt_row letter name) = codes "OPT," ++ letter ∷ 44 ∷ name
spell (use_row formula) = codes "USE," ++ formula
spell end_row = codes "END"

-- none of the bytes is a line feed
abbrev pub NoFeed : List ℕ → Type 0
NoFeed bytes = AllByRecursion (λ b. b ≢ 10) bytes

-- the text begins with the record and its line feed, and `more` stands behind them
pub record Begins (text : List ℕ) (row : Row) (more : List ℕ) : Type 0 where
  pub line : text ≡ spell row ++ 10 ∷ more
  pub whole : NoFeed (spell row)

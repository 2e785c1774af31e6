-- A card as it is written: from its title, names and formulas, in the order of the text.
use Rattle.std.specs.Prelude.{◌≡◌, ℕ, ◌+◌, ◌<◌, ◌≤◌, List, [], ◌∷◌, ◌++◌, length}
use Rattle.std.specs.List.{AllByRecursion}
use Rattle.card_text.specs.Grammar.{Row, card_row, opt_row, use_row, end_row, spell}
use Rattle.card_text.specs.Card.{Within, Fresh, IsFormula, AllGiven, IsCard, card_title, option_names, formulas}

-- a record with its line feed
abbrev pub line : Row → List ℕ
line row = spell row ++ 10 ∷ []

-- OPT records with these names, and letters from this one on
abbrev pub opt_lines : ℕ → List (List ℕ) → List ℕ
opt_lines letter [] = []
opt_lines letter (name ∷ others) = line (opt_row letter name) ++ opt_lines (letter + 1) others

-- USE records with these formulas
abbrev pub use_lines : List (List ℕ) → List ℕ
use_lines [] = []
use_lines (formula ∷ others) = line (use_row formula) ++ use_lines others

-- names that keep their rule, each unlike the earlier ones and those before it
abbrev pub Named : List (List ℕ) → List (List ℕ) → Type 0
Named earlier [] = Unit {0}
Named earlier (name ∷ others) = Within 1 20 name × Fresh earlier name × Named (earlier ++ name ∷ []) others

-- a formula over the first k options
pub record Usable (k : ℕ) (formula : List ℕ) : Type 0 where
  pub reads : IsFormula formula
  pub given : AllGiven k formula

-- the text is the card of this title, these names and these formulas
pub record Written (text : List ℕ) (title : List ℕ) (names fs : List (List ℕ)) : Type 0 where
  pub short : length text ≤ 4096
  pub holds : text ≡ line (card_row title) ++ (opt_lines 97 names ++ (use_lines fs ++ line end_row))
  pub titled : Within 0 40 title
  pub few : length names ≤ 12
  pub named : Named [] names
  pub some : 0 < length fs
  pub meant : AllByRecursion (Usable (length names)) fs

-- every card is written so
abbrev pub CardsAreWritten : Type 0
CardsAreWritten = (text : List ℕ) (rows : List Row) → IsCard text rows → Written text (card_title rows) (option_names rows) (formulas rows)

-- what is written so is a card with that title, those names and those formulas
abbrev pub WrittenCard : Type 0
WrittenCard = (text : List ℕ) (title : List ℕ) (names fs : List (List ℕ)) → Written text title names fs → (rows : List Row) × IsCard text rows × (card_title rows ≡ title) × (option_names rows ≡ names) × (formulas rows ≡ fs)

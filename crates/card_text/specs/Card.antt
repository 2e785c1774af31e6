-- Which texts are cards. Rows are listed the newest first, so that every definition recurses on them.
use Rattle.std.specs.Prelude.{◌≡◌, ℕ, ◌+◌, ◌<◌, ◌≤◌, ◌⊎◌, List, [], ◌∷◌, ◌++◌, length, ◌≢◌}
use Rattle.std.specs.List.{AllByRecursion}
use Rattle.formula.specs.Grammar.{Tree, Derives}
use Rattle.card_text.specs.Grammar.{Row, card_row, opt_row, use_row, end_row, spell, NoFeed, Begins}
use Rattle.card_text.specs.declared.state.Stage.{Stage}
use Rattle.card_text.specs.declared.state.Stage.TheVariants.{Start, Options, Uses, Done}

-- the text of the rows, each ended by a line feed
abbrev pub spelled : List Row → List ℕ
spelled [] = []
spelled (row ∷ rows) = spelled rows ++ (spell row ++ 10 ∷ [])

-- the names, one more where the row is an OPT
abbrev pub add_name : List (List ℕ) → Row → List (List ℕ)
add_name names (card_row title) = names
add_name names (opt_row letter name) = names ++ name ∷ []
add_name names (use_row formula) = names
add_name names end_row = names

-- the names of the options, in the order of the text
abbrev pub option_names : List Row → List (List ℕ)
option_names [] = []
option_names (row ∷ rows) = add_name (option_names rows) row

-- the formulas, one more where the row is a USE
abbrev pub add_formula : List (List ℕ) → Row → List (List ℕ)
add_formula formulas (card_row title) = formulas
add_formula formulas (opt_row letter name) = formulas
add_formula formulas (use_row formula) = formulas ++ formula ∷ []
add_formula formulas end_row = formulas

-- the formulas, in the order of the text
abbrev pub formulas : List Row → List (List ℕ)
formulas [] = []
formulas (row ∷ rows) = add_formula (formulas rows) row

-- the title, another where the row is a CARD
abbrev pub add_title : List ℕ → Row → List ℕ
add_title was (card_row title) = title
add_title was (opt_row letter name) = was
add_title was (use_row formula) = was
add_title was end_row = was

-- the title of the card
abbrev pub card_title : List Row → List ℕ
card_title [] = []
card_title (row ∷ rows) = add_title (card_title rows) row

-- a mark that moves on at CARD and OPT, and stays at USE and END
abbrev pub mark : {X : Type 0} → X → Row → X → X
mark was (card_row title) here = here
mark was (opt_row letter name) here = here
mark was (use_row formula) here = was
mark was end_row here = was

-- the rows before the first USE
abbrev pub front_rows : List Row → List Row
front_rows [] = []
front_rows (row ∷ rows) = mark (front_rows rows) row (row ∷ rows)

-- how far a card has come with the row
abbrev pub stage_of : Row → Stage
stage_of (card_row title) = Options
stage_of (opt_row letter name) = Options
stage_of (use_row formula) = Uses
stage_of end_row = Done

-- how far a card has come with the rows
abbrev pub stage_after : List Row → Stage
stage_after [] = Start
stage_after (row ∷ rows) = stage_of row

-- the order, with k options so far: CARD; then OPT with the letters from a (97) on, twelve at most, or none; then one or
-- more USE; then END
abbrev pub Fits : Stage → ℕ → Row → Type 0
Fits s k (card_row title) = s ≡ Start
Fits s k (opt_row letter name) = (s ≡ Options) × (k < 12) × (letter ≡ 97 + k)
Fits s k (use_row formula) = (s ≡ Options) ⊎ (s ≡ Uses)
Fits s k end_row = s ≡ Uses

-- a byte that titles and names may hold: from blank to tilde, and no comma
pub record Plain (b : ℕ) : Type 0 where
  pub low : 32 ≤ b
  pub high : b ≤ 126
  pub whole : b ≡ 44 → ⊥

-- bytes of a title or a name, with the limits of its length
pub record Within (least most : ℕ) (bytes : List ℕ) : Type 0 where
  pub long : least ≤ length bytes
  pub short : length bytes ≤ most
  pub plain : AllByRecursion Plain bytes

-- the name repeats no earlier one
abbrev pub Fresh : List (List ℕ) → List ℕ → Type 0
Fresh earlier name = AllByRecursion (λ other. other ≢ name) earlier

-- titles have 0 to 40 bytes; names have 1 to 20 and differ from those before
abbrev pub Ruled : List (List ℕ) → Row → Type 0
Ruled names (card_row title) = Within 0 40 title
Ruled names (opt_row letter name) = Within 1 20 name × Fresh names name
Ruled names (use_row formula) = Unit {0}
Ruled names end_row = Unit {0}

-- the bytes are a formula
pub record IsFormula (bytes : List ℕ) : Type 0 where
  pub tree : Tree
  pub derived : Derives 32 1 bytes tree

-- a letter of the notation (up to l, 108) that none of the first k options has
abbrev pub Loose : ℕ → ℕ → Type 0
Loose k b = (97 + k ≤ b) × (b ≤ 108)

-- every letter is one of the first k options
abbrev pub AllGiven : ℕ → List ℕ → Type 0
AllGiven k formula = AllByRecursion (λ b. Loose k b → ⊥) formula

-- a USE has a formula over the options of the card
abbrev pub Meant : List (List ℕ) → Row → Type 0
Meant names (card_row title) = Unit {0}
Meant names (opt_row letter name) = Unit {0}
Meant names (use_row formula) = IsFormula formula × AllGiven (length names) formula
Meant names end_row = Unit {0}

-- a record without fault, where the card has come to stage s with these names
pub record Sound (s : Stage) (names : List (List ℕ)) (row : Row) : Type 0 where
  pub fits : Fits s (length names) row
  pub ruled : Ruled names row
  pub meant : Meant names row

-- each row is without fault behind those before it
abbrev pub Good : List Row → Type 0
Good [] = Unit {0}
Good (row ∷ rows) = Good rows × NoFeed (spell row) × Sound (stage_after rows) (option_names rows) row

-- the text is the card with these rows
pub record IsCard (text : List ℕ) (rows : List Row) : Type 0 where
  pub short : length text ≤ 4096
  pub holds : text ≡ spelled rows
  pub good : Good rows
  pub ended : stage_after rows ≡ Done

-- the end of a card: USE records with these formulas, then END
abbrev pub Tail : List (List ℕ) → List ℕ → Type 0
Tail [] rest = rest ≡ spell end_row ++ 10 ∷ []
Tail (formula ∷ others) rest = (more : List ℕ) × Begins rest (use_row formula) more × Tail others more

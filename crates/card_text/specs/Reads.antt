-- What reading a record, or a card, answers.
use Rattle.std.specs.Prelude.{◌≡◌, ℕ, ◌+◌, ◌<◌, ◌≤◌, List, length, drop, Option, Some, None}
use Rattle.card_text.specs.Grammar.{Row, card_row, opt_row, use_row, end_row, Begins}
use Rattle.card_text.specs.Card.{IsCard, spelled, option_names, formulas, card_title, front_rows, Tail}
use Rattle.card_text.specs.declared.records.Record.{Record}
use Rattle.card_text.specs.declared.records.Record.TheVariants as record'
use Rattle.card_text.specs.declared.records.Found.{Found}
use Rattle.card_text.specs.declared.records.Part.{Part}
use Rattle.card_text.specs.declared.records.Use.{Use}
use Rattle.card_text.specs.declared.records.Uses.{Uses}
use Rattle.card_text.specs.declared.reader.Outline.{Outline}

-- the row that a record is
abbrev pub row_of : Record → Row
row_of (record'.Card title) = card_row title.bytes.now
row_of (record'.Opt letter name) = opt_row letter name.bytes.now
row_of (record'.Use formula) = use_row formula.bytes.now
row_of record'.End = end_row

-- the places of a record's parts, where the record begins at `at`
abbrev pub Placed : ℕ → Record → Type 0
Placed at (record'.Card title) = title.at ≡ at + 7
Placed at (record'.Opt letter name) = name.at ≡ at + 6
Placed at (record'.Use formula) = formula.at ≡ at + 4
Placed at record'.End = Unit {0}

-- the record that begins at `at`, and the place behind its line feed
pub record RecordAt (text : List ℕ) (at : ℕ) (found : Found) : Type 0 where
  pub begins : Begins (drop at text) (row_of found.record) (drop found.to text)
  pub places : Placed at found.record
  pub on : at < found.to
  pub inside : found.to ≤ length text

-- no record begins at `at`
abbrev pub NoRecord : List ℕ → ℕ → Type 0
NoRecord text at = (row : Row) (more : List ℕ) → Begins (drop at text) row more → ⊥

-- the USE record that begins at `at`, and the place behind its line feed
pub record UseAt (text : List ℕ) (at : ℕ) (u : Use) : Type 0 where
  pub begins : Begins (drop at text) (use_row u.formula.bytes.now) (drop u.to text)
  pub place : u.formula.at ≡ at + 4
  pub on : at < u.to
  pub inside : u.to ≤ length text

-- no USE record begins at `at`
abbrev pub NoUse : List ℕ → ℕ → Type 0
NoUse text at = (formula more : List ℕ) → Begins (drop at text) (use_row formula) more → ⊥

-- the formula of the USE record that begins where one is looked for, and where the next is looked for; or none begins there
abbrev pub NextUse : Uses → Option Part → Uses → Type 0
NextUse before None after = NoUse before.text.now before.at
NextUse before (Some formula) after = UseAt before.text.now before.at (record { formula = formula; to = after.at }) × (after.text.now ≡ before.text.now)

-- the text is a card, and these are its title, the number of its options, and the place of its first USE record
pub record Outlined (text : List ℕ) (o : Outline) : Type 0 where
  pub rows : List Row
  pub card : IsCard text rows
  pub title_at : o.title.at ≡ 7
  pub title_is : o.title.bytes.now ≡ card_title rows
  pub options_is : o.options ≡ length (option_names rows)
  pub uses_at : o.uses ≡ length (spelled (front_rows rows))
  pub tail : Tail (formulas rows) (drop o.uses text)

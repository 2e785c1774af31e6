-- Why any other text is no card: the number and the place.
use Rattle.std.specs.Prelude.{◌≡◌, ℕ, ◌+◌, ◌-◌, ◌^◌, ◌<◌, ◌≤◌, min, List, [], ◌++◌, length, take, ◌≢◌, slice_index}
use Rattle.formula.specs.declared.faults.FormulaFault.{FormulaFault}
use Rattle.formula.specs.declared.faults.FormulaFault.TheVariants as formula
use Rattle.formula.specs.Faults.{fault_number, fault_place}
use Rattle.formula.specs.Answer.{Refused as NoFormula}
use Rattle.card_text.specs.Grammar.{Row, card_row, opt_row, use_row, end_row, Begins}
use Rattle.card_text.specs.Card.{spelled, option_names, stage_after, Fits, Ruled, IsFormula, Loose, AllGiven, Good}
use Rattle.card_text.specs.declared.state.Stage.{Stage}
use Rattle.card_text.specs.declared.state.Stage.TheVariants.{Done}
use Rattle.card_text.specs.declared.faults.TextFault.{TextFault}
use Rattle.card_text.specs.declared.faults.TextFault.TheVariants.{TooLong, Formula, Form, Field, LooseLetter}

-- the number of a fault
abbrev pub text_number : TextFault → ℕ
text_number TooLong = 1
text_number (Formula fault at) = fault_number fault
text_number (Form p) = 6
text_number (Field p) = 7
text_number (LooseLetter p) = 8

-- its place in the text; a sum of places stops at the largest usize, which no fault of a card comes near
abbrev pub text_place : TextFault → ℕ
text_place TooLong = 4096
text_place (Formula fault at) = min (at + fault_place fault) (2 ^ 64 - 1)
text_place (Form p) = p
text_place (Field p) = p
text_place (LooseLetter p) = p

-- a formula's fault, where the formula begins at `at`, and its place from there; none of a card is too long
abbrev pub Moved : ℕ → FormulaFault → TextFault → Type 0
Moved at e fault = (e ≢ formula.TooLong) × (fault ≡ Formula e at) × (text_place fault ≡ at + fault_place e)

-- the first letter that none of the first k options has stands at i
pub record First (k : ℕ) (bytes : List ℕ) (i : ℕ) : Type 0 where
  pub inside : i < length bytes
  pub loose : Loose k (slice_index bytes i)
  pub before : AllGiven k (take i bytes)

-- what is wrong with the formula that begins at `at`: it is none, or one with a letter that no option has
pub data Misread (k : ℕ) (bytes : List ℕ) (at : ℕ) (fault : TextFault) : Type 0 where
  broken : (e : FormulaFault) → NoFormula bytes e → Moved at e fault → Misread k bytes at fault
  loose : (i : ℕ) → IsFormula bytes → First k bytes i → fault ≡ LooseLetter (at + i) → Misread k bytes at fault

-- what is wrong inside a record that stands in order at `at`
abbrev pub Wrong : List (List ℕ) → Row → ℕ → TextFault → Type 0
Wrong names (card_row title) at fault = (Ruled names (card_row title) → ⊥) × (fault ≡ Field (at + 7))
Wrong names (opt_row letter name) at fault = (Ruled names (opt_row letter name) → ⊥) × (fault ≡ Field (at + 6))
Wrong names (use_row formula) at fault = Misread (length names) formula (at + 4) fault
Wrong names end_row at fault = ⊥

-- the fault of the record at `at`, where `rest` begins: none there stands in order, or one does and is wrong inside
pub data Faulty (s : Stage) (names : List (List ℕ)) (rest : List ℕ) (at : ℕ) (fault : TextFault) : Type 0 where
  form : ((row : Row) (more : List ℕ) → Begins rest row more → Fits s (length names) row → ⊥) → fault ≡ Form at → Faulty s names rest at fault
  inside : (row : Row) (more : List ℕ) → Begins rest row more → Fits s (length names) row → Wrong names row at fault → Faulty s names rest at fault

-- the text is short enough and begins with rows without fault, and `rest` stands behind them
pub record Upto (text : List ℕ) (rows : List Row) (rest : List ℕ) : Type 0 where
  pub short : length text ≤ 4096
  pub holds : text ≡ spelled rows ++ rest
  pub good : Good rows

-- a text that is too long; or the fault of the leftmost faulty record, which may be one that is missing at the end, or
-- what stands behind END
pub data Refused (text : List ℕ) (fault : TextFault) : Type 0 where
  long : 4096 < length text → fault ≡ TooLong → Refused text fault
  leftmost : (rows : List Row) (rest : List ℕ) → Upto text rows rest → (stage_after rows ≡ Done → rest ≢ []) → Faulty (stage_after rows) (option_names rows) rest (length (spelled rows)) fault → Refused text fault

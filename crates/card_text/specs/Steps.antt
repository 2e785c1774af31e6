-- What reading one record of a card does; for the contracts of inner functions.
use Rattle.std.specs.Prelude.{◌≡◌, ℕ, ◌<◌, ◌≤◌, List, length, drop, Ok, Err, Result}
use Rattle.card_text.specs.Grammar.{Row, Begins}
use Rattle.card_text.specs.Card.{Sound, add_name, add_title, stage_of, mark}
use Rattle.card_text.specs.Faults.{Faulty}
use Rattle.card_text.specs.State.{held}
use Rattle.card_text.specs.declared.faults.TextFault.{TextFault}
use Rattle.card_text.specs.declared.state.Seen.{Seen}

-- one more record was read, without fault
pub record Stepped (text : List ℕ) (at : ℕ) (seen later : Seen) (to : ℕ) : Type 0 where
  pub row : Row
  pub begins : Begins (drop at text) row (drop to text)
  pub sound : Sound seen.stage (held seen) row
  pub names_then : held later ≡ add_name (held seen) row
  pub stage_then : later.stage ≡ stage_of row
  pub title_then : later.title.now ≡ add_title seen.title.now row
  pub uses_then : later.uses ≡ mark seen.uses row to
  pub on : at < to
  pub inside : to ≤ length text

-- the record was read, or is faulty
abbrev pub Steps : List ℕ → ℕ → Seen → Seen → Result ℕ TextFault → Type 0
Steps text at seen later (Ok to) = Stepped text at seen later to
Steps text at seen later (Err e) = Faulty seen.stage (held seen) (drop at text) at e

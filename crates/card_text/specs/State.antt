-- What the reader keeps of a card; for the contracts of inner functions.
use Rattle.std.specs.Prelude.{ℕ, ◌+◌, ◌≤◌, List, map, length}
use Rattle.card_text.specs.declared.records.Record.{Record}
use Rattle.card_text.specs.declared.records.Record.TheVariants.{Card, Opt, Use, End}
use Rattle.card_text.specs.declared.state.Seen.{Seen}

-- the names held, in the order of the text
abbrev pub held : Seen → List (List ℕ)
held seen = map (λ r. r.now) seen.names.items

-- a formula ends within the first 4,096 bytes of the text
abbrev pub Near : Record → Type 0
Near (Card title) = Unit {0}
Near (Opt letter name) = Unit {0}
Near (Use formula) = formula.at + length formula.bytes.now ≤ 4096
Near End = Unit {0}

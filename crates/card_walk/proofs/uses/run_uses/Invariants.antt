use Rattle.std.proofs.Common.{ℕ, List, drop}
use Rattle.table.specs.Room.{SameRoom}
use Rattle.formula.specs.Grammar.{Tree}
use Rattle.card_text.specs.Card.{Tail}
use Rattle.card_walk.specs.Sums.{TreesOf}
use Rattle.card_walk.proofs.Going.{Reached}
use Rattle.card_walk.proofs.uses.run_uses.Given as goal

abbrev pub invariant-loop-formula : goal.invariant-loop-formula
invariant-loop-formula g l =
    let t = g.T.NodeTable in
    ((fs : List (List ℕ)) (ts : List Tree) → Tail fs (drop l.uses l.text) → TreesOf fs ts → Reached l.formula-iterator (t.nodes l.initial.manager.table) (t.nodes l.manager.table) l.sum ts)
    × SameRoom t.limit t.rest l.initial.manager.table l.manager.table

use Rattle.table.specs.Room.{SameRoom}
use Rattle.compile.proofs.Ran.{Ran}
use Rattle.compile.proofs.running.run_formula.Given as goal

abbrev pub invariant-loop-step : goal.invariant-loop-step
invariant-loop-step g l =
    let t = g.T.NodeTable in
    Ran l.step-items l.step-index (t.nodes l.initial.manager.table) (t.nodes l.manager.table) l.stack.items
    × SameRoom t.limit t.rest l.initial.manager.table l.manager.table

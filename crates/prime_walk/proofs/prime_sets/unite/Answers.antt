use Rattle.std.proofs.Common.{◌∙◌}
use Rattle.std.proofs.lemmas.Result.{err_from_is_err_and}
use Rattle.prime_walk.proofs.United.{first_refused, second_refused, first_stands, second_stands, third_refused, set_low, last_walked}
use Rattle.prime_walk.proofs.prime_sets.unite.Goals as goal

pub returns-in_err-q0-clause-value : goal.returns-in_err-q0-clause-value
returns-in_err-q0-clause-value g c =
    let pre = c.requires in
    let r = err_from_is_err_and c.from_residual.result c.from_residual.ensures.1 in
    rw (r.1, r.2) (first_refused (g.met.T.NodeTable.sound c.args.manager.now.table) pre.option pre.p pre.low pre.high c.in_err-q0.ensures.value)

pub returns-in_err-q1-clause-value : goal.returns-in_err-q1-clause-value
returns-in_err-q1-clause-value g c =
    let pre = c.requires in
    let a = c.in_ok-q0.ensures in
    let r = err_from_is_err_and c.from_residual-in_err-q1.result c.from_residual-in_err-q1.ensures.1 in
    rw (r.1, r.2) (second_refused (g.met.T.NodeTable.sound c.args.manager.now.table) pre.option pre.p pre.low pre.high a.value a.room.size c.in_err-q1.ensures.value)

pub make-requires-clause-low : goal.make-requires-clause-low
make-requires-clause-low g c =
    let pre = c.requires in
    first_stands (g.met.T.NodeTable.sound c.args.manager.now.table) pre.option pre.p pre.low pre.high c.in_ok-q0.ensures.value c.in_ok-q1.ensures.value

pub make-requires-clause-high : goal.make-requires-clause-high
make-requires-clause-high g c =
    let pre = c.requires in
    second_stands (g.met.T.NodeTable.sound c.args.manager.now.table) pre.option pre.p pre.low pre.high c.in_ok-q0.ensures.value c.in_ok-q1.ensures.value

pub returns-in_err-s-clause-value : goal.returns-in_err-s-clause-value
returns-in_err-s-clause-value g c =
    let pre = c.requires in
    let a = c.in_ok-q0.ensures in
    let b = c.in_ok-q1.ensures in
    let r = err_from_is_err_and c.from_residual-in_err-s.result c.from_residual-in_err-s.ensures.1 in
    rw (r.1, r.2) (third_refused (g.met.T.NodeTable.sound c.args.manager.now.table) pre.option pre.p pre.low pre.high a.value b.value (b.room.size ∙ a.room.size) c.in_err-s.ensures.value)

pub make-requires-2-clause-low : goal.make-requires-2-clause-low
make-requires-2-clause-low g c =
    let pre = c.requires in
    set_low (g.met.T.NodeTable.sound c.args.manager.now.table) pre.option pre.p pre.low pre.high c.in_ok-q0.ensures.value c.in_ok-q1.ensures.value c.in_ok-s.ensures.value

pub returns-clause-value : goal.returns-clause-value
returns-clause-value g c =
    let pre = c.requires in
    let a = c.in_ok-q0.ensures in
    let b = c.in_ok-q1.ensures in
    let s = c.in_ok-s.ensures in
    last_walked (g.met.T.NodeTable.sound c.args.manager.now.table) pre.option pre.p pre.low pre.high a.value b.value s.value c.make-2.result (s.room.size ∙ b.room.size ∙ a.room.size) c.make-2.ensures.value

use Rattle.std.proofs.Common.{◌∙◌}
use Rattle.std.proofs.lemmas.Result.{err_from_is_err_and}
use Rattle.diagram.proofs.Account.{gives_held}
use Rattle.diagram.proofs.Growth.{issued_kept}
use Rattle.walk.proofs.Halves.{falls_under, low_refused, high_refused, low_stands, high_stands, make_refused, make_gives}
use Rattle.walk.proofs.Props.{right_out}
use Rattle.walk.proofs.Restricting.{stands_past, own_before, own_first, stands_low, stands_high, restrict_sides, high_below, high_shrinks}
use Rattle.walk.proofs.Remembered.{cofactor_kept, restrict_told}
use Rattle.walk.proofs.manager.Manager.+restrict.Goals as goal

pub returns-then-own-l-clause-value : goal.returns-then-own-l-clause-value
returns-then-own-l-clause-value g t c =
    let s = g.met.T.NodeTable.sound c.args.self.now.table in
    record { outcome = gives_held s.formed (stands_past c.args.value s c.requires.f c.level-own.ensures c.if-own-l.true) }

pub returns-then-value-clause-value : goal.returns-then-value-clause-value
returns-then-value-clause-value g t c =
    let w = (g.met.T.NodeTable.sound c.args.self.now.table).formed in
    record { outcome = gives_held w (stands_high w c.branches-f0.ensures c.level-own.ensures c.if-own-l-2.true c.if-value.true) }

pub returns-else-value-clause-value : goal.returns-else-value-clause-value
returns-else-value-clause-value g t c =
    let w = (g.met.T.NodeTable.sound c.args.self.now.table).formed in
    record { outcome = gives_held w (stands_low w c.branches-f0.ensures c.level-own.ensures c.if-own-l-2.true c.if-value.false) }

pub returns-in-Some-clause-value : goal.returns-in-Some-clause-value
returns-in-Some-clause-value g t c =
    let w = (g.met.T.NodeTable.sound c.args.self.now.table).formed in
    record { outcome = gives_held w (right_out w c.args.self.now.right _ c.in-Some.ensures).1 }

pub returns-in_err-low-clause-value : goal.returns-in_err-low-clause-value
returns-in_err-low-clause-value g t c =
    let w = (g.met.T.NodeTable.sound c.args.self.now.table).formed in
    let d = restrict_sides w c.branches-f0.ensures c.level-own.ensures _ c.args.value (own_before c.if-own-l.false c.if-own-l-2.false) in
    let p = err_from_is_err_and c.from_residual.result c.from_residual.ensures.1 in
    rw (p.1, p.2) (low_refused d c.in_err-low.ensures.value)

pub restrict-requires-2 : goal.restrict-requires-2
restrict-requires-2 g t c κs within =
    let x = c.branches-f0.ensures in
    let e = c.in_ok-low.ensures.value.outcome.grows.extends in
    let falls = falls_under c.decreases (high_shrinks (g.met.T.NodeTable.sound c.args.self.now.table).formed x c.level-own.ensures e) in
    (falls, (within.0, (within.1.0, (within.1.1, (issued_kept e _ x.hi_issued, c.requires.last)))))

pub returns-in_err-high-clause-value : goal.returns-in_err-high-clause-value
returns-in_err-high-clause-value g t c =
    let x = c.branches-f0.ensures in
    let w = (g.met.T.NodeTable.sound c.args.self.now.table).formed in
    let d = restrict_sides w x c.level-own.ensures _ c.args.value (own_before c.if-own-l.false c.if-own-l-2.false) in
    let lo = c.in_ok-low.ensures in
    let same = cofactor_kept lo.value.outcome.grows.extends _ c.args.value _ x.hi_issued in
    let p = err_from_is_err_and c.from_residual-in_err-high.result c.from_residual-in_err-high.ensures.1 in
    rw (p.1, p.2) (high_refused d lo.value same lo.room.size c.in_err-high.ensures.value)

pub make-requires-clause-low : goal.make-requires-clause-low
make-requires-clause-low g t c =
    let x = c.branches-f0.ensures in
    let w = (g.met.T.NodeTable.sound c.args.self.now.table).formed in
    let d = restrict_sides w x c.level-own.ensures _ c.args.value (own_before c.if-own-l.false c.if-own-l-2.false) in
    let lo = c.in_ok-low.ensures.value in
    low_stands d lo (cofactor_kept lo.outcome.grows.extends _ c.args.value _ x.hi_issued) c.in_ok-high.ensures.value x.lo_deeper

pub make-requires-clause-high : goal.make-requires-clause-high
make-requires-clause-high g t c =
    let x = c.branches-f0.ensures in
    let at = c.level-own.ensures in
    let w = (g.met.T.NodeTable.sound c.args.self.now.table).formed in
    let d = restrict_sides w x at _ c.args.value (own_before c.if-own-l.false c.if-own-l-2.false) in
    let lo = c.in_ok-low.ensures.value in
    let e = lo.outcome.grows.extends in
    high_stands d lo (cofactor_kept e _ c.args.value _ x.hi_issued) c.in_ok-high.ensures.value (high_below w x at e)

pub make-requires-clause-first : goal.make-requires-clause-first
make-requires-clause-first g t c = own_first (g.met.T.NodeTable.sound c.args.self.now.table).formed c.branches-f0.ensures c.level-own.ensures

pub returns-in_err-h-clause-value : goal.returns-in_err-h-clause-value
returns-in_err-h-clause-value g t c =
    let x = c.branches-f0.ensures in
    let w = (g.met.T.NodeTable.sound c.args.self.now.table).formed in
    let d = restrict_sides w x c.level-own.ensures _ c.args.value (own_before c.if-own-l.false c.if-own-l-2.false) in
    let lo = c.in_ok-low.ensures in
    let hi = c.in_ok-high.ensures in
    let same = cofactor_kept lo.value.outcome.grows.extends _ c.args.value _ x.hi_issued in
    let p = err_from_is_err_and c.from_residual-in_err-h.result c.from_residual-in_err-h.ensures.1 in
    rw (p.1, p.2) (make_refused d lo.value same hi.value (hi.room.size ∙ lo.room.size) c.in_err-h.ensures.value)

pub returns-clause-value : goal.returns-clause-value
returns-clause-value g t c =
    let x = c.branches-f0.ensures in
    let w = (g.met.T.NodeTable.sound c.args.self.now.table).formed in
    let d = restrict_sides w x c.level-own.ensures _ c.args.value (own_before c.if-own-l.false c.if-own-l-2.false) in
    let lo = c.in_ok-low.ensures.value in
    let same = cofactor_kept lo.outcome.grows.extends _ c.args.value _ x.hi_issued in
    make_gives d lo same c.in_ok-high.ensures.value c.level-own.ensures c.in_ok-h.ensures.value

pub invariant_of-self : goal.invariant_of-self
invariant_of-self g t c =
    let x = c.branches-f0.ensures in
    let w = (g.met.T.NodeTable.sound c.args.self.now.table).formed in
    let d = restrict_sides w x c.level-own.ensures _ c.args.value (own_before c.if-own-l.false c.if-own-l-2.false) in
    let lo = c.in_ok-low.ensures.value in
    let same = cofactor_kept lo.outcome.grows.extends _ c.args.value _ x.hi_issued in
    let value = make_gives d lo same c.in_ok-high.ensures.value c.level-own.ensures c.in_ok-h.ensures.value in
    let made = c.make.new.self in
    let right = right_out (g.met.T.NodeTable.sound made.table).formed made.right in
    record { right = ∣ restrict_told c.args.f c.args.l c.args.value c.requires.f value right c.tell.ensures ∣₁ }

use Rattle.std.proofs.Common.{◌∙◌}
use Rattle.std.proofs.lemmas.Result.{err_from_is_err_and}
use Rattle.diagram.proofs.Account.{gives_held}
use Rattle.diagram.proofs.Growth.{issued_kept}
use Rattle.walk.proofs.Halves.{falls_under, low_refused, high_refused, low_stands, high_stands, make_refused, make_gives}
use Rattle.walk.proofs.Props.{right_out}
use Rattle.walk.proofs.Joining.{split_last, split_left, split_right, split_first, join_sides, low_deeper, low_falls, high_deeper, high_falls}
use Rattle.walk.proofs.Remembered.{joined_kept, join_told}
use Rattle.walk.proofs.manager.Manager.+apply.Goals as goal

pub returns-in-Some-clause-value : goal.returns-in-Some-clause-value
returns-in-Some-clause-value g t c =
    let w = (g.met.T.NodeTable.sound c.args.self.now.table).formed in
    record { outcome = gives_held w (c.in-Some.ensures.outcome _ w c.requires.f c.requires.g) }

pub returns-in-Some-ask-clause-value : goal.returns-in-Some-ask-clause-value
returns-in-Some-ask-clause-value g t c =
    let w = (g.met.T.NodeTable.sound c.args.self.now.table).formed in
    record { outcome = gives_held w (right_out w c.args.self.now.right _ c.in-Some-ask.ensures).2 }

pub branches-f0-requires : goal.branches-f0-requires
branches-f0-requires g t c =
    let s = g.met.T.NodeTable.sound c.args.self.now.table in
    let x = c.in_default.ensures in
    let at = c.split_level-l.ensures in
    record { issued = c.requires.f; level = split_left s c.requires.f c.requires.g x at; last = split_last s c.requires.f c.requires.g x at }

pub branches-g0-requires : goal.branches-g0-requires
branches-g0-requires g t c =
    let s = g.met.T.NodeTable.sound c.args.self.now.table in
    let x = c.in_default.ensures in
    let at = c.split_level-l.ensures in
    record { issued = c.requires.g; level = split_right s c.requires.f c.requires.g x at; last = split_last s c.requires.f c.requires.g x at }

pub apply-requires : goal.apply-requires
apply-requires g t c κs within =
    let x = c.branches-f0.ensures in
    let y = c.branches-g0.ensures in
    let falls = falls_under c.decreases (low_falls (g.met.T.NodeTable.sound c.args.self.now.table).formed x y c.split_level-l.ensures) in
    (falls, (within.0, (within.1.0, (within.1.1, (x.lo_issued, y.lo_issued)))))

pub returns-in_err-low-clause-value : goal.returns-in_err-low-clause-value
returns-in_err-low-clause-value g t c =
    let w = (g.met.T.NodeTable.sound c.args.self.now.table).formed in
    let d = join_sides w c.branches-f0.ensures c.branches-g0.ensures c.split_level-l.ensures c.args.op in
    let p = err_from_is_err_and c.from_residual.result c.from_residual.ensures.1 in
    rw (p.1, p.2) (low_refused d c.in_err-low.ensures.value)

pub apply-requires-2 : goal.apply-requires-2
apply-requires-2 g t c κs within =
    let x = c.branches-f0.ensures in
    let y = c.branches-g0.ensures in
    let e = c.in_ok-low.ensures.value.outcome.grows.extends in
    let falls = falls_under c.decreases (high_falls (g.met.T.NodeTable.sound c.args.self.now.table).formed x y c.split_level-l.ensures e) in
    (falls, (within.0, (within.1.0, (within.1.1, (issued_kept e _ x.hi_issued, issued_kept e _ y.hi_issued)))))

pub returns-in_err-high-clause-value : goal.returns-in_err-high-clause-value
returns-in_err-high-clause-value g t c =
    let x = c.branches-f0.ensures in
    let y = c.branches-g0.ensures in
    let d = join_sides (g.met.T.NodeTable.sound c.args.self.now.table).formed x y c.split_level-l.ensures c.args.op in
    let lo = c.in_ok-low.ensures in
    let same = joined_kept lo.value.outcome.grows.extends c.args.op _ _ x.hi_issued y.hi_issued in
    let p = err_from_is_err_and c.from_residual-in_err-high.result c.from_residual-in_err-high.ensures.1 in
    rw (p.1, p.2) (high_refused d lo.value same lo.room.size c.in_err-high.ensures.value)

pub make-requires : goal.make-requires
make-requires g t c =
    let x = c.branches-f0.ensures in
    let y = c.branches-g0.ensures in
    let w = (g.met.T.NodeTable.sound c.args.self.now.table).formed in
    let at = c.split_level-l.ensures in
    let d = join_sides w x y at c.args.op in
    let lo = c.in_ok-low.ensures.value in
    let hi = c.in_ok-high.ensures.value in
    let e = lo.outcome.grows.extends in
    let same = joined_kept e c.args.op _ _ x.hi_issued y.hi_issued in
    record { low = low_stands d lo same hi (low_deeper w x y at); high = high_stands d lo same hi (high_deeper w x y at e); first = split_first w x y at }

pub returns-in_err-h-clause-value : goal.returns-in_err-h-clause-value
returns-in_err-h-clause-value g t c =
    let x = c.branches-f0.ensures in
    let y = c.branches-g0.ensures in
    let d = join_sides (g.met.T.NodeTable.sound c.args.self.now.table).formed x y c.split_level-l.ensures c.args.op in
    let lo = c.in_ok-low.ensures in
    let hi = c.in_ok-high.ensures in
    let same = joined_kept lo.value.outcome.grows.extends c.args.op _ _ x.hi_issued y.hi_issued in
    let p = err_from_is_err_and c.from_residual-in_err-h.result c.from_residual-in_err-h.ensures.1 in
    rw (p.1, p.2) (make_refused d lo.value same hi.value (hi.room.size ∙ lo.room.size) c.in_err-h.ensures.value)

pub returns-clause-value : goal.returns-clause-value
returns-clause-value g t c =
    let x = c.branches-f0.ensures in
    let y = c.branches-g0.ensures in
    let d = join_sides (g.met.T.NodeTable.sound c.args.self.now.table).formed x y c.split_level-l.ensures c.args.op in
    let lo = c.in_ok-low.ensures.value in
    let same = joined_kept lo.outcome.grows.extends c.args.op _ _ x.hi_issued y.hi_issued in
    make_gives d lo same c.in_ok-high.ensures.value c.split_level-l.ensures c.in_ok-h.ensures.value

pub invariant_of-self : goal.invariant_of-self
invariant_of-self g t c =
    let x = c.branches-f0.ensures in
    let y = c.branches-g0.ensures in
    let d = join_sides (g.met.T.NodeTable.sound c.args.self.now.table).formed x y c.split_level-l.ensures c.args.op in
    let lo = c.in_ok-low.ensures.value in
    let same = joined_kept lo.outcome.grows.extends c.args.op _ _ x.hi_issued y.hi_issued in
    let value = make_gives d lo same c.in_ok-high.ensures.value c.split_level-l.ensures c.in_ok-h.ensures.value in
    let made = c.make.new.self in
    let right = right_out (g.met.T.NodeTable.sound made.table).formed made.right in
    record { right = ∣ join_told c.args.op c.args.f c.args.g c.requires.f c.requires.g value right c.tell.ensures ∣₁ }

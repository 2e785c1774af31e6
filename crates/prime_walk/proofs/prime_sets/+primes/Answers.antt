use Rattle.std.proofs.Common.{◌∙◌}
use Rattle.std.proofs.lemmas.Result.{err_from_is_err_and}
use Rattle.walk.proofs.Props.{right_out}
use Rattle.walk.proofs.Remembered.{primes_told}
use Rattle.prime_walk.proofs.Priming.{none_left, remembered, sign_level, next_left, options_fall, divides, and_refused, and_signs, both_refused, low_issued, low_signs, low_refused, high_issued, high_signs, high_refused, both_stands, low_stands, set_refused, primes_given}
use Rattle.prime_walk.proofs.prime_sets.+primes.Goals as goal

pub returns-then-gone-eq12-clause-value : goal.returns-then-gone-eq12-clause-value
returns-then-gone-eq12-clause-value g t c = none_left c.if-gone-eq12.true (g.met.T.NodeTable.sound c.args.manager.now.table) c.requires.f c.requires.signs

pub returns-in-Some-clause-value : goal.returns-in-Some-clause-value
returns-in-Some-clause-value g t c =
    let s = (g.met.T.NodeTable.sound c.args.manager.now.table) in
    remembered s (right_out s.formed c.args.manager.now.right _ c.in-Some.ensures)

pub branches-f0-requires-clause-level : goal.branches-f0-requires-clause-level
branches-f0-requires-clause-level g t c = sign_level (g.met.T.NodeTable.sound c.args.manager.now.table) c.requires.option c.if-gone-eq12.false c.requires.f c.requires.signs

pub returns-in_err-both-clause-value : goal.returns-in_err-both-clause-value
returns-in_err-both-clause-value g t c =
    let d = divides (g.met.T.NodeTable.sound c.args.manager.now.table) c.requires.option c.if-gone-eq12.false c.requires.f c.requires.signs c.branches-f0.ensures in
    let r = err_from_is_err_and c.from_residual.result c.from_residual.ensures.1 in
    rw (r.1, r.2) (and_refused d c.in_err-both.ensures.value)

pub primes-requires : goal.primes-requires
primes-requires g t c κs within =
    let d = divides (g.met.T.NodeTable.sound c.args.manager.now.table) c.requires.option c.if-gone-eq12.false c.requires.f c.requires.signs c.branches-f0.ensures in
    let a = c.in_ok-both.ensures.value in
    let falls = options_fall c.decreases c.requires.option c.if-gone-eq12.false in
    let option = next_left c.requires.option c.if-gone-eq12.false in
    (falls, (within.0, (within.1.0, (within.1.1, (a.outcome.stands.issued, (option, and_signs d a))))))

pub returns-in_err-p-clause-value : goal.returns-in_err-p-clause-value
returns-in_err-p-clause-value g t c =
    let d = divides (g.met.T.NodeTable.sound c.args.manager.now.table) c.requires.option c.if-gone-eq12.false c.requires.f c.requires.signs c.branches-f0.ensures in
    let a = c.in_ok-both.ensures in
    let r = err_from_is_err_and c.from_residual-in_err-p.result c.from_residual-in_err-p.ensures.1 in
    rw (r.1, r.2) (both_refused d a.value a.room.size c.in_err-p.ensures.value)

pub primes-requires-2 : goal.primes-requires-2
primes-requires-2 g t c κs within =
    let d = divides (g.met.T.NodeTable.sound c.args.manager.now.table) c.requires.option c.if-gone-eq12.false c.requires.f c.requires.signs c.branches-f0.ensures in
    let a = c.in_ok-both.ensures.value in
    let b = c.in_ok-p.ensures.value in
    let falls = options_fall c.decreases c.requires.option c.if-gone-eq12.false in
    let option = next_left c.requires.option c.if-gone-eq12.false in
    (falls, (within.0, (within.1.0, (within.1.1, (low_issued d a b, (option, low_signs d a b))))))

pub returns-in_err-p0-clause-value : goal.returns-in_err-p0-clause-value
returns-in_err-p0-clause-value g t c =
    let d = divides (g.met.T.NodeTable.sound c.args.manager.now.table) c.requires.option c.if-gone-eq12.false c.requires.f c.requires.signs c.branches-f0.ensures in
    let a = c.in_ok-both.ensures in
    let b = c.in_ok-p.ensures in
    let r = err_from_is_err_and c.from_residual-in_err-p0.result c.from_residual-in_err-p0.ensures.1 in
    rw (r.1, r.2) (low_refused d a.value b.value (b.room.size ∙ a.room.size) c.in_err-p0.ensures.value)

pub primes-requires-3 : goal.primes-requires-3
primes-requires-3 g t c κs within =
    let d = divides (g.met.T.NodeTable.sound c.args.manager.now.table) c.requires.option c.if-gone-eq12.false c.requires.f c.requires.signs c.branches-f0.ensures in
    let a = c.in_ok-both.ensures.value in
    let b = c.in_ok-p.ensures.value in
    let lo = c.in_ok-p0.ensures.value in
    let falls = options_fall c.decreases c.requires.option c.if-gone-eq12.false in
    let option = next_left c.requires.option c.if-gone-eq12.false in
    (falls, (within.0, (within.1.0, (within.1.1, (high_issued d a b lo, (option, high_signs d a b lo))))))

pub returns-in_err-p1-clause-value : goal.returns-in_err-p1-clause-value
returns-in_err-p1-clause-value g t c =
    let d = divides (g.met.T.NodeTable.sound c.args.manager.now.table) c.requires.option c.if-gone-eq12.false c.requires.f c.requires.signs c.branches-f0.ensures in
    let a = c.in_ok-both.ensures in
    let b = c.in_ok-p.ensures in
    let lo = c.in_ok-p0.ensures in
    let r = err_from_is_err_and c.from_residual-in_err-p1.result c.from_residual-in_err-p1.ensures.1 in
    rw (r.1, r.2) (high_refused d a.value b.value lo.value (lo.room.size ∙ b.room.size ∙ a.room.size) c.in_err-p1.ensures.value)

pub unite-requires-clause-p : goal.unite-requires-clause-p
unite-requires-clause-p g t c =
    let d = divides (g.met.T.NodeTable.sound c.args.manager.now.table) c.requires.option c.if-gone-eq12.false c.requires.f c.requires.signs c.branches-f0.ensures in
    both_stands d c.in_ok-both.ensures.value c.in_ok-p.ensures.value c.in_ok-p0.ensures.value c.in_ok-p1.ensures.value

pub unite-requires-clause-low : goal.unite-requires-clause-low
unite-requires-clause-low g t c =
    let d = divides (g.met.T.NodeTable.sound c.args.manager.now.table) c.requires.option c.if-gone-eq12.false c.requires.f c.requires.signs c.branches-f0.ensures in
    low_stands d c.in_ok-both.ensures.value c.in_ok-p.ensures.value c.in_ok-p0.ensures.value c.in_ok-p1.ensures.value

pub returns-in_err-h-clause-value : goal.returns-in_err-h-clause-value
returns-in_err-h-clause-value g t c =
    let d = divides (g.met.T.NodeTable.sound c.args.manager.now.table) c.requires.option c.if-gone-eq12.false c.requires.f c.requires.signs c.branches-f0.ensures in
    let a = c.in_ok-both.ensures in
    let b = c.in_ok-p.ensures in
    let lo = c.in_ok-p0.ensures in
    let hi = c.in_ok-p1.ensures in
    let r = err_from_is_err_and c.from_residual-in_err-h.result c.from_residual-in_err-h.ensures.1 in
    rw (r.1, r.2) (set_refused d a.value b.value lo.value hi.value (hi.room.size ∙ lo.room.size ∙ b.room.size ∙ a.room.size) c.in_err-h.ensures.value)

pub returns-clause-value : goal.returns-clause-value
returns-clause-value g t c =
    let d = divides (g.met.T.NodeTable.sound c.args.manager.now.table) c.requires.option c.if-gone-eq12.false c.requires.f c.requires.signs c.branches-f0.ensures in
    primes_given d c.in_ok-both.ensures.value c.in_ok-p.ensures.value c.in_ok-p0.ensures.value c.in_ok-p1.ensures.value c.in_ok-h.ensures.value

pub invariant_of-manager : goal.invariant_of-manager
invariant_of-manager g t c =
    let d = divides (g.met.T.NodeTable.sound c.args.manager.now.table) c.requires.option c.if-gone-eq12.false c.requires.f c.requires.signs c.branches-f0.ensures in
    let value = primes_given d c.in_ok-both.ensures.value c.in_ok-p.ensures.value c.in_ok-p0.ensures.value c.in_ok-p1.ensures.value c.in_ok-h.ensures.value in
    let made = c.unite.new.manager in
    let right = right_out (g.met.T.NodeTable.sound made.table).formed made.right in
    record { right = ∣ primes_told c.args.f c.args.gone c.requires.f value right c.tell.ensures ∣₁ }

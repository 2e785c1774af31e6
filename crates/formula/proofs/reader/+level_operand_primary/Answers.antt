use Rattle.std.proofs.Common.{◌≡◌, get_or, sym, ◌∙◌, arith, rules}
use Rattle.formula.specs.declared.steps.Token.TheVariants.{Closing}
use Rattle.formula.specs.Notation.{notation}
use Rattle.std.proofs.lemmas.Result.{err_from_is_err_and}
use Rattle.formula.proofs.Notes.{strength_bounds}
use Rattle.formula.proofs.Derive.{leaf_read, bracket_read, operand_read, ended, one_more, same_strength, after_cases}
use Rattle.formula.proofs.Fail.{fails_in, frame_weak, frame_negations, frame_bracket, frame_infix, fail_operand, fail_deep, fail_after, no_start}
use Rattle.formula.proofs.reader.+level_operand_primary.Goals as goal
use Rattle.formula.proofs.reader.+level_operand_primary.Goals.{level-then-k-floor-via-then-k-floor, level-then-k-floor-via-else-k-floor+then-k-top, primary-else-q-text-via-then-q-text+else-eq, primary-else-q-text-via-else-q-text}

pub level-returns-in_err-p : goal.level-returns-in_err-p
level-returns-in_err-p t c = let p = err_from_is_err_and c.from_residual.result c.from_residual.ensures.1 in rw (p.1, p.2) (fails_in _ _ _ _ _ _ _ _ (frame_weak _ _ _ _ c.requires.strong) c.in_err-p.ensures)

pub level-returns-in_err-p-2 : goal.level-returns-in_err-p-2
level-returns-in_err-p-2 t c = let p = err_from_is_err_and c.from_residual-in_err-p-2.result c.from_residual-in_err-p-2.ensures.1 in rw (p.1, p.2) (fails_in _ _ _ _ _ _ _ _ (frame_infix _ _ _ _ _ _ _ _ _ _ (c.loop-p.invariant.4 c.args.out.now.items c.in_ok-p.ensures) c.requires.deep c.loop-p-test.true (sym c.in-Infix.ensures) c.if-k-floor.false c.if-k-top.false) c.in_err-p-2.ensures)

pub level-loop-p-preserved : goal.level-loop-p-preserved
level-loop-p-preserved t c =
    let r = c.in_ok-p-2.ensures in
    let g = strength_bounds (get_or c.args.text.now c.loop-p.p 0) _ _ (sym c.in-Infix.ensures) in
    (r.inside, omega (arith, r.few, c.loop-p.invariant.1, c.push.ensures.len), omega (arith, r.moved, c.loop-p.invariant.2), omega (arith, after_cases _ _ c.after-top.ensures, g.1), λ before first. one_more _ _ _ _ _ _ _ _ _ _ _ _ _ _ (c.loop-p.invariant.4 before first) c.loop-p-test.true (sym c.in-Infix.ensures) c.if-k-floor.false c.if-k-top.false r c.push.ensures.items c.after-top.ensures)

pub level-returns-after-loop-p : goal.level-returns-after-loop-p
level-returns-after-loop-p t c = ended _ _ _ _ _ _ _ _ (λ lt k s e h. omega (arith, c.loop-p-test.false)) (c.loop-p.invariant.4 c.args.out.now.items c.in_ok-p.ensures)

pub level-returns-in_default : goal.level-returns-in_default
level-returns-in_default t c = ended _ _ _ _ _ _ _ _ (λ lt k s e h. absurd (c.in_default.not-Infix k s (c.from.ensures ∙ e))) (c.loop-p.invariant.4 c.args.out.now.items c.in_ok-p.ensures)

pub level-returns-then-k-floor : goal.level-returns-then-k-floor
level-returns-then-k-floor t c = ended _ _ _ _ _ _ _ _ (λ lt k s e h. let q = same_strength _ _ _ _ _ (sym c.in-Infix.ensures) e in elim c.then-k-floor.branch [ level-then-k-floor-via-then-k-floor w ↦ omega (arith, w.if-k-floor.true, q) | level-then-k-floor-via-else-k-floor+then-k-top w ↦ omega (arith, w.if-k-top.true, q) ]) (c.loop-p.invariant.4 c.args.out.now.items c.in_ok-p.ensures)

pub operand-returns-in_err-q : goal.operand-returns-in_err-q
operand-returns-in_err-q t c = let p = err_from_is_err_and c.from_residual.result c.from_residual.ensures.1 in rw (p.1, p.2) (fails_in _ _ _ _ _ _ _ _ (frame_negations _ _ _ _ c.negations-n.ensures.within c.negations-n.ensures.all) c.in_err-q.ensures)

pub operand-returns : goal.operand-returns
operand-returns t c = operand_read _ _ _ _ _ _ _ _ c.negations-n.ensures.all c.in_ok-q.ensures c.push_negations.ensures

pub primary-returns-then-at-text : goal.primary-returns-then-at-text
primary-returns-then-at-text t c = fail_operand _ _ _ _ c.requires.within c.unexpected.ensures.0 c.unexpected.ensures.1 (λ lt s. omega (arith, c.if-at-text.true))

pub primary-returns-then-depth-ge-MAX_NESTING : goal.primary-returns-then-depth-ge-MAX_NESTING
primary-returns-then-depth-ge-MAX_NESTING t c = fail_deep _ _ _ c.if-at-text.false c.if-depth-ge-MAX_NESTING.true (sym c.in-Opening.ensures)

pub primary-returns-in_err-q-in-Opening : goal.primary-returns-in_err-q-in-Opening
primary-returns-in_err-q-in-Opening t c = let p = err_from_is_err_and c.from_residual.result c.from_residual.ensures.1 in rw (p.1, p.2) (fails_in _ _ _ _ _ _ _ _ (frame_bracket _ _ _ c.if-at-text.false c.if-depth-ge-MAX_NESTING.false (sym c.in-Opening.ensures)) c.in_err-q-in-Opening.ensures)

pub primary-returns-then-eq : goal.primary-returns-then-eq
primary-returns-then-eq t c =
    let e : notation (get_or c.args.text.now c.in_ok-q-in-Opening.q 0) ≡ Closing = search rules in
    bracket_read _ _ _ _ _ _ (sym c.in-Opening.ensures) c.if-depth-ge-MAX_NESTING.false c.if-q-text.true e c.in_ok-q-in-Opening.ensures

pub primary-returns-else-q-text : goal.primary-returns-else-q-text
primary-returns-else-q-text t c = fails_in _ _ _ _ _ _ _ _ (frame_bracket _ _ _ c.if-at-text.false c.if-depth-ge-MAX_NESTING.false (sym c.in-Opening.ensures))
    (fail_after _ _ _ _ _ _ _ (omega (arith, c.if-depth-ge-MAX_NESTING.false)) c.in_ok-q-in-Opening.ensures
    (λ lt e. elim c.else-q-text.branch [ primary-else-q-text-via-then-q-text+else-eq w ↦ search rules | primary-else-q-text-via-else-q-text w ↦ omega (arith, w.if-q-text.false) ])
    (λ eq. omega arith) c.unexpected-else-q-text.ensures.0 c.unexpected-else-q-text.ensures.1)

pub primary-returns-in-Operand : goal.primary-returns-in-Operand
primary-returns-in-Operand t c = leaf_read _ _ _ _ _ _ c.if-at-text.false (sym c.in-Operand.ensures) c.push.ensures.items

pub primary-returns-in_default : goal.primary-returns-in_default
primary-returns-in_default t c = fail_operand _ _ _ _ c.requires.within c.unexpected-in_default.ensures.0 c.unexpected-in_default.ensures.1 (λ lt. no_start _ (λ a e. c.in_default.not-Operand a (c.from.ensures ∙ e)) (λ e. c.in_default.not-Opening (c.from.ensures ∙ e)) (c.requires.plain lt))

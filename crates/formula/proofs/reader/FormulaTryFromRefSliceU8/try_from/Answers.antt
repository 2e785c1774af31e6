use Rattle.std.proofs.Common.{refl, arith}
use Rattle.std.proofs.lemmas.Result.{err_from_is_err_and}
use Rattle.formula.proofs.Fail.{fail_after}
use Rattle.formula.proofs.Refuse.{refused, read_all, spelled}
use Rattle.formula.proofs.reader.FormulaTryFromRefSliceU8.try_from.Goals as goal

pub returns-in_err-end : goal.returns-in_err-end
returns-in_err-end c = let p = err_from_is_err_and c.from_residual.result c.from_residual.ensures.1 in rw (p.1, p.2) (refused _ _ (omega arith) c.in_err-end.ensures)

pub returns-then-end-text : goal.returns-then-end-text
returns-then-end-text c = refused _ _ (omega arith) (fail_after _ 0 0 _ _ _ _ (omega arith) c.in_ok-end.ensures (λ lt e. refl) (λ eq. omega (arith, c.if-end-text.true)) c.unexpected.ensures.0 c.unexpected.ensures.1)

pub invariant_of-result-clause-spelled : goal.invariant_of-result-clause-spelled
invariant_of-result-clause-spelled c = ∣ spelled _ _ _ _ c.if-end-text.false c.new-steps.ensures c.in_ok-end.ensures ∣₁

pub returns : goal.returns
returns c = read_all _ _ _ _ (omega arith) c.if-end-text.false c.new-steps.ensures c.in_ok-end.ensures

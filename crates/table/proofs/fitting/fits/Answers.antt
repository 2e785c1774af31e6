use Rattle.std.proofs.Common.{arith}
use Rattle.std.proofs.lemmas.Bool.{both_ways}
use Rattle.table.proofs.fitting.fits.Goals as goal

pub returns-then-low_fits : goal.returns-then-low_fits
returns-then-low_fits c N ns p q =
    let l = (c.child_fits-low_fits.ensures N ns p).0 c.if-low_fits.true in
    let h = c.child_fits-high_fits.ensures N ns q in (
      (λ t. record {
        first = c.if-node-lt1.false;
        last = c.if-node-gt24.false;
        differ = c.if-node.false;
        low_issued = l.0;
        high_issued = (h.0 t).0;
        low_deeper = omega (arith, l.1);
        high_deeper = omega (arith, (h.0 t).1);
      }),
      (λ f. h.1 (f.high_issued, omega (arith, f.high_deeper))),
    )

pub returns-else-low_fits : goal.returns-else-low_fits
returns-else-low_fits c N ns p q = (
  (λ t. absurd (both_ways _ c.if-low_fits.false t)),
  (λ f. (c.child_fits-low_fits.ensures N ns p).1 (f.low_issued, omega (arith, f.low_deeper))),
)

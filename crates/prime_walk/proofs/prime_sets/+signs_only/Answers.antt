use Rattle.std.proofs.Common.{◌≡◌, ℕ, ◌%◌, sym, refl, ◌∙◌, arith}
use Rattle.std.proofs.lemmas.Bool.{false≢true, ne_eqb}
use Rattle.walk.proofs.Made.{gotten_none}
use Rattle.walk.proofs.Halves.{falls_under}
use Rattle.prime_walk.proofs.Signs.{signs_constant, signs_of_low, signs_of_high, odd_reads, even_signs, signs_low_issued, signs_high_issued, signs_low_falls, signs_high_falls}
use Rattle.prime_walk.proofs.prime_sets.+signs_only.Goals as goal
use Rattle.prime_walk.proofs.prime_sets.+signs_only.Goals.{then-n-eq0, else-n-eq0}

pub returns-in-Err : goal.returns-in-Err
returns-in-Err g t c = (λ _. signs_constant (g.T.NodeTable.nodes c.args.table.now) c.args.h (gotten_none c.requires c.in-Err.ensures), λ _. refl)

pub signs_only-requires : goal.signs_only-requires
signs_only-requires g t c κs within =
    let s = g.met.T.NodeTable.sound c.args.table.now in
    let n = c.in-Ok.ensures in
    (falls_under c.decreases (signs_low_falls s n), (within.0, (within.1, signs_low_issued s n)))

pub signs_only-requires-then-signs_only : goal.signs_only-requires-then-signs_only
signs_only-requires-then-signs_only g t c κs within =
    let s = g.met.T.NodeTable.sound c.args.table.now in
    let n = c.in-Ok.ensures in
    (falls_under c.decreases (signs_high_falls s n), (within.0, (within.1, signs_high_issued s n)))

even_odd : (m : ℕ) → m % 2 ≡ 0 → m % 2 ≡ 1 → ⊥
even_odd m p q = omega (arith, p, q)

odd_one : (m : ℕ) → (m % 2 ≡ 0 → ⊥) → m % 2 ≡ 1
odd_one m p = omega (arith, p)

pub returns-then-signs_only : goal.returns-then-signs_only
returns-then-signs_only g t c =
    let s = g.met.T.NodeTable.sound c.args.table.now in
    let n = c.in-Ok.ensures in (
      λ e.
          elim c.if-n-eq0.branch [
            | then-n-eq0 w ↦ even_signs s n (even_odd _ w.if-n-eq0.true) (w.signs_only.ensures.0 (sym w.value-is ∙ c.if-signs_only.true)) (c.signs_only-then-signs_only.ensures.0 e)
            | else-n-eq0 w ↦ absurd (false≢true (sym (ne_eqb _ _ w.if-n-eq0.false) ∙ sym w.value-is ∙ c.if-signs_only.true))
          ],
      λ z. c.signs_only-then-signs_only.ensures.1 (signs_of_high s n z),
    )

pub returns-else-signs_only : goal.returns-else-signs_only
returns-else-signs_only g t c =
    let s = g.met.T.NodeTable.sound c.args.table.now in
    let n = c.in-Ok.ensures in (
      λ e. absurd (false≢true (sym c.if-signs_only.false ∙ e)),
      λ z.
          elim c.if-n-eq0.branch [
            | then-n-eq0 w ↦ w.value-is ∙ w.signs_only.ensures.1 (signs_of_low s n z)
            | else-n-eq0 w ↦ absurd (odd_reads s n (odd_one _ w.if-n-eq0.false) z)
          ],
    )

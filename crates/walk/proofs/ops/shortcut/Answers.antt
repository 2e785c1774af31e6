use Rattle.std.proofs.Common.{◌<◌, eqb, sym, ◌∙◌, arith}
use Rattle.walk.specs.Ops.{answer}
use Rattle.walk.proofs.Shortened.{Complement, short_equal, short_left, short_right}
use Rattle.walk.proofs.ops.shortcut.Goals as goal
use Rattle.walk.proofs.ops.shortcut.Goals.{then-f-lt2+in_default, else-f-lt2}

pub returns-then-f-g : goal.returns-then-f-g
returns-then-f-g c = short_equal c.args.op _ _ _ _ c.simple.result c.if-f-g.true c.apply.ensures c.apply-then-f-g.ensures c.simple.ensures

pub returns-in-Some : goal.returns-in-Some
returns-in-Some c = short_left c.args.op _ _ _ _ _ c.if-f-lt2.true c.apply-then-f-lt2.ensures c.apply-then-f-lt2-2.ensures c.in-Some.ensures

pub returns-then-g-lt2 : goal.returns-then-g-lt2
returns-then-g-lt2 c =
    let left : c.args.f < 2 → Complement (answer c.args.op (eqb c.args.f 1)) =
    λ small.
    elim c.if-f-lt2.branch [
      | then-f-lt2+in_default w ↦
          let none = w.in_default.ensures.outcome in
          (sym w.apply-then-f-lt2.ensures ∙ none.0, sym w.apply-then-f-lt2-2.ensures ∙ none.1)
      | else-f-lt2 w ↦ absurd (omega (arith, w.if-f-lt2.false))
    ] in
    short_right c.args.op _ _ _ _ c.simple-then-g-lt2.result c.if-f-g.false left c.if-g-lt2.true c.apply-then-g-lt2.ensures c.apply-then-g-lt2-2.ensures c.simple-then-g-lt2.ensures

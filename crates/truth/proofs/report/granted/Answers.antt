use Rattle.std.proofs.Common.{sym, subst, rules}
use Rattle.formula.specs.Answer.{Read}
use Rattle.truth.specs.Report.{Known}
use Rattle.truth.proofs.Spelling.{known}
use Rattle.truth.proofs.report.granted.Goals as goal

pub counted-requires : goal.counted-requires
counted-requires c =
    let r : Read c.args.text.now c.unwrap-f.result = search rules in
    subst Known (sym r.steps) (known r.derived)

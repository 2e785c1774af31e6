use Rattle.std.proofs.Common.{rules}
use Rattle.std.proofs.lemmas.Result.{err_from_is_err_and}
use Rattle.card_text.specs.Faults.{inside}
use Rattle.card_text.specs.Reads.{row_of}
use Rattle.card_text.proofs.Once.{near}
use Rattle.card_text.proofs.state.Seen.advance.Goals as goal

pub judge-requires : goal.judge-requires
judge-requires c = near c.args.text.now c.args.at c.in-Some.found c.in-Some.ensures c.requires.short

pub returns-in_err-judge : goal.returns-in_err-judge
returns-in_err-judge c =
    let p = err_from_is_err_and c.from_residual.result c.from_residual.ensures.1 in
    let reads = c.in-Some.ensures in
    rw (p.1, p.2) (inside (row_of c.in-Some.found.record) _ reads.begins (search rules) (c.in_err-judge.ensures c.args.at reads.places))

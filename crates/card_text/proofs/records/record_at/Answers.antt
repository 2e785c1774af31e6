use Rattle.std.proofs.Common.{◌∙◌}
use Rattle.std.proofs.lemmas.List.{take_rest}
use Rattle.card_text.proofs.Lines.{feed_inside, unread_line}
use Rattle.card_text.proofs.records.record_at.Goals as goal

pub returns-in_err-n : goal.returns-in_err-n
returns-in_err-n c =
    let rest = c.in_ok-rest.ensures.lookup.0.2 ∙ take_rest c.args.text.now c.args.at in
    let free = rw rest at c.in_err-n.ensures in
    rw c.from_residual-in_err-n.ensures (λ row more b. feed_inside _ more (rw b.line at free))

pub returns-in_err-record : goal.returns-in_err-record
returns-in_err-record c =
    let rest = c.in_ok-rest.ensures.lookup.0.2 ∙ take_rest c.args.text.now c.args.at in
    rw c.from_residual-in_err-record.ensures (unread_line c.args.text.now c.args.at c.in_ok-rest.rest.now c.in_ok-n.n rest c.in_ok-n.ensures c.in_err-record.ensures)

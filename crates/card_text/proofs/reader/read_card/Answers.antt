use Rattle.std.proofs.Common.{◌∷◌, length, sym, refl, ap, ◌∙◌, arith, rules}
use Rattle.std.proofs.lemmas.Result.{err_from_is_err_and}
use Rattle.card_text.proofs.Walk.{arrived_more, refused, ended, no_end}
use Rattle.card_text.proofs.Once.{held_len}
use Rattle.card_text.proofs.Tails.{card_tail}
use Rattle.card_text.proofs.reader.read_card.Goals as goal

pub returns-in_err-at : goal.returns-in_err-at
returns-in_err-at c =
    let p = err_from_is_err_and c.from_residual.result c.from_residual.ensures.1 in
    let now = c.loop-at.invariant in
    rw (p.1, p.2) (refused c.args.text.now c.loop-at.at c.loop-at.seen now.0 now.1 (omega arith) _ (omega arith) c.in_err-at.ensures)

pub loop-at-preserved : goal.loop-at-preserved
loop-at-preserved c =
    let now = c.loop-at.invariant in
    let s = c.in_ok-at.ensures in
    (s.row ∷ now.0, arrived_more c.args.text.now c.loop-at.at c.loop-at.seen now.0 now.1 c.in_ok-at.at c.advance.new.self s)

pub returns-then-ne : goal.returns-then-ne
returns-then-ne c =
    let now = c.loop-at.invariant in
    no_end c.args.text.now c.loop-at.at c.loop-at.seen now.0 now.1 (omega arith) (omega arith) (search rules)

pub returns : goal.returns
returns c =
    let rows = c.loop-at.invariant.0 in
    let a = c.loop-at.invariant.1 in
    let card = ended c.args.text.now c.loop-at.at c.loop-at.seen rows a (omega arith) (omega arith) (search rules) in
    record {
      rows = rows;
      card = card;
      title_at = refl;
      title_is = a.title_is;
      options_is = c.len.ensures.value ∙ sym (held_len c.loop-at.seen) ∙ ap length a.held_is;
      uses_at = a.uses_at;
      tail = card_tail c.args.text.now rows c.loop-at.seen.uses card a.uses_at;
    }

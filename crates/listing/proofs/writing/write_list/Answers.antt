use Rattle.std.proofs.Common.{◌+◌, ◌≤◌, length, sym, ap, ◌∙◌, arith, rules}
use Rattle.diagram.specs.Nodes.{meaning}
use Rattle.implicant.specs.Lists.{listed}
use Rattle.implicant.specs.Variables.{products_of}
use Rattle.listing.specs.Counts.{Counted}
use Rattle.listing.specs.Listing.{last_row}
use Rattle.listing.proofs.Essentials.{counted_none}
use Rattle.listing.proofs.Finishing.{refused, finished}
use Rattle.listing.proofs.writing.write_list.Given as given
use Rattle.listing.proofs.writing.write_list.Goals as goal
use Rattle.listing.proofs.writing.write_list.Goals.{After-hand_over}

counted : (g : given.Over) (c : After-hand_over g) → Counted (listed 12 (products_of (meaning (g.T.NodeTable.nodes c.args.table.now) c.args.set))) c.hand_over.new.receiver.counts
counted g c = c.hand_over.ensures.all (counted_none c.new-counter.result.counts c.new-counter.ensures)

pub returns-then-out-end : goal.returns-then-out-end
returns-then-out-end g c =
    refused _ _ _ (counted g (goal.at.returns-then-out-end g c).After-hand_over) c.add_up-totals.ensures c.args.out.now (omega (arith, c.last_len.ensures.count, c.if-out-end.true))

pub returns : goal.returns
returns g c =
    let t = c.add_up-totals.result in
    let fits : t.bytes + length (last_row t.primes t.essential) ≤ length c.new-output.result.run.now = omega (arith, c.last_len.ensures.count, c.if-out-end.false, ap length c.new-output.ensures.bytes) in
    let name = c.put_last.ensures.lent ∙ c.put_rows.ensures.lent ∙ c.new-output.ensures.lent in
    finished _ _ _ (counted g (goal.at.returns g c).After-hand_over) c.add_up-totals.ensures c.new-output.ensures.start fits c.put_rows.ensures _ _ _ c.put_last.ensures c.written.ensures (sym c.new-output.ensures.bytes) (search (rules, name))

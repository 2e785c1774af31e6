use Rattle.std.proofs.Common.{◌≡◌, ◌-◌, arith}
use Rattle.table.proofs.Runs.{at_held}
use Rattle.table.proofs.plain.PlainTableNodeTable.get.Goals as goal

pub returns : goal.returns
returns c =
    let t = c.args.self.now in
    let place = c.in_ok-place.ensures in
    let e : c.args.handle - 2 ≡ c.in_ok-place.place = omega arith in
    record { outcome = at_held t.run.now t.held t.room c.args.handle _ (omega arith) (omega arith) (rw e) }

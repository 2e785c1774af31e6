use Rattle.std.proofs.Common.{arith}
use Rattle.diagram.proofs.Tables.{level_constant, level_at}
use Rattle.table.proofs.Children.{child_decides, got_at}
use Rattle.table.proofs.fitting.child_fits.Goals as goal

pub returns-then-handle-lt2 : goal.returns-then-handle-lt2
returns-then-handle-lt2 c N ns g =
    child_decides ns c.args.level c.args.handle 25 (omega arith) (level_constant ns c.args.handle c.if-handle-lt2.true)

pub returns-in-Ok : goal.returns-in-Ok
returns-in-Ok c N ns g =
    let a = got_at c.in-Ok.n g c.in-Ok.is in
    child_decides ns c.args.level c.args.handle c.in-Ok.n.level a.issued (level_at ns c.args.handle c.in-Ok.n a)

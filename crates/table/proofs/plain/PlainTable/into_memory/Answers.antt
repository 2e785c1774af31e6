use Rattle.std.proofs.Common.{refl}
use Rattle.table.specs.Held.{memory_held}
use Rattle.table.proofs.plain.PlainTable.into_memory.Goals as goal

pub returns : goal.returns
returns c =
    let t = c.args.self in
    let run = t.run.now in
    record { kept = refl; content = memory_held run t.held t.room t.cleared }

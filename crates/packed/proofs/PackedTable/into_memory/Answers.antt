use Rattle.std.proofs.Common.{refl}
use Rattle.packed.specs.Exact.{exact}
use Rattle.packed.proofs.PackedTable.into_memory.Goals as goal

pub returns : goal.returns
returns c =
    let t = c.args.self in
    record { kept = refl; content = exact t.held t.bytes.buf.now t.room t.laid }

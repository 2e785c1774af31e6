use Rattle.std.proofs.Common.{sym}
use Rattle.packed.specs.Held.{decode_length}
use Rattle.packed.proofs.PackedTableNodeTable.len.Goals as goal

pub returns : goal.returns
returns c = let t = c.args.self.now in record { value = sym (decode_length t.held t.bytes.buf.now) }

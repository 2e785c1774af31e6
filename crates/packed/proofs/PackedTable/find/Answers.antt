use Rattle.std.proofs.Common.{◌<◌, length, arith}
use Rattle.packed.specs.Layout.{size_of}
use Rattle.packed.specs.Props.{laid_out}
use Rattle.packed.specs.Held.{decode_length}
use Rattle.packed.proofs.PackedTable.find.Goals as goal

pub returns-then-self-eq0 : goal.returns-then-self-eq0
returns-then-self-eq0 c h a =
    let t = c.args.self.now in
    omega (arith, decode_length t.held t.bytes.buf.now, a.issued, a.two)

pub find-requires : goal.find-requires
find-requires c =
    let t = c.args.self.now in
    let r = t.room in
    let z = c.if-self-eq0.false in
    let h : 0 < size_of (length t.bytes.buf.now) = omega arith in
    record { room = omega arith; small = omega arith; laid = laid_out t.held t.bytes.buf.now t.laid h }

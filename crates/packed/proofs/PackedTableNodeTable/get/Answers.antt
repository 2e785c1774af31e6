use Rattle.std.proofs.Common.{◌≡◌, ◌-◌, sym, ap, ◌∙◌, arith}
use Rattle.std.proofs.lemmas.Result.{err_from_is_err_and}
use Rattle.table.specs.Faults.{fault}
use Rattle.table.specs.declared.faults.Reason.TheVariants.{NotIssued}
use Rattle.packed.specs.Held.{decode_length}
use Rattle.packed.specs.Layout.{slot}
use Rattle.packed.proofs.Chains.{at_slot}
use Rattle.packed.proofs.PackedTableNodeTable.get.Goals as goal

pub returns-in_err-place : goal.returns-in_err-place
returns-in_err-place c =
    let t = c.args.self.now in
    let l = decode_length t.held t.bytes.buf.now in
    let refused = c.in_err-place.ensures in
    let p = err_from_is_err_and c.from_residual.result c.from_residual.ensures.1 in
    rw (p.1, p.2) record { outcome = (λ two issued. omega (arith, refused.0 two), refused.1 ∙ ap (fault NotIssued) c.size.ensures.value) }

pub returns : goal.returns
returns c =
    let t = c.args.self.now in
    let bs = t.bytes.buf.now in
    let place = c.in_ok-place.ensures in
    let e : c.args.handle - 2 ≡ c.in_ok-place.place = omega arith in
    record { outcome = at_slot t.held bs c.args.handle c.node.result (omega arith) (omega arith) (ap (slot bs) e ∙ sym c.node.ensures) }

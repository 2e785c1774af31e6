use Rattle.std.proofs.Common.{◌<◌, length, Decides, refl, ap, inl, inr, arith}
use Rattle.std.proofs.lemmas.Bool.{both_ways}
use Rattle.diagram.specs.Nodes.{Fit}
use Rattle.table.specs.declared.faults.Reason.TheVariants.{IllFormed, Full}
use Rattle.table.specs.Faults.{fault}
use Rattle.packed.specs.Layout.{size_of, decode}
use Rattle.packed.specs.Held.{decode_length}
use Rattle.packed.proofs.PackedTableNodeTable.insert.Goals as goal
use Rattle.packed.proofs.PackedTableNodeTable.insert.Goals.{After-fits}

decided : (c : After-fits) → Decides c.fits.result (Fit (decode c.args.self.now.held c.args.self.now.bytes.buf.now) c.args.node)
decided c =
    let t = c.args.self.now in
    c.fits.ensures (size_of (length t.bytes.buf.now)) (decode t.held t.bytes.buf.now) c.get-low.ensures c.get-high.ensures

pub returns-then-not-fits-clause-inserted : goal.returns-then-not-fits-clause-inserted
returns-then-not-fits-clause-inserted c =
    let d = decided (goal.at.returns-then-not-fits-clause-inserted c).After-fits in
    record { outcome = inl (record { unfit = λ f. both_ways _ c.if-not-fits.true (d.1 f); is = ap (fault IllFormed) c.size-size.ensures.value; kept = refl }) }

pub returns-in-Some-clause-inserted : goal.returns-in-Some-clause-inserted
returns-in-Some-clause-inserted c =
    let d = decided (goal.at.returns-in-Some-clause-inserted c).After-fits in
    record { outcome = (d.0 c.if-not-fits.false, inl (record { at = c.in-Some.ensures; kept = refl })) }

pub returns-then-self-size-clause-inserted : goal.returns-then-self-size-clause-inserted
returns-then-self-size-clause-inserted c =
    let t = c.args.self.now in
    let bs = t.bytes.buf.now in
    let d = decided (goal.at.returns-then-self-size-clause-inserted c).After-fits in
    let e = decode_length t.held bs in
    let r = t.room in
    record { outcome = inr (record { fit = d.0 c.if-not-fits.false; absent = c.in_default.ensures; full = omega arith; is = ap (fault Full) c.size-size.ensures.value; kept = refl }) }

pub enter-requires : goal.enter-requires
enter-requires c =
    let d = decided (goal.at.enter-requires c).After-fits in
    record { room = omega arith; fit = d.0 c.if-not-fits.false; absent = c.in_default.ensures }

pub returns : goal.returns
returns c =
    let t = c.args.self.now in
    let u = c.enter.new.self in
    let bs = t.bytes.buf.now in
    let d = decided (goal.at.returns c).After-fits in
    let e = decode_length t.held bs in
    let x = c.enter.ensures in
    let r : t.held < size_of (length bs) = omega arith in
    record {
      inserted = record { outcome = (d.0 c.if-not-fits.false, inr (record { absent = c.in_default.ensures; room = omega arith; handle = omega (arith, x.handle); added = x.nodes })) };
      room = record { size = ap size_of x.length; rest = x.rest };
    }

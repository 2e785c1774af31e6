use Rattle.std.proofs.Common.{◌≡◌, ◌+◌, ◌<◌, sym, refl, ap, subst, inl, arith}
use Rattle.std.proofs.lemmas.Bool.{both_ways}
use Rattle.diagram.specs.Nodes.{Fit, WellFormed}
use Rattle.table.specs.declared.faults.Reason.TheVariants.{IllFormed}
use Rattle.table.specs.Faults.{fault}
use Rattle.table.specs.Plain.{plain_nodes, plain_size}
use Rattle.table.specs.Props.{formed_out, cleared_out}
use Rattle.table.proofs.Runs.{absent_held, found_held, full_held, entered_held, size_entered, rest_entered, nodes_entered, cleared_entered}
use Rattle.table.proofs.plain.PlainTableNodeTable.insert.Goals as goal

pub returns-then-not-fits-clause-inserted : goal.returns-then-not-fits-clause-inserted
returns-then-not-fits-clause-inserted c =
    let t = c.args.self.now in
    let run = t.run.now in
    let fits = c.fits.ensures (plain_size run) (plain_nodes t.held run) c.get-low.ensures c.get-high.ensures in
    let unfit : ¬ Fit (plain_nodes t.held run) c.args.node = λ f. both_ways _ c.if-not-fits.true (fits.1 f) in
    record { outcome = inl (record { unfit = unfit; is = ap (fault IllFormed) c.size-size.ensures.value; kept = refl }) }

pub returns-in-Some-clause-inserted : goal.returns-in-Some-clause-inserted
returns-in-Some-clause-inserted c =
    let t = c.args.self.now in
    let run = t.run.now in
    let fit = (c.fits.ensures (plain_size run) (plain_nodes t.held run) c.get-low.ensures c.get-high.ensures).0 c.if-not-fits.false in
    let found = c.in-Some.ensures in
    let r = t.room in
    let h = c.handle_at.ensures in
    found_held run t.held t.room c.args.node c.in-Some.place c.handle_at.result fit found.0 found.1 (omega arith)

pub returns-then-at-size-clause-inserted : goal.returns-then-at-size-clause-inserted
returns-then-at-size-clause-inserted c =
    let t = c.args.self.now in
    let run = t.run.now in
    let fit = (c.fits.ensures (plain_size run) (plain_nodes t.held run) c.get-low.ensures c.get-high.ensures).0 c.if-not-fits.false in
    let absent = absent_held run t.held t.room c.args.node c.in_default.ensures in
    full_held run t.held t.room c.args.node c.size-size.result fit absent (omega arith) c.size-size.ensures.value

pub invariant_of-self : goal.invariant_of-self
invariant_of-self c =
    let t = c.args.self.now in
    let run = t.run.now in
    let n = c.args.node in
    let fit = (c.fits.ensures (plain_size run) (plain_nodes t.held run) c.get-low.ensures c.get-high.ensures).0 c.if-not-fits.false in
    let absent = absent_held run t.held t.room n c.in_default.ensures in
    let less : t.held < plain_size run = omega arith in
    let size = size_entered run t.held n _ less refl in
    record {
      room = omega arith;
      formed = ∣ subst WellFormed (sym (nodes_entered run t.held n _ less refl)) (fit, absent, formed_out t.held run t.formed) ∣₁;
      cleared = ∣ cleared_entered run t.held n _ less refl (cleared_out t.held run t.cleared) ∣₁;
    }

pub returns : goal.returns
returns c =
    let t = c.args.self.now in
    let run = t.run.now in
    let n = c.args.node in
    let fit = (c.fits.ensures (plain_size run) (plain_nodes t.held run) c.get-low.ensures c.get-high.ensures).0 c.if-not-fits.false in
    let absent = absent_held run t.held t.room n c.in_default.ensures in
    let less : t.held < plain_size run = omega arith in
    let h = c.handle_at-2.ensures in
    let is : c.handle_at-2.result ≡ t.held + 2 = omega arith in
    record {
      inserted = entered_held run t.held t.room n c.handle_at-2.result _ fit absent less is (nodes_entered run t.held n _ less refl);
      room = record { size = size_entered run t.held n _ less refl; rest = rest_entered run t.held n _ less refl };
    }

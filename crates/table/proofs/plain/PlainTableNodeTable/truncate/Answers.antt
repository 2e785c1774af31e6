use Rattle.std.proofs.Common.{◌≡◌, ◌-◌, ◌++◌, ◌≤◌, take, drop, arith}
use borrow.Rule.Slice.PartMut.{put_mid}
use Rattle.table.specs.Plain.{zeros}
use Rattle.table.specs.Props.{formed_out, cleared_out}
use Rattle.table.proofs.Runs.{filled, size_cut, rest_cut, cleared_cut, formed_cut, nodes_cut}
use Rattle.table.proofs.plain.PlainTableNodeTable.truncate.Goals as goal
use Rattle.table.proofs.plain.PlainTableNodeTable.truncate.Goals.{After-fill}

cut : (c : After-fill) → put_mid c.args.count (c.args.self.now.held - c.args.count) c.args.self.now.run.now c.fill.new.self ≡ take c.args.count c.args.self.now.run.now ++ zeros c.args.self.now.held c.args.count (drop c.args.self.now.held c.args.self.now.run.now)
cut c =
    let t = c.args.self.now in
    let r = t.room in
    filled t.run.now c.args.count t.held c.default.result c.fill.new.self (omega arith) (omega arith) c.default.ensures (c.fill.ensures.after (λ y e. e))

pub invariant_of-self : goal.invariant_of-self
invariant_of-self c =
    let t = c.args.self.now in
    let m = c.args.count in
    let run = t.run.now in
    let less : m ≤ t.held = omega arith in
    let e = cut (goal.at.invariant_of-self c).After-fill in
    record {
      room = (let s = size_cut run m t.held _ t.room less e in omega arith);
      formed = ∣ formed_cut run m t.held _ t.room less e (formed_out t.held run t.formed) ∣₁;
      cleared = ∣ cleared_cut run m t.held _ t.room less e (cleared_out t.held run t.cleared) ∣₁;
    }

pub returns-then-n-at : goal.returns-then-n-at
returns-then-n-at c =
    let t = c.args.self.now in
    let m = c.args.count in
    let run = t.run.now in
    let less : m ≤ t.held = omega arith in
    let e = cut (goal.at.returns-then-n-at c).After-fill in
    record {
      nodes = nodes_cut run m t.held _ t.room less e;
      room = record { size = size_cut run m t.held _ t.room less e; rest = rest_cut run m t.held _ t.room less e (cleared_out t.held run t.cleared) };
    }

use Rattle.walk.proofs.Made.{same_walked, sides_fit, inserted, walked_extends}
use Rattle.walk.proofs.Props.{right_out}
use Rattle.walk.proofs.Remembered.{right_kept}
use Rattle.walk.proofs.manager.Manager.make.Goals as goal

pub returns-then-low-high-clause-value : goal.returns-then-low-high-clause-value
returns-then-low-high-clause-value g c = same_walked (g.met.T.NodeTable.sound c.args.self.now.table).formed c.requires.low c.if-low-high.true

pub invariant_of-self : goal.invariant_of-self
invariant_of-self g c =
    let t = c.args.self.now.table in
    let w = (g.met.T.NodeTable.sound t).formed in
    let walked = inserted (g.T.NodeTable.limit t) w (sides_fit w c.requires.first c.requires.low c.requires.high c.if-low-high.false) c.insert.result _ c.insert.ensures.inserted in
    record { right = ∣ right_kept (walked_extends c.insert.result walked) (right_out w c.args.self.now.right) ∣₁ }

pub returns-clause-value : goal.returns-clause-value
returns-clause-value g c =
    let t = c.args.self.now.table in
    let w = (g.met.T.NodeTable.sound t).formed in
    inserted (g.T.NodeTable.limit t) w (sides_fit w c.requires.first c.requires.low c.requires.high c.if-low-high.false) c.insert.result _ c.insert.ensures.inserted

use Rattle.std.proofs.Common.{◌≡◌, ℕ, ◌+◌, ◌*◌, ◌≤◌, sym, ap, ◌∙◌, subst, arith}
use mathlib.Core.Logic.{∥∥₁_map}
use Rattle.diagram.specs.Nodes.{WellFormed}
use Rattle.packed.specs.Layout.{size_of, chain_of}
use Rattle.packed.specs.Inner.{put16}
use Rattle.packed.specs.Props.{laid_out}
use Rattle.packed.proofs.Entering.{Entered, entered}
use Rattle.packed.proofs.PackedTable.enter.Goals as goal
use Rattle.packed.proofs.PackedTable.enter.Goals.{After-set_head}

handle : (c : After-set_head) → c.handle_at-handle.result ≡ c.args.self.now.held + 2
handle c = let h = c.handle_at-handle.ensures in let r = c.requires.room in omega arith

outcome : (c : After-set_head) → Entered c.args.self.now.held c.args.self.now.bytes.buf.now c.set_head.new.self.buf.now c.args.node
outcome c =
    let t = c.args.self.now in
    let bs = t.bytes.buf.now in
    let bs₁ = c.put_slot.new.self.buf.now in
    let bs₂ = c.set_head.new.self.buf.now in
    entered t.held bs bs₁ bs₂ c.args.node c.head-link.result c.requires.room c.put_slot.ensures.frame c.put_slot.ensures.slot c.head-link.ensures
    (c.set_head.ensures ∙ ap (put16 bs₁ (2 * chain_of c.args.node)) (handle c))
    (laid_out t.held bs t.laid (let r = c.requires.room in omega arith))

pub returns : goal.returns
returns c =
    let x = outcome (goal.at.returns c).After-set_head in
    record { handle = handle (goal.at.returns c).After-set_head; nodes = x.nodes; length = x.long; rest = x.rest }

pub invariant_of-self : goal.invariant_of-self
invariant_of-self c =
    let t = c.args.self.now in
    let x = outcome c in
    let r = c.requires.room in record { room = subst (λ (l : ℕ). t.held + 1 ≤ size_of l) (sym x.long) (omega arith); formed = ∥∥₁_map t.formed (λ p. subst WellFormed (sym x.nodes) (c.requires.fit, c.requires.absent, p)); laid = ∣ (λ _. x.laid) ∣₁ }

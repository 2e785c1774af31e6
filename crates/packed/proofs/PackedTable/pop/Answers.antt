use Rattle.std.proofs.Common.{◌≡◌, ℕ, ◌+◌, ◌-◌, ◌*◌, ◌≤◌, drop, sym, ap, ◌∙◌, subst, arith}
use mathlib.Core.Logic.{∥∥₁_map}
use Rattle.diagram.specs.Nodes.{WellFormed}
use Rattle.packed.specs.Layout.{size_of, decode, chain_of}
use Rattle.packed.specs.Inner.{put16, Laid}
use Rattle.packed.specs.Props.{laid_out}
use Rattle.packed.proofs.Leaving.{Left, left}
use Rattle.packed.proofs.PackedTable.pop.Goals as goal
use Rattle.packed.proofs.PackedTable.pop.Goals.{After-clear_slot}

outcome : (c : After-clear_slot) → Left (c.args.self.now.held - 1) c.args.self.now.bytes.buf.now c.clear_slot.new.self.buf.now
outcome c =
    let t = c.args.self.now in
    let k = t.held - 1 in
    let bs = t.bytes.buf.now in
    let r = t.room in
    let h = c.requires in
    let s : t.held ≡ k + 1 = omega arith in
    left k bs c.set_head.new.self.buf.now c.clear_slot.new.self.buf.now (omega arith)
    (c.set_head.ensures ∙ (λ i. put16 bs (2 * chain_of (c.node-node.ensures i)) (c.link-link.ensures i)))
    c.clear_slot.ensures.frame c.clear_slot.ensures.cleared
    (subst (λ (x : ℕ). Laid x bs) s (laid_out t.held bs t.laid (omega arith)))

pub invariant_of-self : goal.invariant_of-self
invariant_of-self c =
    let t = c.args.self.now in
    let k = t.held - 1 in
    let bs = t.bytes.buf.now in
    let r = t.room in
    let h = c.requires in
    let s : t.held ≡ k + 1 = omega arith in
    let x = outcome c in record { room = subst (λ (l : ℕ). k ≤ size_of l) (sym x.long) (omega arith); formed = ∥∥₁_map t.formed (λ p. (subst WellFormed (ap (λ (m : ℕ). decode m bs) s ∙ x.nodes) p).2); laid = ∣ (λ _. x.laid) ∣₁ }

pub returns : goal.returns
returns c =
    let t = c.args.self.now in
    let bs = t.bytes.buf.now in
    let h = c.requires in
    let s : t.held - 1 + 1 ≡ t.held = omega arith in
    let x = outcome (goal.at.returns c).After-clear_slot in
    record {
      held = s;
      nodes = sym (ap (λ (m : ℕ). drop 1 (decode m bs)) (sym s) ∙ ap (drop 1) x.nodes);
      length = x.long;
      rest = x.rest;
    }

use Rattle.std.proofs.Common.{rules, ◌≡◌, ◌≤◌, sym, ◌∙◌, subst, inl, inr, arith}
use Rattle.packed.proofs.Chains.{Passed, passed_start, passed_next, next_less, passed_all, at_slot}
use Rattle.packed.proofs.Bytes.find.Goals as goal
use Rattle.packed.proofs.Bytes.find.Goals.{After-node}

pub loop-h-init : goal.loop-h-init
loop-h-init c = passed_start c.args.held c.args.self.now.buf.now c.requires.laid c.args.node c.head-h.result c.head-h.ensures (omega arith)

two : (c : After-node) → 2 ≤ c.loop-h.h
two c = let t = c.loop-h-test.true in elim c.loop-h.invariant.real [ inl e ↦ absurd (omega arith) | inr h ↦ h ]

pub loop-h-smaller : goal.loop-h-smaller
loop-h-smaller c = next_less c.args.held c.args.self.now.buf.now c.requires.laid c.args.node c.loop-h.h c.link-h.result c.loop-h.invariant (two (goal.at.loop-h-smaller c).After-node) c.link-h.ensures

pub loop-h-preserved : goal.loop-h-preserved
loop-h-preserved c =
    let bs = c.args.self.now.buf.now in
    passed_next c.args.held bs c.requires.laid c.args.node c.loop-h.h c.link-h.result c.loop-h.invariant (two (goal.at.loop-h-preserved c).After-node)
    (λ e. search rules)
    c.link-h.ensures

pub returns-then-eq : goal.returns-then-eq
returns-then-eq c =
    let p = (goal.at.returns-then-eq c).After-node in
    let e : c.node.result ≡ c.args.node = search rules in
    at_slot c.args.held c.args.self.now.buf.now c.loop-h.h c.args.node (two p) c.loop-h.invariant.issued (sym c.node.ensures ∙ e)

pub returns : goal.returns
returns c =
    let bs = c.args.self.now.buf.now in
    let z : c.loop-h.h ≡ 0 = (let t = c.loop-h-test.false in omega arith) in
    passed_all c.args.held bs c.requires.laid c.args.node (subst (Passed c.args.held bs c.args.node) z c.loop-h.invariant)

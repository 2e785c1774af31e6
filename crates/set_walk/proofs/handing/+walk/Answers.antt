use Rattle.std.proofs.Common.{◌≡◌, ◌<◌, List, [], ◌∷◌, ◌++◌, sym, ap, ◌∙◌, subst, append-nil, arith}
use Rattle.product.specs.Words.{Words}
use Rattle.diagram.specs.Nodes.{meaning}
use Rattle.walk.proofs.Halves.{branch_sides}
use Rattle.set_walk.specs.declared.prefix.Prefix.{Prefix}
use Rattle.set_walk.specs.Prefixes.{handed}
use Rattle.set_walk.proofs.Walking.{handed_none, handed_last, no_answers, last_answers, walked_more}
use Rattle.set_walk.proofs.handing.+walk.Goals as goal

pub returns-then-set-eq0 : goal.returns-then-set-eq0
returns-then-set-eq0 g t c = λ start ps fed.
    let ns = g.T.NodeTable.nodes c.args.table.now in
    let none = handed_none c.args.before (meaning ns c.args.set) (no_answers ns c.args.set c.if-set-eq0.true) in
    subst (λ (qs : List (Words 12)). g.R.Receiver.fed start c.args.receiver.now qs) (sym (ap (λ (qs : List (Words 12)). ps ++ qs) none ∙ append-nil ps)) fed

pub returns-then-before-eq12 : goal.returns-then-before-eq12
returns-then-before-eq12 g t c = λ start ps fed.
    let table = c.args.table.now in
    let ns = g.T.NodeTable.nodes table in
    let yes = last_answers ns c.args.set (g.met.T.NodeTable.sound table).formed c.requires.issued (omega (arith, c.requires.level, c.if-before-eq12.true)) c.if-set-eq0.false in
    let last = sym (handed_last c.args.before (meaning ns c.args.set) c.if-before-eq12.true yes ∙ ap (λ (w : Words 12). w ∷ []) (sym c.product.ensures)) in
    subst (λ (qs : List (Words 12)). g.R.Receiver.fed start c.take.new.self (ps ++ qs)) last (c.take.ensures start ps fed)

before_last : (b : Prefix) → (b.gone ≡ 12 → ⊥) → b.gone < 12
before_last b ne = omega (arith, b.begun.few)

pub returns : goal.returns
returns g t c = λ start ps fed.
    let table = c.args.table.now in
    let ns = g.T.NodeTable.nodes table in
    let b = c.args.before in
    let w = (g.met.T.NodeTable.sound table).formed in
    let next = before_last b c.if-before-eq12.false in
    let d = branch_sides w (omega arith) c.branches-no.ensures in
    let x = branch_sides w (omega arith) c.branches-absent.ensures in
    let y = branch_sides w (omega arith) c.branches-refused.ensures in
    let one = ps ++ handed c.with.result (meaning ns c.branches-absent.result.0) in
    let two = one ++ handed c.with-2.result (meaning ns c.branches-refused.result.0) in
    subst (λ (qs : List (Words 12)). g.R.Receiver.fed start c.walk-3.new.receiver qs)
    (walked_more b next d x y c.with.ensures c.with-2.ensures c.with-3.ensures ps)
    (c.walk-3.ensures start two (c.walk-2.ensures start one (c.walk.ensures start ps fed)))

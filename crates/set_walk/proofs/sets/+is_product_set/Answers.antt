use Rattle.std.proofs.Common.{◌≡◌, ℕ, true, ◌↔◌, sym, refl, ◌∙◌, arith, rules}
use Rattle.std.proofs.lemmas.Bool.{false≢true, eq-eqb}
use Rattle.diagram.specs.Nodes.{meaning}
use Rattle.implicant.specs.Variables.{ProductSet}
use Rattle.walk.proofs.Made.{gotten_none}
use Rattle.walk.proofs.Halves.{falls_under}
use Rattle.set_walk.proofs.Deciding.{constant_set, node_fit, deeper_falls, even_node, sign_last, absent_set, no_falls, yes_falls, refused_set, wanted_set, whole_set, unread_set}
use Rattle.set_walk.proofs.sets.+is_product_set.Given as given
use Rattle.set_walk.proofs.sets.+is_product_set.Goals as goal
use Rattle.set_walk.proofs.sets.+is_product_set.Goals.{Joined-is_product_set, then-is_product_set, else-is_product_set}

pub returns-in-Err : goal.returns-in-Err
returns-in-Err g t c = (λ _. constant_set (g.T.NodeTable.nodes c.args.table.now) c.args.h (gotten_none c.requires c.in-Err.ensures), λ _. refl)

pub returns-in-Ok : goal.returns-in-Ok
returns-in-Ok g t c = (λ e. absurd (false≢true e), λ z. absurd (even_node (g.met.T.NodeTable.sound c.args.table.now) c.in-Ok.ensures c.if-n-eq0.true z))

pub overflow_add-n : goal.overflow_add-n
overflow_add-n g t c =
    let few = sign_last (g.met.T.NodeTable.sound c.args.table.now) c.in-Ok.ensures c.if-n-eq0.false in
    search (rules, few)

pub branches-no-requires : goal.branches-no-requires
branches-no-requires g t c =
    let s = g.met.T.NodeTable.sound c.args.table.now in
    let n = c.in-Ok.ensures in
    let f = node_fit s n in
    record { issued = f.high_issued; level = omega (arith, f.high_deeper); last = sign_last s n c.if-n-eq0.false }

pub is_product_set-requires : goal.is_product_set-requires
is_product_set-requires g t c κs within =
    let s = g.met.T.NodeTable.sound c.args.table.now in
    let n = c.in-Ok.ensures in
    let f = node_fit s n in
    (falls_under c.decreases (deeper_falls s n c.in-Ok.n.low f.low_deeper), (within.0, (within.1, f.low_issued)))

pub is_product_set-requires-then-is_product_set : goal.is_product_set-requires-then-is_product_set
is_product_set-requires-then-is_product_set g t c κs within =
    let d = c.branches-no.ensures in
    (falls_under c.decreases (no_falls (g.met.T.NodeTable.sound c.args.table.now) c.in-Ok.ensures c.if-n-eq0.false d), (within.0, (within.1, d.lo_issued)))

pub is_product_set-requires-else-no-yes : goal.is_product_set-requires-else-no-yes
is_product_set-requires-else-no-yes g t c κs within =
    let d = c.branches-no.ensures in
    (falls_under c.decreases (yes_falls (g.met.T.NodeTable.sound c.args.table.now) c.in-Ok.ensures c.if-n-eq0.false d), (within.0, (within.1, d.hi_issued)))

-- The first two tests tell of the sets without the option and with it refused.
tests : (g : given.Over) (t : ℕ) (c : Joined-is_product_set g t)
    → let ns = g.T.NodeTable.nodes c.args.table.now in (c.if-is_product_set.value ≡ true) ↔ (ProductSet (meaning ns c.in-Ok.n.low) × ProductSet (meaning ns c.branches-no.result.0))
tests g t c =
    elim c.if-is_product_set.branch [
      | then-is_product_set w ↦
          let refused = w.is_product_set-then-is_product_set.ensures in
          (λ e. (c.is_product_set.ensures.0 w.if-is_product_set.true, refused.0 (sym w.value-is ∙ e)), λ s. w.value-is ∙ refused.1 s.1)
      | else-is_product_set w ↦
          let not = λ (e : c.is_product_set.result ≡ true). false≢true (sym w.if-is_product_set.false ∙ e) in
          (λ e. absurd (not (sym w.value-is ∙ e)), λ s. absurd (not (c.is_product_set.ensures.1 s.0)))
    ]

pub returns-then-no-yes : goal.returns-then-no-yes
returns-then-no-yes g t c =
    let s = g.met.T.NodeTable.sound c.args.table.now in
    let parts = (tests g t (goal.at.returns-then-no-yes g t c).Joined-is_product_set).0 c.if-is_product_set-2.true in
    (λ _. unread_set s c.in-Ok.ensures c.if-n-eq0.false c.branches-no.ensures c.if-no-yes.true parts.0 parts.1, λ _. eq-eqb _ _ c.if-no-yes.true)

pub returns-else-no-yes : goal.returns-else-no-yes
returns-else-no-yes g t c =
    let s = g.met.T.NodeTable.sound c.args.table.now in
    let n = c.in-Ok.ensures in
    let d = c.branches-no.ensures in
    let wanted = c.is_product_set-else-no-yes.ensures in
    let parts = (tests g t (goal.at.returns-else-no-yes g t c).Joined-is_product_set).0 c.if-is_product_set-2.true in
    (λ e. whole_set s n c.if-n-eq0.false d parts.0 parts.1 (wanted.0 e), λ z. wanted.1 (wanted_set s n c.if-n-eq0.false d z))

pub returns-else-is_product_set-2 : goal.returns-else-is_product_set-2
returns-else-is_product_set-2 g t c =
    let s = g.met.T.NodeTable.sound c.args.table.now in
    let n = c.in-Ok.ensures in
    let told = tests g t (goal.at.returns-else-is_product_set-2 g t c).Joined-is_product_set in (
      λ e. absurd (false≢true (sym c.if-is_product_set-2.false ∙ e)),
      λ z. told.1 (absent_set s n c.if-n-eq0.false z, refused_set s n c.if-n-eq0.false c.branches-no.ensures z),
    )

use Rattle.std.proofs.Common.{◌≡◌, ℕ, ◌≤◌, List, length, drop, sym, subst, rules}
use Rattle.std.proofs.lemmas.Result.{err_from_is_err_and}
use Rattle.table.specs.Room.{same_room_trans}
use Rattle.card_text.specs.Card.{Tail}
use Rattle.card_walk.proofs.Going.{reached_none, use_derived, use_formula, use_tree, reached_more, reached_refused, reached_all}
use Rattle.card_walk.proofs.uses.run_uses.Goals as goal

pub loop-formula-init : goal.loop-formula-init
loop-formula-init g c =
    let it = c.into_iter-formula-iterator.result in
    let text : it.text.now ≡ c.args.text.now = search rules in
    let from : drop it.at it.text.now ≡ drop c.args.uses c.args.text.now = search rules in
    ((λ fs ts t d. reached_none fs ts (g.met.T.NodeTable.sound c.args.manager.now.table).formed (subst (λ (l : List ℕ). length l ≤ 4096) (sym text) c.requires.short) (subst (Tail fs) (sym from) t) d), search rules)

pub run_use-requires-clause-formula : goal.run_use-requires-clause-formula
run_use-requires-clause-formula g c =
    let p = c.requires.card in
    use_formula (c.loop-formula.invariant.0 p.0 p.1 p.2 p.3) c.next.new.self c.in-Some.ensures.steps

pub returns-in_err-sum-clause-value : goal.returns-in_err-sum-clause-value
returns-in_err-sum-clause-value g c fs ts t d =
    let next = c.next.new.self in
    let a = c.in-Some.ensures.steps in
    let p = err_from_is_err_and c.from_residual.result c.from_residual.ensures.1 in
    let r = c.loop-formula.invariant.0 fs ts t d in
    rw (p.1, p.2) (reached_refused r next a c.loop-formula.invariant.1.size (c.in_err-sum.ensures.value (use_tree r next a) (use_derived r next a)))

pub loop-formula-preserved : goal.loop-formula-preserved
loop-formula-preserved g c =
    let next = c.next.new.self in
    let a = c.in-Some.ensures.steps in
    let made = c.in_ok-sum.ensures in (
      (λ fs ts t d. let r = c.loop-formula.invariant.0 fs ts t d in reached_more r next a (made.value (use_tree r next a) (use_derived r next a)).outcome),
      same_room_trans c.loop-formula.invariant.1 made.room,
    )

pub returns-clause-value : goal.returns-clause-value
returns-clause-value g c fs ts t d = reached_all (c.loop-formula.invariant.0 fs ts t d) c.in-None.ensures.steps

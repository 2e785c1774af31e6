use Rattle.std.proofs.Common.{ℕ, ◌≤◌, List, length, Err, refl, sym, ap, ◌∙◌, subst, inr, arith}
use Rattle.std.proofs.lemmas.Result.{err_from_is_err_and}
use Rattle.diagram.specs.Nodes.{meaning}
use Rattle.implicant.specs.Implicants.{Condition}
use Rattle.implicant.specs.Variables.{ArePrimes}
use Rattle.card_text.specs.Card.{formulas}
use Rattle.card_text.proofs.Layouts.{card_written}
use Rattle.card_walk.specs.Shown.{CardWritten}
use Rattle.card_walk.proofs.Trees.{card_trees}
use Rattle.engine.proofs.Showing.{primes_within, retitled, show_full, show_refused, primes_kept, kept_primes, shown_primes, show_ended}
use Rattle.engine.proofs.shows.show.Goals as goal

pub returns-in_err-outline-clause-out : goal.returns-in_err-outline-clause-out
returns-in_err-outline-clause-out g c =
    let p = err_from_is_err_and c.from_residual.result c.from_residual.ensures.1 in
    record { outcome = inr (record { fault = _; refused = c.in_err-outline.ensures; is = p.1 ∙ ap Err p.2; nodes = refl; output = refl }) }

pub sum_uses-requires : goal.sum_uses-requires
sum_uses-requires g c =
    let o = c.in_ok-outline.ensures in
    let t = card_trees o.rows o.card.good in
    record { short = o.card.short; card = (formulas o.rows, t.0, o.tail, t.1) }

pub returns-in_err-condition-clause-out : goal.returns-in_err-condition-clause-out
returns-in_err-condition-clause-out g c =
    let o = c.in_ok-outline.ensures in
    let t = card_trees o.rows o.card.good in
    let made = c.in_err-condition.ensures in
    let p = err_from_is_err_and c.from_residual-in_err-condition.result c.from_residual-in_err-condition.ensures.1 in
    show_full _ _ _ _ o.rows o.card t.0 t.1 c.in_err-condition.field-0.0 _ _ (p.1 ∙ ap Err p.2) (made.out (formulas o.rows) t.0 o.tail t.1)

pub returns-in_err-set-clause-out : goal.returns-in_err-set-clause-out
returns-in_err-set-clause-out g c =
    let o = c.in_ok-outline.ensures in
    let t = card_trees o.rows o.card.good in
    let made = c.in_ok-condition.ensures in
    let sum = made.out (formulas o.rows) t.0 o.tail t.1 in
    let p = err_from_is_err_and c.from_residual-in_err-set.result c.from_residual-in_err-set.ensures.1 in
    show_refused _ _ _ _ o.rows o.card t.0 t.1 _ _ sum c.primes-made.result c.in_err-set.field-0.0 _ c.len-held.result _ _ (p.1 ∙ ap Err p.2) c.len-held.ensures (primes_within made.room.size c.primes-made.ensures.out) c.in_err-set.ensures.ended

pub write_card-written-requires-clause-primes : goal.write_card-written-requires-clause-primes
write_card-written-requires-clause-primes g c =
    let T = g.T.NodeTable in
    let o = c.in_ok-outline.ensures in
    let t = card_trees o.rows o.card.good in
    let made = c.in_ok-condition.ensures in
    let sum = made.out (formulas o.rows) t.0 o.tail t.1 in
    let set = c.in_ok-set.set in
    let k = primes_kept c.primes-made.result set c.len-held.result _ _ c.in_ok-set.ensures.ended in
    let p = kept_primes (primes_within made.room.size c.primes-made.ensures.out) k in
    subst (λ s. (f : Condition 12) × ArePrimes 12 0 f (meaning (T.nodes s) set)) (sym c.graph.view_is) (shown_primes _ _ _ c.args.out.now o.rows o.card t.0 t.1 _ _ sum set _ p)

pub write_card-written-requires-clause-short : goal.write_card-written-requires-clause-short
write_card-written-requires-clause-short g c =
    let o = c.in_ok-outline.ensures in
    let titled = (card_written c.args.text.now o.rows o.card).titled in
    subst (λ (x : List ℕ). length x ≤ 4096) (sym o.title_is) (omega (arith, titled.short))

pub returns-clause-out : goal.returns-clause-out
returns-clause-out g c =
    let T = g.T.NodeTable in
    let o = c.in_ok-outline.ensures in
    let t = card_trees o.rows o.card.good in
    let made = c.in_ok-condition.ensures in
    let sum = made.out (formulas o.rows) t.0 o.tail t.1 in
    let set = c.in_ok-set.set in
    let k = primes_kept c.primes-made.result set c.len-held.result _ _ c.in_ok-set.ensures.ended in
    let p = kept_primes (primes_within made.room.size c.primes-made.ensures.out) k in
    let w = c.write_card-written in
    let title = c.in_ok-outline.outline.title.bytes.now in
    let l = subst (λ s. CardWritten title (meaning (T.nodes s) set) w.result c.args.out.now w.new.out) c.graph.view_is w.ensures in
    show_ended _ _ _ _ o.rows o.card t.0 t.1 _ _ sum set _ p w.result _ c.len-held.result _ _ c.len-held.ensures (retitled o.title_is l) c.end-2.ensures.ended

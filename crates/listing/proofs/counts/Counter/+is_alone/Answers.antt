use Rattle.std.proofs.Common.{ℕ, ◌+◌, ◌-◌, ◌*◌, ◌^◌, ◌<◌, ◌≤◌, Bool, true, false, ◌||◌, sym, refl, ap, ◌∙◌, arith}
use Rattle.product.specs.Masks.{words}
use Rattle.listing.specs.Counts.{next, alone}
use Rattle.listing.proofs.Marking.{next_below, alone_none, alone_absent, alone_refused, alone_wanted}
use Rattle.listing.proofs.counts.Counter.+is_alone.Goals as goal
use Rattle.listing.proofs.counts.Counter.+is_alone.Goals.{After-word}

pub returns-then-n-eq0 : goal.returns-then-n-eq0
returns-then-n-eq0 t c =
    let p = c.args.product in
    c.is_one.ensures ∙ alone_none c.args.n c.args.self.now.counts c.args.prefix p.named p.sign c.if-n-eq0.true

-- the next call has one option less, and a longer prefix
next_turn : (t : ℕ) (c : After-word t) (b : Bool) → (c.args.n - 1 < t) × ((c.args.n - 1 ≤ 12) × (next c.args.prefix b < 2 ^ (12 - (c.args.n - 1))))
next_turn t c b = (
  omega (arith, c.decreases, c.if-n-eq0.false),
  (omega (arith, c.requires.few), next_below c.args.n c.args.prefix b c.requires.few c.if-n-eq0.false c.requires.prefix),
)

pub is_alone-requires : goal.is_alone-requires
is_alone-requires t c = next_turn t (goal.at.is_alone-requires t c).After-word false

pub is_alone-requires-in-Wanted : goal.is_alone-requires-in-Wanted
is_alone-requires-in-Wanted t c = next_turn t (goal.at.is_alone-requires-in-Wanted t c).After-word true

pub is_alone-requires-in-Absent : goal.is_alone-requires-in-Absent
is_alone-requires-in-Absent t c = next_turn t (goal.at.is_alone-requires-in-Absent t c).After-word false

pub is_alone-requires-else-is_alone : goal.is_alone-requires-else-is_alone
is_alone-requires-else-is_alone t c = next_turn t (goal.at.is_alone-requires-else-is_alone t c).After-word true

pub returns-in-Refused : goal.returns-in-Refused
returns-in-Refused t c =
    let p = c.args.product in
    alone_refused c.args.n p.named p.sign c.if-n-eq0.false c.args.self.now.counts c.args.prefix c.is_alone.result c.in-Refused.ensures c.is_alone.ensures

pub returns-in-Wanted : goal.returns-in-Wanted
returns-in-Wanted t c =
    let p = c.args.product in
    alone_wanted c.args.n p.named p.sign c.if-n-eq0.false c.args.self.now.counts c.args.prefix c.is_alone-in-Wanted.result c.in-Wanted.ensures c.is_alone-in-Wanted.ensures

pub returns-then-is_alone : goal.returns-then-is_alone
returns-then-is_alone t c =
    let p = c.args.product in
    let first = c.is_alone-in-Absent.result in
    let second = alone (c.args.n - 1) c.args.self.now.counts (2 * c.args.prefix + 1) (words (c.args.n - 1) p.named p.sign) in
    let yes = c.if-is_alone.true in
    alone_absent c.args.n p.named p.sign c.if-n-eq0.false c.args.self.now.counts c.args.prefix first first second c.in-Absent.ensures c.is_alone-in-Absent.ensures refl (yes ∙ sym (ap (λ z. z || second) yes))

pub returns-else-is_alone : goal.returns-else-is_alone
returns-else-is_alone t c =
    let p = c.args.product in
    let second = c.is_alone-else-is_alone.result in
    alone_absent c.args.n p.named p.sign c.if-n-eq0.false c.args.self.now.counts c.args.prefix second c.is_alone-in-Absent.result second c.in-Absent.ensures c.is_alone-in-Absent.ensures c.is_alone-else-is_alone.ensures (sym (ap (λ z. z || second) c.if-is_alone.false))

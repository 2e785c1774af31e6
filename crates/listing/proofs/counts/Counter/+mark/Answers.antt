use Rattle.std.proofs.Common.{ℕ, ◌-◌, ◌^◌, ◌<◌, ◌≤◌, Bool, true, false, arith}
use Rattle.listing.specs.Counts.{next}
use Rattle.listing.proofs.Marking.{next_below, marked_absent, marked_refused, marked_wanted}
use Rattle.listing.proofs.counts.Counter.+mark.Goals as goal
use Rattle.listing.proofs.counts.Counter.+mark.Goals.{After-word}

-- the next call has one option less, and a longer prefix
next_turn : (t : ℕ) (c : After-word t) (b : Bool) → (c.args.n - 1 < t) × ((c.args.n - 1 ≤ 12) × (next c.args.prefix b < 2 ^ (12 - (c.args.n - 1))))
next_turn t c b = (
  omega (arith, c.decreases, c.if-n-eq0.false),
  (omega (arith, c.requires.few), next_below c.args.n c.args.prefix b c.requires.few c.if-n-eq0.false c.requires.prefix),
)

pub mark-requires : goal.mark-requires
mark-requires t c = next_turn t (goal.at.mark-requires t c).After-word false

pub mark-requires-in-Wanted : goal.mark-requires-in-Wanted
mark-requires-in-Wanted t c = next_turn t (goal.at.mark-requires-in-Wanted t c).After-word true

pub mark-requires-in-Absent : goal.mark-requires-in-Absent
mark-requires-in-Absent t c = next_turn t (goal.at.mark-requires-in-Absent t c).After-word false

pub mark-requires-in-Absent-2 : goal.mark-requires-in-Absent-2
mark-requires-in-Absent-2 t c = next_turn t (goal.at.mark-requires-in-Absent-2 t c).After-word true

pub returns-in-Refused : goal.returns-in-Refused
returns-in-Refused t c =
    let p = c.args.product in
    marked_refused c.args.n p.named p.sign c.if-n-eq0.false c.args.prefix c.args.self.now.counts c.mark.new.self.counts c.in-Refused.ensures c.mark.ensures

pub returns-in-Wanted : goal.returns-in-Wanted
returns-in-Wanted t c =
    let p = c.args.product in
    marked_wanted c.args.n p.named p.sign c.if-n-eq0.false c.args.prefix c.args.self.now.counts c.mark-in-Wanted.new.self.counts c.in-Wanted.ensures c.mark-in-Wanted.ensures

pub returns-in-Absent : goal.returns-in-Absent
returns-in-Absent t c =
    let p = c.args.product in
    marked_absent c.args.n p.named p.sign c.if-n-eq0.false c.args.prefix c.args.self.now.counts c.mark-in-Absent-2.new.self.counts c.mark-in-Absent.new.self.counts c.in-Absent.ensures c.mark-in-Absent.ensures c.mark-in-Absent-2.ensures

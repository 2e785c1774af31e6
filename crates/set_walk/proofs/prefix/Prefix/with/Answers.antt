use Rattle.std.proofs.Common.{◌≡◌, ◌+◌, ◌-◌, ◌^◌, ◌<◌, cond, rules}
use Rattle.product.specs.Words.{names}
use Rattle.product.specs.Masks.{wants}
use Rattle.product.specs.Said.{word_of}
use Rattle.set_walk.proofs.Walking.{begun_more, named_room, sign_room}
use Rattle.set_walk.proofs.prefix.Prefix.with.Goals as goal
use Rattle.set_walk.proofs.prefix.Prefix.with.Goals.{Joined-word, in-Absent, in-Refused, in-Wanted}

-- What the word adds to the masks.
adds : (c : Joined-word) → let bit = 2 ^ (11 - c.args.self.gone) in c.match-word.named ≡ (cond (names (word_of c.args.word)) bit 0, cond (wants (word_of c.args.word)) bit 0)
adds c =
    elim c.match-word.branch [
      | in-Absent w ↦ rw w.in-Absent.is w.named-is
      | in-Refused w ↦ rw (w.in-Refused.is, ← c.bit-bit.ensures) w.named-is
      | in-Wanted w ↦ rw (w.in-Wanted.is, ← c.bit-bit.ensures) w.named-is
    ]

pub overflow_add-result-2 : goal.overflow_add-result-2
overflow_add-result-2 c =
    let e = adds (goal.at.overflow_add-result-2 c).Joined-word in
    let few : c.args.self.named + c.match-word.named.0 < 4096 = rw e (named_room _ _ _ c.requires c.args.self.begun (word_of c.args.word)) in
    search (rules, few)

pub overflow_add-result-3 : goal.overflow_add-result-3
overflow_add-result-3 c =
    let e = adds (goal.at.overflow_add-result-3 c).Joined-word in
    let few : c.args.self.sign + c.match-word.named.1 < 4096 = rw e (sign_room _ _ _ c.requires c.args.self.begun (word_of c.args.word)) in
    search (rules, few)

pub invariant_of-result : goal.invariant_of-result
invariant_of-result c = record { begun = rw (adds (goal.at.invariant_of-result c).Joined-word) (begun_more _ _ _ c.requires c.args.self.begun (word_of c.args.word)) }

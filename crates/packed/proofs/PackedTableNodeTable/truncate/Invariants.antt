use Rattle.std.proofs.Common.{◌≡◌, ◌-◌, ◌≤◌, length, drop}
use Rattle.packed.specs.Layout.{decode, rest_of}
use Rattle.packed.proofs.PackedTableNodeTable.truncate.Given as goal

-- Those dropped so far are among those to drop.
abbrev pub invariant-loop-self : goal.invariant-loop-self
invariant-loop-self l =
    (decode l.self.held l.self.bytes.buf.now ≡ drop (l.initial.self.held - l.self.held) (decode l.initial.self.held l.initial.self.bytes.buf.now))
    × (length l.self.bytes.buf.now ≡ length l.initial.self.bytes.buf.now)
    × (rest_of l.self.bytes.buf.now ≡ rest_of l.initial.self.bytes.buf.now)
    × (l.self.held ≤ l.initial.self.held)
    × (l.initial.self.held - l.self.held ≤ l.initial.self.held - l.count)

abbrev pub decreases-loop-self : goal.decreases-loop-self
decreases-loop-self l = l.self.held

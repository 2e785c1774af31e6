use Rattle.packed.proofs.Chains.{Passed}
use Rattle.packed.proofs.Bytes.find.Given as goal

abbrev pub invariant-loop-h : goal.invariant-loop-h
invariant-loop-h l = Passed l.held l.self.buf.now l.node l.h

abbrev pub decreases-loop-h : goal.decreases-loop-h
decreases-loop-h l = l.h

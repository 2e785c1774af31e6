use Rattle.listing.proofs.counts.Counter.+mark.Given as goal

abbrev pub decreases-mark : goal.decreases-mark
decreases-mark l = l.n

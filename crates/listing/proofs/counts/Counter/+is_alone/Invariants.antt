use Rattle.listing.proofs.counts.Counter.+is_alone.Given as goal

abbrev pub decreases-is_alone : goal.decreases-is_alone
decreases-is_alone l = l.n

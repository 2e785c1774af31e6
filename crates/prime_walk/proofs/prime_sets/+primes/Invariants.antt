use Rattle.std.proofs.Common.{◌-◌}
use Rattle.prime_walk.proofs.prime_sets.+primes.Given as goal

abbrev pub decreases-primes : goal.decreases-primes
decreases-primes g l = 12 - l.gone

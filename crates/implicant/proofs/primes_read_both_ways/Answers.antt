use Rattle.implicant.proofs.Primes.{prime_both_ways}
use Rattle.implicant.proofs.primes_read_both_ways.Goals as goal

pub returns : goal.returns
returns c = prime_both_ways

use Rattle.implicant.proofs.Primes.{prime_recursion}
use Rattle.implicant.proofs.primes_recur.Goals as goal

pub returns : goal.returns
returns c = prime_recursion

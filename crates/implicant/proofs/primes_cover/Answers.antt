use Rattle.implicant.proofs.Primes.{primes_cover}
use Rattle.implicant.proofs.primes_cover.Goals as goal

pub returns : goal.returns
returns c = primes_cover

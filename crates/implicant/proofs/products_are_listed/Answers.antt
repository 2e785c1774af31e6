use Rattle.implicant.proofs.Ordering.{listed_once, primes_listed}
use Rattle.implicant.proofs.products_are_listed.Goals as goal

pub returns : goal.returns
returns c = record { once = listed_once; primes = primes_listed }

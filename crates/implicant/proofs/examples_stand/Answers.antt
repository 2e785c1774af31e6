use Rattle.implicant.proofs.Examples.{xor_primes, cycle_primes, yes_primes, no_primes}
use Rattle.implicant.proofs.examples_stand.Goals as goal

pub returns : goal.returns
returns c = record { xor = xor_primes; cycle = cycle_primes; yes = yes_primes; no = no_primes }

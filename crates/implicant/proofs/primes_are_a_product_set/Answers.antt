use Rattle.implicant.proofs.Halves.{primes_have_one_set, primes_are_product_set}
use Rattle.implicant.proofs.primes_are_a_product_set.Goals as goal

pub returns : goal.returns
returns c = record { one = primes_have_one_set; set = primes_are_product_set }

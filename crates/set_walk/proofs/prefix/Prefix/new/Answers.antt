use Rattle.set_walk.proofs.Walking.{begun_none}
use Rattle.set_walk.proofs.prefix.Prefix.new.Goals as goal

pub invariant_of-result : goal.invariant_of-result
invariant_of-result c = record { begun = begun_none }

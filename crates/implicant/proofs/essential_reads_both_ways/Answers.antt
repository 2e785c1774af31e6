use Rattle.implicant.proofs.Essentials.{essential_both_ways}
use Rattle.implicant.proofs.essential_reads_both_ways.Goals as goal

pub returns : goal.returns
returns c = essential_both_ways

use Rattle.listing.proofs.Unique.{one_list}
use Rattle.listing.proofs.theorems.one_list.Goals as goal

pub returns : goal.returns
returns c = one_list

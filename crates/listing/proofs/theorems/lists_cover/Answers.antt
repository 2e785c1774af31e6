use Rattle.listing.proofs.Unique.{lists_cover}
use Rattle.listing.proofs.theorems.lists_cover.Goals as goal

pub returns : goal.returns
returns c = lists_cover

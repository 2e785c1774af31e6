use Rattle.card_walk.proofs.Showing.{heading_put}
use Rattle.card_walk.proofs.shown.put_heading.Goals as goal

pub returns : goal.returns
returns c = search (heading_put)

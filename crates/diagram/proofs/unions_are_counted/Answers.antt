use Rattle.diagram.proofs.Counted.{union_counted, union_decides, union_within, union_exceeds}
use Rattle.diagram.proofs.unions_are_counted.Goals as goal

pub returns : goal.returns
returns c = record { counted = union_counted; decides = union_decides; within = union_within; exceeds = union_exceeds }

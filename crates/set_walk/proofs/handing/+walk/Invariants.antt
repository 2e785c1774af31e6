use Rattle.std.proofs.Common.{◌-◌}
use Rattle.set_walk.proofs.handing.+walk.Given as goal

abbrev pub decreases-walk : goal.decreases-walk
decreases-walk g l = 12 - l.before.gone

use Rattle.std.proofs.Common.{sym}
use Rattle.diagram.proofs.Tables.{level_constant, level_at}
use Rattle.walk.proofs.Made.{gotten_none}
use Rattle.walk.proofs.handles.level.Goals as goal

pub returns-in-Ok : goal.returns-in-Ok
returns-in-Ok g c = sym (level_at _ _ _ c.in-Ok.ensures.outcome)

pub returns-in-Err : goal.returns-in-Err
returns-in-Err g c = sym (level_constant _ _ (gotten_none c.requires c.in-Err.ensures))

use Rattle.implicant.proofs.Conditions.{signs_are_versions, versions_are_signs}
use Rattle.implicant.proofs.signs_are_versions.Goals as goal

pub returns : goal.returns
returns c = record { condition = signs_are_versions; function = versions_are_signs }

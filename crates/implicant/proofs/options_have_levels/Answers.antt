use Rattle.implicant.proofs.Settings.{levels_of_options}
use Rattle.implicant.proofs.options_have_levels.Goals as goal

pub returns : goal.returns
returns c = levels_of_options

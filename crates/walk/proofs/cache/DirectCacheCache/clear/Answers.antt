use Rattle.walk.proofs.Places.{empty_keeps}
use Rattle.walk.proofs.cache.DirectCacheCache.clear.Goals as goal

pub returns : goal.returns
returns c = empty_keeps 1024

use Rattle.walk.specs.Places.{told}
use Rattle.walk.proofs.Places.{set_keeps}
use Rattle.walk.proofs.cache.DirectCacheCache.tell.Goals as goal

pub returns : goal.returns
returns c = set_keeps c.args.self.now.places c.place.result (told c.args.task c.args.res)

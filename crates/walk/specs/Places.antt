-- The places of a cache.
use Rattle.std.specs.Prelude.{◌≡◌, ℕ, ◌<◌, List, length, Some, None, Option, slice_index_or}
use Rattle.walk.specs.declared.cache.Task.{Task}
use Rattle.walk.specs.declared.cache.Entry.{Entry}

abbrev pub told : Task → ℕ → Entry
told t h = record { task = t; result = h }

-- e stands at some place
pub record Keeps (places : List (Option Entry)) (e : Entry) : Type 0 where
  pub at : ℕ
  pub within : at < length places
  pub is : slice_index_or places at None ≡ Some e

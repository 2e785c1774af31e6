-- What the receivers of products hold. Inner contracts only. Assumes nothing.
use Rattle.std.specs.Prelude.{◌≡◌, ℕ, ◌+◌, ◌^◌, ◌<◌, min, Bool, cond, List, [], length, count_by, refl}
use Rattle.product.specs.Words.{Words}
use Rattle.decimal.specs.declared.outputs.Output.{Output}
use Rattle.decimal.specs.Outputs.{HasRoom, Puts}
use Rattle.decimal.proofs.Writing.{puts_none}
use Rattle.listing.specs.declared.totals.Totals.{Totals}
use Rattle.listing.specs.Listing.{rows}

-- The totals after a row more, of so many bytes and maybe marked, each as far as its type counts.
pub record Grown (len : ℕ) (marked : Bool) (old new : Totals) : Type 0 where
  pub size : new.bytes ≡ min (old.bytes + len) 18446744073709551615
  pub all : new.primes ≡ min (old.primes + 1) 4294967295
  pub some : new.essential ≡ min (old.essential + cond marked 1 0) 4294967295

-- The bytes of the rows, the products and the marked ones, each as far as its type counts.
pub record Sized (marked : Words 12 → Bool) (ps : List (Words 12)) (totals : Totals) : Type 0 where
  pub size : totals.bytes ≡ min 18446744073709551615 (length (rows marked ps))
  pub all : totals.primes ≡ min 4294967295 (length ps)
  pub some : totals.essential ≡ min 4294967295 (count_by marked ps)

-- The totals of all rows, none of which was so long or so many that a sum stopped.
pub record Measured (marked : Words 12 → Bool) (ps : List (Words 12)) (totals : Totals) : Type 0 where
  pub size : totals.bytes ≡ length (rows marked ps)
  pub few : totals.bytes < 2 ^ 25
  pub all : totals.primes ≡ length ps
  pub some : totals.essential ≡ count_by marked ps

-- The rows are written onto the output, if it has room for them; it still lends the same run, as long as before.
pub record Begun (marked : Words 12 → Bool) (ps : List (Words 12)) (old new : Output) : Type 0 where
  pub lent : new.run.ghost_name ≡ old.run.ghost_name
  pub long : length new.run.now ≡ length old.run.now
  pub puts : HasRoom old (length (rows marked ps)) → Puts (rows marked ps) old new

pub begun_none : (marked : Words 12 → Bool) (o : Output) → Begun marked [] o o
unfolding rows
begun_none marked o = record { lent = refl; long = refl; puts = λ fits. puts_none o }

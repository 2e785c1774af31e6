-- Which remembered results are right for a sequence of nodes.
use Rattle.std.specs.Prelude.{ℕ, ◌-◌, min, List}
use Rattle.diagram.specs.declared.Node.{Node}
use Rattle.diagram.specs.Functions.{Fun}
use Rattle.diagram.specs.Nodes.{Issued, meaning, level_of, Stands}
use Rattle.diagram.specs.Counts.{HasHandle}
use Rattle.implicant.specs.Variables.{condition, PrimeRestrictions}
use Rattle.walk.specs.declared.cache.Task.{Task}
use Rattle.walk.specs.declared.cache.Task.TheVariants.{Join, Restrict, Primes}
use Rattle.walk.specs.declared.cache.Entry.{Entry}
use Rattle.walk.specs.Ops.{joined, cofactor}
use Rattle.walk.specs.Outcomes.{PrimeSet}

-- The operands are issued, and h is what the task's walk would give.
abbrev pub RightTask : List Node → Task → ℕ → Type 0
RightTask ns (Join op f g) h = Issued ns f × Issued ns g × Stands ns (min (level_of ns f) (level_of ns g)) h (joined op (meaning ns f) (meaning ns g))
RightTask ns (Restrict f l b) h = Issued ns f × Stands ns (level_of ns f) h (cofactor l b (meaning ns f))
RightTask ns (Primes f k) h =
    Issued ns f × PrimeSet (12 - k) k (meaning ns f) ns h × ((g : Fun) → PrimeRestrictions (12 - k) k (condition (12 - k) k (meaning ns f)) g → HasHandle ns g)

abbrev pub Right : List Node → (Entry → Type 0) → Type 0
Right ns holds = (e : Entry) → holds e → RightTask ns e.task e.result

-- That all remembered results are right has one proof at most, so that it comes out of a ghost field again.
use Rattle.std.proofs.Common.{◌≡◌, ℕ, List, sym, ◌∙◌}
use mathlib.Core.HLevel.{Π_prop, Π_set, ×_prop, ⊥_prop, is_prop→PathP}
use mathlib.Core.Bool.{Bool-set}
use mathlib.Core.Logic.{∥∥₁_elim}
use native.Mathlib.Bridge.{le_prop}
use Rattle.diagram.specs.declared.Node.{Node}
use Rattle.diagram.specs.Functions.{Fun}
use Rattle.diagram.specs.Nodes.{Issued, meaning, WellFormed, Stands}
use Rattle.diagram.specs.Counts.{HasHandle}
use Rattle.diagram.proofs.Canon.{canonical}
use Rattle.implicant.specs.Implicants.{Condition, Prime}
use Rattle.implicant.specs.Variables.{ArePrimes}
use Rattle.walk.specs.declared.cache.Task.{Task}
use Rattle.walk.specs.declared.cache.Task.TheVariants.{Join, Restrict, Primes}
use Rattle.walk.specs.declared.cache.Entry.{Entry}
use Rattle.walk.specs.Entries.{RightTask, Right}
use Rattle.walk.specs.Outcomes.{PrimeSet}

equal_prop : (f g : Fun) → IsProp (f ≡ g)
equal_prop f g = Π_set (λ s. Bool-set) f g

stands_prop : {ns : List Node} {l h : ℕ} {f : Fun} → IsProp (Stands ns l h f)
stands_prop x y = λ i. record { issued = le_prop x.issued y.issued i; level = le_prop x.level y.level i; value = equal_prop _ _ x.value y.value i }

prime_prop : {n : ℕ} {c : Condition n} {p : _} → IsProp (Prime n c p)
prime_prop x y = λ i. record {
  implies = Π_prop (λ v. Π_prop (λ m. Bool-set _ _)) x.implies y.implies i;
  tight = Π_prop (λ k. Π_prop (λ m. Π_prop (λ z. ⊥_prop))) x.tight y.tight i;
}

are_primes_prop : (n k : ℕ) (c : Condition n) (g : Fun) → IsProp (ArePrimes n k c g)
are_primes_prop n k c g = Π_prop (λ s. ×_prop (Π_prop (λ e. prime_prop)) (Π_prop (λ p. Bool-set _ _)))

set_prop : {n k h : ℕ} {f : Fun} {ns : List Node} → IsProp (PrimeSet n k f ns h)
set_prop x y = λ i. record { issued = le_prop x.issued y.issued i; level = le_prop x.level y.level i; primes = are_primes_prop _ _ _ _ x.primes y.primes i }

-- Equal functions of well-formed nodes have one handle.
has_handle_prop : {ns : List Node} (w : WellFormed ns) {g : Fun} → IsProp (HasHandle ns g)
has_handle_prop {ns} w {g} x y =
    let same : x.at ≡ y.at = canonical ns w x.at y.at x.issued y.issued (x.is ∙ sym y.is) in
    λ i. record {
      at = same i;
      issued = is_prop→PathP (λ j. Issued ns (same j)) (λ j. le_prop) x.issued y.issued i;
      is = is_prop→PathP (λ j. meaning ns (same j) ≡ g) (λ j. equal_prop _ _) x.is y.is i;
    }

task_prop : (ns : List Node) (w : WellFormed ns) (t : Task) (h : ℕ) → IsProp (RightTask ns t h)
task_prop ns w (Join op f g) h x y = λ i. (le_prop x.0 y.0 i, le_prop x.1 y.1 i, stands_prop x.2 y.2 i)
task_prop ns w (Restrict f l v) h x y = λ i. (le_prop x.0 y.0 i, stands_prop x.1 y.1 i)
task_prop ns w (Primes f k) h x y = λ i. (le_prop x.0 y.0 i, set_prop x.1 y.1 i, Π_prop (λ g. Π_prop (λ z. has_handle_prop w)) x.2 y.2 i)

pub right_out : {ns : List Node} {holds : Entry → Type 0} → WellFormed ns → ∥ Right ns holds ∥₁ → Right ns holds
right_out {ns} w p = ∥∥₁_elim p (Π_prop (λ e. Π_prop (λ h. task_prop ns w e.task e.result))) (λ r. r)

-- Facts that have one proof at most, and so come out of a ghost field again.
use Rattle.std.proofs.Common.{ℕ, ◌<◌, List, length}
use mathlib.Core.Logic.{∥∥₁_elim}
use mathlib.Core.HLevel.{Π_prop}
use native.Mathlib.Nat.{ℕ_set}
use Rattle.diagram.specs.declared.Node.{Node}
use Rattle.diagram.specs.Nodes.{WellFormed}
use Rattle.table.specs.Props.{formed_prop}
use Rattle.packed.specs.Layout.{size_of}
use Rattle.packed.specs.Inner.{Two, Laid}

two_prop : {bs : List ℕ} {i v : ℕ} → IsProp (Two bs i v)
two_prop x y = λ i. record { low = ℕ_set _ _ x.low y.low i; high = ℕ_set _ _ x.high y.high i }

laid_prop : {held : ℕ} {bs : List ℕ} → IsProp (Laid held bs)
laid_prop x y =
    λ i. record {
      heads = Π_prop (λ c. Π_prop (λ h. two_prop)) x.heads y.heads i;
      slots = Π_prop (λ k. Π_prop (λ h. Π_prop (λ j. Π_prop (λ l. ℕ_set _ _)))) x.slots y.slots i;
      clear = Π_prop (λ c. Π_prop (λ h. Π_prop (λ g. ℕ_set _ _))) x.clear y.clear i;
    }

pub laid_out : (held : ℕ) (bs : List ℕ) → ∥ (0 < size_of (length bs) → Laid held bs) ∥₁ → 0 < size_of (length bs) → Laid held bs
laid_out held bs p h = ∥∥₁_elim p laid_prop (λ f. f h)

pub formed_out : (ns : List Node) → ∥ WellFormed ns ∥₁ → WellFormed ns
formed_out ns p = ∥∥₁_elim p (formed_prop ns) (λ w. w)

-- What a call that asks about a product set answers and leaves, over a table of size N with the nodes ns. It enters no node.
use Rattle.std.specs.Prelude.{◌≡◌, ℕ, ◌+◌, ◌≤◌, Bool, List, length, Ok, Err, Result}
use Rattle.diagram.specs.declared.Node.{Node}
use Rattle.diagram.specs.Nodes.{Issued, meaning}
use Rattle.product.specs.Masks.{Masks}
use Rattle.implicant.specs.Variables.{ProductSet, mask_setting, products_of}
use Rattle.tally.specs.Weights.{Model, Tallied}
use Rattle.engine.specs.declared.faults.GraphFault.{GraphFault}
use Rattle.engine.specs.declared.faults.GraphFault.TheVariants.{NoProduct, NotProductSet, FewPlaces}
use Rattle.engine.specs.Calls.{Tested, unissued}

-- whether the set answers yes at the masks of a product: 5, 9 and 11 are tested in this order
pub record ContainsOut (N set named sign : ℕ) (ns : List Node) (r : Result Bool GraphFault) : Type 0 where
  pub outcome :
      Tested (Masks named sign) (
      Tested (Issued ns set) (
      Tested (ProductSet (meaning ns set)) (r ≡ Ok (meaning ns set (mask_setting named sign))) (r ≡ Err NotProductSet))
      (r ≡ Err (unissued N)))
      (r ≡ Err NoProduct)

-- refused with e: the working places and the answer are as they were
pub record Unweighed {W : Type 0} (e : GraphFault) (r : Result (Unit {0}) GraphFault) (old : List W) (was : W) (new : List W) (is : W) : Type 0 where
  pub refused : r ≡ Err e
  pub places : new ≡ old
  pub answer : is ≡ was

-- the tally of a product set is left as the answer: 9, 11 and 12 are tested in this order
pub record TallyOut {W : Type 0} (m : Model W) (N set : ℕ) (ns : List Node) (r : Result (Unit {0}) GraphFault) (old : List W) (was : W) (new : List W) (is : W) : Type 0 where
  pub outcome :
      Tested (Issued ns set) (
      Tested (ProductSet (meaning ns set)) (
      Tested (length ns + 2 ≤ length old) ((r ≡ Ok tt) × Tallied m (products_of (meaning ns set)) is)
      (Unweighed FewPlaces r old was new is))
      (Unweighed NotProductSet r old was new is))
      (Unweighed (unissued N) r old was new is)

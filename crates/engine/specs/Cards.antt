-- What a draft takes and what a text becomes, over a table of size N, and the nodes and the draft then.
use Rattle.std.specs.Prelude.{◌≡◌, ℕ, ◌⊎◌, List, Ok, Err, Result}
use Rattle.diagram.specs.declared.Node.{Node}
use Rattle.diagram.specs.Nodes.{Issued, meaning}
use Rattle.formula.specs.declared.steps.Operator.TheVariants.{Or}
use Rattle.formula.specs.Grammar.{Tree}
use Rattle.card_text.specs.declared.faults.TextFault.{TextFault}
use Rattle.card_text.specs.Grammar.{Row}
use Rattle.card_text.specs.Card.{IsCard, formulas}
use Rattle.card_text.specs.Faults.{Refused}
use Rattle.card_walk.specs.Sums.{TreesOf, some_of}
use Rattle.engine.specs.declared.faults.GraphFault.{GraphFault}
use Rattle.engine.specs.declared.faults.GraphFault.TheVariants.{NotCondition}
use Rattle.engine.specs.declared.card_faults.CardFault.{CardFault}
use Rattle.engine.specs.declared.card_faults.CardFault.TheVariants.{Text, Graph}
use Rattle.engine.specs.declared.cards.Closed.{Closed}
use Rattle.engine.specs.Works.{result, sums, combined}
use Rattle.engine.specs.Calls.{Made, Guarded, unissued, IsCondition}

-- the or of two conditions: 9 and then 10 are tested of both
pub record SumOut (N f g : ℕ) (old : List Node) (r : Result ℕ GraphFault) (new : List Node) : Type 0 where
  pub outcome : Guarded (Issued old f × Issued old g) (unissued N) (Guarded (IsCondition old f × IsCondition old g) NotCondition (Made N (result (combined Or (meaning old f) (meaning old g))) (combined Or (meaning old f) (meaning old g)) old r new) old r new) old r new

-- the handle that was made becomes the draft's, or the fault is carried whole and the draft is as it was
abbrev pub Becoming : Result ℕ GraphFault → Result (Unit {0}) CardFault → ℕ → ℕ → Type 0
Becoming (Ok h) r was is = (r ≡ Ok tt) × (is ≡ h)
Becoming (Err e) r was is = (r ≡ Err (Graph e)) × (is ≡ was)

-- the condition f is added, by or, to the one whose handle the draft has
pub record AddOut (N f : ℕ) (old : List Node) (was : ℕ) (r : Result (Unit {0}) CardFault) (new : List Node) (is : ℕ) : Type 0 where
  pub answer : Result ℕ GraphFault
  pub sum : SumOut N was f old answer new
  pub becomes : Becoming answer r was is

-- the handle that was made becomes a closed card's, or the fault is carried whole
abbrev pub closing : Result ℕ GraphFault → Result Closed CardFault
closing (Ok h) = Ok (record { condition = h })
closing (Err e) = Err (Graph e)

-- the text is a card; its condition, yes where some formula is, is made with every part and every sum on the way
pub record Taken (N : ℕ) (text : List ℕ) (old : List Node) (r : Result Closed CardFault) (new : List Node) : Type 0 where
  pub rows : List Row
  pub card : IsCard text rows
  pub trees : List Tree
  pub are : TreesOf (formulas rows) trees
  pub answer : Result ℕ GraphFault
  pub made : Made N (sums trees) (some_of trees) old answer new
  pub is : r ≡ closing answer

-- the text is none; its fault is carried whole, and nothing changed
pub record Untaken (text : List ℕ) (old : List Node) (r : Result Closed CardFault) (new : List Node) : Type 0 where
  pub fault : TextFault
  pub refused : Refused text fault
  pub is : r ≡ Err (Text fault)
  pub kept : new ≡ old

pub record ReadOut (N : ℕ) (text : List ℕ) (old : List Node) (r : Result Closed CardFault) (new : List Node) : Type 0 where
  pub outcome : Taken N text old r new ⊎ Untaken text old r new

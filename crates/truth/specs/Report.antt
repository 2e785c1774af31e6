-- What the program prints for a text.
use Rattle.std.specs.Prelude.{◌≡◌, ℕ, ◌-◌, ◌≤◌, cond, ◌⊎◌, List, [], ◌∷◌, ◌++◌, length, take, Ok, Err, codes, decimal, Result, ◌==◌, slice_index}
use Rattle.diagram.specs.declared.Node.{Node}
use Rattle.formula.specs.declared.steps.Step.{Step}
use Rattle.formula.specs.Notation.{Shows}
use Rattle.formula.specs.Grammar.{Tree, postfix, Derives}
use Rattle.formula.specs.Meaning.{yeses}
use Rattle.engine.specs.declared.faults.GraphFault.{GraphFault}
use Rattle.engine.specs.Faults.{graph_number, graph_place}
use Rattle.engine.specs.Calls.{FormulaOut}

-- the line for a fault, by its number and place
abbrev pub refusal : ℕ → ℕ → List ℕ
refusal n p = codes "REFUSED," ++ (decimal n ++ (codes "," ++ (decimal p ++ 10 ∷ [])))

-- the first line up to the steps
abbrev pub read_line : ℕ → ℕ → List ℕ
read_line bytes steps = codes "read " ++ (decimal bytes ++ (codes " bytes as " ++ (decimal steps ++ codes " steps:")))

-- the second line, with the end of the first
abbrev pub yes_line : ℕ → List ℕ
yes_line n = codes "\nyes in " ++ (decimal n ++ (codes " of 4096 versions" ++ 10 ∷ []))

-- the third line, for a handle and a number of nodes
abbrev pub graph_line : ℕ → ℕ → List ℕ
graph_line h n = codes "graph: handle " ++ (decimal h ++ (codes ", " ++ (decimal n ++ (codes " nodes of 8128" ++ 10 ∷ []))))

-- the text without one final line feed
abbrev pub unended : List ℕ → List ℕ
unended text = cond (slice_index text (length text - 1) == 10) (take (length text - 1) text) text

-- a blank and the character of each step
abbrev pub Symbols : List Step → List ℕ → Type 0
Symbols [] bs = bs ≡ []
Symbols (s ∷ ss) bs = (b : ℕ) × (rest : List ℕ) × Shows b s × (bs ≡ 32 ∷ b ∷ rest) × Symbols ss rest

-- the character of a step, or `?` where it has none
abbrev pub Marks : Step → ℕ → Type 0
Marks s b = Shows b s ⊎ (((c : ℕ) → Shows c s → ⊥) × (b ≡ 63))

-- what stands after steps that all have a character
pub record Appended (ss : List Step) (before after : List ℕ) : Type 0 where
  pub symbols : List ℕ
  pub shown : Symbols ss symbols
  pub is : after ≡ before ++ symbols

-- each step has a character
abbrev pub Known : List Step → Type 0
Known [] = Unit {0}
Known (s ∷ ss) = ((b : ℕ) × Shows b s) × Known ss

-- out is the first two lines for a formula of so many bytes, by its tree
pub record Tells (bytes : ℕ) (t : Tree) (out : List ℕ) : Type 0 where
  pub symbols : List ℕ
  pub shown : Symbols (postfix t) symbols
  pub is : out ≡ read_line bytes (length (postfix t)) ++ symbols ++ yes_line (yeses 4096 t)

-- the text is a formula of at most 4,096 bytes
pub record Formed (text : List ℕ) : Type 0 where
  pub short : length text ≤ 4096
  pub tree : Tree
  pub derived : Derives 32 1 text tree

-- out is the three lines for a formula, by a tree of the text, its handle and the nodes held
pub record Counted (text : List ℕ) (h n : ℕ) (out : List ℕ) : Type 0 where
  pub tree : Tree
  pub derived : Derives 32 1 text tree
  pub lines : List ℕ
  pub tells : Tells (length text) tree lines
  pub is : out ≡ lines ++ graph_line h n

-- what is printed for an answer of the graph call, with n nodes held then
abbrev pub Printed : List ℕ → Result ℕ GraphFault → ℕ → List ℕ → Type 0
Printed text (Ok h) n out = Counted text h n out
Printed text (Err e) n out = out ≡ refusal (graph_number e) (graph_place e)

-- the graph call on a new graph of size N may answer r, and n nodes are held then
pub record Builds (N : ℕ) (text : List ℕ) (r : Result ℕ GraphFault) (n : ℕ) : Type 0 where
  pub new : List Node
  pub call : FormulaOut N text [] r new
  pub count : n ≡ length new

-- all that is printed for a text, by what the graph call may answer on a new graph of size 8,128
pub record Report (text out : List ℕ) : Type 0 where
  pub r : Result ℕ GraphFault
  pub new : List Node
  pub call : FormulaOut 8128 text [] r new
  pub printed : Printed text r (length new) out

-- A reader of one byte after another, which the inner functions' contracts speak of; no public contract does.
use Rattle.std.specs.Prelude.{◌≡◌, ℕ, zero, suc, ◌+◌, ◌<◌, ◌≤◌, Bool, false, cond, List, [], ◌∷◌, ◌++◌, ◌==◌, nat_le}
use Rattle.formula.specs.declared.steps.Operator.{Operator}
use Rattle.formula.specs.declared.steps.Token.{Token}
use Rattle.formula.specs.declared.steps.Token.TheVariants.{Operand, Negation, Infix, Opening, Closing, Foreign}
use Rattle.formula.specs.Notation.{notation}
use Rattle.formula.specs.Grammar.{Tree, leaf, neg, binary}

-- left sides that wait for their right sides, the nearest first
pub data Chain : Type 0 where
  start : Chain
  wait : Tree → ℕ → Operator → Chain → Chain

-- what stands around the open brackets: a run of `!`, and the left sides
pub data Outer : Type 0 where
  outside : Outer
  inside : ℕ → Chain → Outer → Outer

-- how many brackets are open
unfoldable pub height : Outer → ℕ
height outside = 0
height (inside m c o) = suc (height o)

-- no formula continues; an operand is wanted behind so many `!`; an operand stands there
pub data State : Type 0 where
  dead : State
  operand : ℕ → Chain → Outer → State
  operator : Chain → Tree → Outer → State

-- the tree behind so many `!`
unfoldable pub nots : ℕ → Tree → Tree
nots zero t = t
nots (suc m) t = nots m (neg t)

-- joins what binds at least as strongly as k
unfoldable pub fold : ℕ → Chain → Tree → Chain × Tree
fold k start x = (start, x)
fold k (wait l j s c) x = cond (nat_le k j) (fold k c (binary s l x)) (wait l j s c, x)

-- an operator of strength k waits already, so another cannot chain
unfoldable pub blocked : ℕ → Chain → Bool
blocked k start = false
blocked k (wait l j s c) = j == k

-- an operator begins to wait for its right side
unfoldable pub enter : ℕ → Operator → Chain × Tree → Outer → State
enter k s f o = operand 0 (wait f.1 k s f.0) o

-- a bracket closes around the tree
unfoldable pub close : Tree → Outer → State
close t outside = dead
close t (inside m c o) = operator c (nots m t) o

-- one token, with brackets nested at most n deep
unfoldable pub step : ℕ → State → Token → State
step n dead κ = dead
step n (operand m c o) (Operand a) = operator c (nots m (leaf a)) o
step n (operand m c o) Negation = operand (suc m) c o
step n (operand m c o) (Infix k s) = dead
step n (operand m c o) Opening = cond (nat_le (suc (height o)) n) (operand 0 start (inside m c o)) dead
step n (operand m c o) Closing = dead
step n (operand m c o) Foreign = dead
step n (operator c x o) (Operand a) = dead
step n (operator c x o) Negation = dead
step n (operator c x o) (Infix k s) = cond (nat_le 3 k) (enter k s (fold k c x) o) (cond (blocked k (fold (suc k) c x).0) dead (enter k s (fold (suc k) c x) o))
step n (operator c x o) Opening = dead
step n (operator c x o) Closing = close (fold 1 c x).1 o
step n (operator c x o) Foreign = dead

-- the bytes of a text, one after the other
unfoldable pub run : ℕ → State → List ℕ → State
run n s [] = s
run n s (b ∷ bs) = run n (step n s (notation b)) bs

-- every waiting operator is looser than k, as far as the nearest shows
abbrev pub Below : ℕ → Chain → Type 0
Below k start = Unit {0}
Below k (wait l j s c) = j < k

-- from where an operand may stand, the text takes the automaton to where it has read t at strength k, and Q holds there
abbrev pub Drives : ℕ → ℕ → ℕ → (Chain → Tree → Type 0) → List ℕ → Tree → Type 0
Drives limit n k Q bs t = (m : ℕ) (c : Chain) (o : Outer) → (k < 6 → m ≡ 0) → Below k c → height o + n ≤ limit → (c' : Chain) × (x : Tree) × ((rest : List ℕ) → run limit (operand m c o) (bs ++ rest) ≡ run limit (operator c' x o) rest) × (fold k c' x ≡ (c, nots m t)) × Q c' x

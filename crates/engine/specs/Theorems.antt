-- What follows for any calls over one graph.
use Rattle.std.specs.Prelude.{◌≡◌, ℕ, ◌⊎◌, List, length, Ok, Result}
use Rattle.diagram.specs.declared.Node.{Node}
use Rattle.diagram.specs.Functions.{Fun}
use Rattle.diagram.specs.Nodes.{Extends}
use Rattle.diagram.specs.Counts.{Held, Count}
use Rattle.engine.specs.declared.faults.GraphFault.{GraphFault}
use Rattle.engine.specs.Works.{Work, Working}
use Rattle.engine.specs.Calls.{Made}
use Rattle.engine.specs.Requests.{Call, Out}

-- no call, granted or refused, takes back a node: handles stay issued and mean what they meant
abbrev pub CallsExtend : Type 0
CallsExtend = (N : ℕ) (c : Call) (a b : List Node) (r : Result ℕ GraphFault) → Out N c a r b → Extends a b

-- a call that is made again at once enters nothing and answers the same handle
abbrev pub SecondCall : Type 0
SecondCall = (N : ℕ) (c : Call) (a b d : List Node) (h : ℕ) (r : Result ℕ GraphFault)
    → Out N c a (Ok h) b → Out N c b r d → (r ≡ Ok h) × (d ≡ b)

-- calls that make one function answer one handle, as long as no node was taken back between them
abbrev pub EqualHandles : Type 0
EqualHandles = (N M : ℕ) (w v : Work) (f : Fun) (a b c d : List Node) (h k : ℕ)
    → Made N w f a (Ok h) b → Extends b c → Made M v f c (Ok k) d → h ≡ k

-- a granted call leaves as many nodes as there are functions held before or working nodes
abbrev pub CallCounted : Type 0
CallCounted = (N : ℕ) (w : Work) (f : Fun) (a b : List Node) (h : ℕ)
    → Made N w f a (Ok h) b → Count (λ g. Held a g ⊎ Working w g) (length b)

-- whether a call is granted, its fault, and how many nodes are held then are determined by the nodes before it
abbrev pub CallDecided : Type 0
CallDecided = (N : ℕ) (w : Work) (f : Fun) (a b c : List Node) (r s : Result ℕ GraphFault) → Made N w f a r b → Made N w f a s c
    → ((h : ℕ) × (k : ℕ) × (r ≡ Ok h) × (s ≡ Ok k) × (length b ≡ length c)) ⊎ ((r ≡ s) × (b ≡ c))

-- What is proved of sequences of nodes.
use Rattle.std.specs.Prelude.{◌≡◌, ℕ, ◌+◌, ◌<◌, ◌≤◌, ◌⊎◌, ◌↔◌, List, length}
use Rattle.diagram.specs.declared.Node.{Node}
use Rattle.diagram.specs.Functions.{Setting, Fun, NodeOf}
use Rattle.diagram.specs.Nodes.{Issued, meaning, level_of, WellFormed, Extends, Reaches}
use Rattle.diagram.specs.Counts.{Held, Count, AtLeast, NodesOf}
use Rattle.diagram.specs.Outcomes.{Grants, Denies}

-- Two issued handles are one number exactly when they answer alike at every setting.
abbrev pub Canonical : Type 0
Canonical = (ns : List Node) → WellFormed ns → (h k : ℕ) → Issued ns h → Issued ns k
    → (h ≡ k) ↔ ((s : Setting) → meaning ns h s ≡ meaning ns k s)

-- What a handle means depends on the 24 variables alone.
abbrev pub LevelsOnly : Type 0
LevelsOnly = (ns : List Node) → WellFormed ns → (h : ℕ) (s t : Setting) → ((i : ℕ) → 1 ≤ i → i ≤ 24 → s i ≡ t i)
    → meaning ns h s ≡ meaning ns h t

-- The nodes of what a handle means are exactly what the handles from 2 up that it reaches mean.
abbrev pub NodesReached : Type 0
NodesReached = (ns : List Node) → WellFormed ns → (h : ℕ) → Issued ns h → (g : Fun)
    → NodeOf (meaning ns h) g ↔ ((k : ℕ) × (2 ≤ k) × Reaches ns h k × (meaning ns k ≡ g))

-- A well-formed sequence of n nodes holds exactly n functions.
abbrev pub HeldCounted : Type 0
HeldCounted = (ns : List Node) → WellFormed ns → Count (Held ns) (length ns)

-- A handle stays issued, with its meaning and its level, when a sequence is extended.
abbrev pub GrowthKeeps : Type 0
GrowthKeeps = (old new : List Node) → Extends old new → (h : ℕ) → Issued old h
    → Issued new h × (meaning new h ≡ meaning old h) × (level_of new h ≡ level_of old h)

-- Success leaves as many nodes as there are functions held before or nodes of the list's functions.
abbrev pub UnionCounted : Type 0
UnionCounted = (old new : List Node) (fs : List Fun) → Grants (NodesOf fs) old new
    → Count (λ g. Held old g ⊎ NodesOf fs g) (length new)

-- That union has more than N functions exactly when its count is more than N.
abbrev pub CountDecides : Type 0
CountDecides = (N n : ℕ) (ns : List Node) (fs : List Fun) → WellFormed ns → Count (λ g. Held ns g ⊎ NodesOf fs g) n
    → AtLeast (N + 1) ns (NodesOf fs) ↔ (N < n)

-- Success within N nodes: the union has no more than N functions.
abbrev pub UnionWithin : Type 0
UnionWithin = (N : ℕ) (old new : List Node) (fs : List Fun) → Grants (NodesOf fs) old new → length new ≤ N
    → ¬ AtLeast (N + 1) old (NodesOf fs)

-- Failure at N nodes: the union has more than N functions.
abbrev pub UnionExceeds : Type 0
UnionExceeds = (N : ℕ) (old new : List Node) (fs : List Fun) → Denies N (NodesOf fs) old new
    → AtLeast (N + 1) old (NodesOf fs)

-- A plain table: its nodes stand in a run of records, oldest first.
use Rattle.std.specs.Prelude.{◌≡◌, ℕ, ◌-◌, min, List, ◌++◌, reverse, length, take, drop, replicate}
use Rattle.diagram.specs.declared.Node.{Node}

abbrev pub blank : Node
blank = record { level = 0; low = 0; high = 0 }

abbrev pub plain_size : List Node → ℕ
plain_size run = min (length run) 65000

-- the first records, newest first
abbrev pub plain_nodes : ℕ → List Node → List Node
plain_nodes count run = reverse (take count run)

abbrev pub plain_rest : List Node → List Node
plain_rest run = drop (plain_size run) run

-- what follows the nodes: zero records up to the size N, then the rest
abbrev pub zeros : ℕ → ℕ → List Node → List Node
zeros N count rest = replicate (N - count) blank ++ rest

-- all records of a table of size N
abbrev pub plain_content : ℕ → List Node → List Node → List Node
plain_content N ns rest = reverse ns ++ zeros N (length ns) rest

-- the records of a run past its nodes are as they should be
abbrev pub Cleared : ℕ → List Node → Type 0
Cleared count run = drop count run ≡ zeros (plain_size run) count (plain_rest run)

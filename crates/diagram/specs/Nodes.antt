-- Sequences of nodes, newest first, and what their handles mean: 0 is no, 1 is yes, and the node that was entered first has handle 2.
use Rattle.std.specs.Prelude.{◌≡◌, ℕ, ◌+◌, ◌<◌, ◌≤◌, cond, List, [], ◌∷◌, ◌++◌, length, ◌==◌}
use Rattle.diagram.specs.declared.Node.{Node}
use Rattle.diagram.specs.Functions.{Fun, choice}

-- The handles below length ns + 2 are issued; the newest node has the last of them.
abbrev pub Issued : List Node → ℕ → Type 0
Issued ns h = h < length ns + 2

-- The function that an issued handle means (any other number: no).
unfoldable pub meaning : List Node → ℕ → Fun
meaning [] h = λ s. (h == 1)
meaning (n ∷ ns) h = cond (h == length ns + 2) (choice n.level (meaning ns n.low) (meaning ns n.high)) (meaning ns h)

-- The level of an issued handle's node; 0 and 1 count as level 25 (as does any number that is not issued).
unfoldable pub level_of : List Node → ℕ → ℕ
level_of [] h = 25
level_of (n ∷ ns) h = cond (h == length ns + 2) n.level (level_of ns h)

-- The node of an issued handle from 2 up.
unfoldable pub node_at : List Node → ℕ → Node
node_at [] h = record { level = 0; low = 0; high = 0 }
node_at (n ∷ ns) h = cond (h == length ns + 2) n (node_at ns h)

-- ns has the node n at handle h.
pub record At (ns : List Node) (h : ℕ) (n : Node) : Type 0 where
  pub issued : Issued ns h
  pub two : 2 ≤ h
  pub is : node_at ns h ≡ n

-- n may be entered above ns: its level is 1 to 24, and its children differ, are issued, and are deeper than n.
pub record Fit (ns : List Node) (n : Node) : Type 0 where
  pub first : 1 ≤ n.level
  pub last : n.level ≤ 24
  pub differ : ¬ (n.low ≡ n.high)
  pub low_issued : Issued ns n.low
  pub high_issued : Issued ns n.high
  pub low_deeper : n.level < level_of ns n.low
  pub high_deeper : n.level < level_of ns n.high

-- A reduced ordered decision diagram: each node fits above those before it, and is none of them.
abbrev pub WellFormed : List Node → Type 0
WellFormed [] = Unit {0}
WellFormed (n ∷ ns) = Fit ns n × ((h : ℕ) → ¬ At ns h n) × WellFormed ns

-- new has the nodes of old, and maybe more above them.
abbrev pub Extends : List Node → List Node → Type 0
Extends old new = (more : List Node) × (new ≡ more ++ old)

-- The handles that a handle reaches by going to children.
pub data Reaches (ns : List Node) : ℕ → ℕ → Type 0 where
  here : {h : ℕ} → Reaches ns h h
  to_low : {h k : ℕ} → 2 ≤ h → Reaches ns (node_at ns h).low k → Reaches ns h k
  to_high : {h k : ℕ} → 2 ≤ h → Reaches ns (node_at ns h).high k → Reaches ns h k

-- lo and hi, issued and deeper than l, are what h means where the variable of level l is no, and where it is yes.
pub record Split (ns : List Node) (l h lo hi : ℕ) : Type 0 where
  pub lo_issued : Issued ns lo
  pub hi_issued : Issued ns hi
  pub lo_deeper : l < level_of ns lo
  pub hi_deeper : l < level_of ns hi
  pub value : meaning ns h ≡ choice l (meaning ns lo) (meaning ns hi)

-- h is an issued handle at level l or deeper, and means f.
pub record Stands (ns : List Node) (l h : ℕ) (f : Fun) : Type 0 where
  pub issued : Issued ns h
  pub level : l ≤ level_of ns h
  pub value : meaning ns h ≡ f

-- The bytes of a packed table: 256 chain heads of two bytes, then a slot of 8 bytes for each node, then bytes that are never written.
-- Nodes are listed newest first; the node in slot k has handle k + 2.
use Rattle.std.specs.Prelude.{ℕ, zero, suc, ◌+◌, ◌-◌, ◌*◌, ◌/◌, ◌%◌, min, cond, List, [], ◌∷◌, ◌++◌, length, drop, replicate, ◌==◌, slice_index}
use Rattle.diagram.specs.declared.Node.{Node}

-- A number in two bytes, low byte first.
abbrev pub le16 : ℕ → List ℕ
le16 v = v % 256 ∷ v / 256 ∷ []

-- The two-byte number at place i.
abbrev pub get16 : List ℕ → ℕ → ℕ
get16 bs i = slice_index bs i + 256 * slice_index bs (i + 1)

-- How many nodes L bytes have room for: none below 520 bytes, and at most 65,000.
abbrev pub size_of : ℕ → ℕ
size_of L = min ((L - 512) / 8) 65000

-- Where slot k begins.
abbrev pub slot_start : ℕ → ℕ
slot_start k = 512 + 8 * k

-- Where the bytes begin that are never written: past the last slot, or at 0 where there is none.
abbrev pub rest_start : ℕ → ℕ
rest_start L = cond (size_of L == 0) 0 (slot_start (size_of L))

-- The bytes that are never written.
abbrev pub rest_of : List ℕ → List ℕ
rest_of bs = drop (rest_start (length bs)) bs

-- The node in slot k.
abbrev pub slot : List ℕ → ℕ → Node
slot bs k = record { level = slice_index bs (slot_start k); low = get16 bs (slot_start k + 2); high = get16 bs (slot_start k + 4) }

-- The nodes in the first k slots, newest first.
unfoldable pub decode : ℕ → List ℕ → List Node
decode zero bs = []
decode (suc k) bs = slot bs k ∷ decode k bs

-- The chain of a node.
abbrev pub chain_of : Node → ℕ
chain_of n = (n.level + 3 * n.low + 5 * n.high) % 256

-- The newest handle of chain c, or 0 where it has none.
unfoldable pub newest : List Node → ℕ → ℕ
newest [] c = 0
newest (n ∷ ns) c = cond (chain_of n == c) (length ns + 2) (newest ns c)

-- The heads of the first k chains: the newest handle of chain 0, of chain 1, ..
unfoldable pub head_bytes : ℕ → List Node → List ℕ
head_bytes zero ns = []
head_bytes (suc k) ns = head_bytes k ns ++ le16 (newest ns k)

-- A node's slot: level, a zero byte, low, high, link.
abbrev pub node_bytes : Node → ℕ → List ℕ
node_bytes n link = n.level ∷ 0 ∷ le16 n.low ++ le16 n.high ++ le16 link

-- The slots of nodes, the oldest first; the link is the newest handle of the node's chain among the nodes before it.
unfoldable pub slot_bytes : List Node → List ℕ
slot_bytes [] = []
slot_bytes (n ∷ ns) = slot_bytes ns ++ node_bytes n (newest ns (chain_of n))

-- All bytes of a table of size N with the nodes ns: slots not held are zero.
unfoldable pub content : ℕ → List Node → List ℕ → List ℕ
content N ns rest = cond (N == 0) rest (head_bytes 256 ns ++ (slot_bytes ns ++ (replicate (8 * (N - length ns)) 0 ++ rest)))

-- The node of the first option's sign. Its chain is 2 + 3 * 0 + 5 * 1 = 7, so as the only node it is head 7, at bytes 14 and 15.
abbrev pub first_sign : Node
first_sign = record { level = 2; low = 0; high = 1 }

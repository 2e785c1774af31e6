-- What the table's own code keeps true of its bytes, place by place.
use Rattle.std.specs.Prelude.{◌≡◌, ℕ, ◌+◌, ◌*◌, ◌/◌, ◌%◌, ◌<◌, ◌≤◌, List, length, slice_index, slice_index_or, slice_set}
use Rattle.diagram.specs.declared.Node.{Node}
use Rattle.packed.specs.Layout.{size_of, slot_start, slot, decode, chain_of, newest, node_bytes}

-- The bytes after v is written at place i.
abbrev pub put16 : List ℕ → ℕ → ℕ → List ℕ
put16 bs i v = slice_set (slice_set bs i (v % 256)) (i + 1) (v / 256)

-- The bytes at place i are those of v.
pub record Two (bs : List ℕ) (i v : ℕ) : Type 0 where
  pub low : slice_index_or bs i 0 ≡ v % 256
  pub high : slice_index_or bs (i + 1) 0 ≡ v / 256

-- The bytes of slot k are those of n with a link.
abbrev pub Slot : List ℕ → ℕ → Node → ℕ → Type 0
Slot bs k n link = (j : ℕ) → j < 8 → slice_index bs (slot_start k + j) ≡ slice_index (node_bytes n link) j

-- Only the bytes from a up to b may differ.
pub record Wrote (a b : ℕ) (old new : List ℕ) : Type 0 where
  pub long : length new ≡ length old
  pub below : (i : ℕ) → i < a → slice_index new i ≡ slice_index old i
  pub above : (i : ℕ) → b ≤ i → slice_index new i ≡ slice_index old i

-- The heads and the first slots are as their nodes ask, and the slots after them are zero.
pub record Laid (held : ℕ) (bs : List ℕ) : Type 0 where
  pub heads : (c : ℕ) → c < 256 → Two bs (2 * c) (newest (decode held bs) c)
  pub slots : (k : ℕ) → k < held → Slot bs k (slot bs k) (newest (decode k bs) (chain_of (slot bs k)))
  pub clear : (i : ℕ) → slot_start held ≤ i → i < slot_start (size_of (length bs)) → slice_index bs i ≡ 0

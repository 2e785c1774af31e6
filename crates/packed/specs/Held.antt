-- The nodes that the slots hold. The files Held and Exact have the proofs of the trait's laws, which only a file of specs/ can hand to an impl.
use Rattle.std.proofs.Common.{◌≡◌, ℕ, zero, suc, ◌≤◌, List, [], length, refl, ap, arith}
use Rattle.diagram.specs.Nodes.{WellFormed}
use Rattle.table.specs.Model.{Sound}
use Rattle.packed.specs.Layout.{size_of, decode, newest}
use Rattle.packed.specs.Props.{formed_out}

pub decode_length : (k : ℕ) (bs : List ℕ) → length (decode k bs) ≡ k
unfolding decode
decode_length zero bs = refl
decode_length (suc k) bs = ap suc (decode_length k bs)

pub decode_none : (bs : List ℕ) → decode 0 bs ≡ []
unfolding decode
decode_none bs = refl

pub newest_none : (c : ℕ) → newest [] c ≡ 0
unfolding newest
newest_none c = refl

pub sound_held : (held : ℕ) (bs : List ℕ) → held ≤ size_of (length bs) → ∥ WellFormed (decode held bs) ∥₁ → Sound (size_of (length bs)) (decode held bs)
sound_held held bs room w = let e = decode_length held bs in record { small = omega arith; room = omega arith; formed = formed_out (decode held bs) w }

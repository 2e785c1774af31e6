-- What writes leave, byte by byte.
use Rattle.std.proofs.Common.{◌≡◌, ℕ, ◌+◌, ◌/◌, ◌%◌, ◌<◌, List, length, get_or, set, ap, ◌∙◌, arith}
use Rattle.std.proofs.lemmas.List.{get_or-set_same, get_or-set_other, length-set}
use Rattle.diagram.specs.declared.Node.{Node}
use Rattle.packed.specs.Layout.{get16, slot_start, slot}
use Rattle.packed.specs.Inner.{put16, Two, Slot}

pub two_get : {bs : List ℕ} {i v : ℕ} → Two bs i v → get16 bs i ≡ v
two_get t = omega (arith, t.low, t.high)

pub two_same : {bs bs' : List ℕ} {i v : ℕ} → get_or bs' i 0 ≡ get_or bs i 0 → get_or bs' (i + 1) 0 ≡ get_or bs (i + 1) 0 → Two bs i v → Two bs' i v
two_same a b t = record { low = a ∙ t.low; high = b ∙ t.high }

pub length_put16 : (bs : List ℕ) (i v : ℕ) → length (put16 bs i v) ≡ length bs
length_put16 bs i v = length-set (set bs i (v % 256)) (i + 1) (v / 256) ∙ length-set bs i (v % 256)

pub put16_other : (bs : List ℕ) (i v k : ℕ) → (k ≡ i → ⊥) → (k ≡ i + 1 → ⊥) → get_or (put16 bs i v) k 0 ≡ get_or bs k 0
put16_other bs i v k a b = get_or-set_other (set bs i (v % 256)) (i + 1) k (v / 256) 0 b ∙ get_or-set_other bs i k (v % 256) 0 a

pub put16_same : (bs : List ℕ) (i v : ℕ) → i + 1 < length bs → Two (put16 bs i v) i v
put16_same bs i v h =
    let l = length-set bs i (v % 256) in
    record {
      low = get_or-set_other (set bs i (v % 256)) (i + 1) i (v / 256) 0 (λ e. omega arith) ∙ get_or-set_same bs i (v % 256) 0 (omega arith);
      high = get_or-set_same (set bs i (v % 256)) (i + 1) (v / 256) 0 (omega arith);
    }

-- The fields of a slot.
module _ (bs : List ℕ) (k : ℕ) (n : Node) (link : ℕ) (s : Slot bs k n link) where
  move : (i j : ℕ) → i ≡ j → get_or bs i 0 ≡ get_or bs j 0
  move i j e = ap (λ x. get_or bs x 0) e

  level_is : get_or bs (slot_start k) 0 ≡ n.level
  level_is = move (slot_start k) (slot_start k + 0) (omega arith) ∙ s 0 (omega arith)

  low_is : get16 bs (slot_start k + 2) ≡ n.low
  low_is = omega (arith, s 2 (omega arith), move (slot_start k + 2 + 1) (slot_start k + 3) (omega arith), s 3 (omega arith))

  high_is : get16 bs (slot_start k + 4) ≡ n.high
  high_is = omega (arith, s 4 (omega arith), move (slot_start k + 4 + 1) (slot_start k + 5) (omega arith), s 5 (omega arith))

  pub link_is : get16 bs (slot_start k + 6) ≡ link
  link_is = omega (arith, s 6 (omega arith), move (slot_start k + 6 + 1) (slot_start k + 7) (omega arith), s 7 (omega arith))

  pub slot_is : slot bs k ≡ n
  slot_is = λ i. record { level = level_is i; low = low_is i; high = high_is i }

-- The newest node's head is set to its link, and its slot is cleared.
use Rattle.std.proofs.Common.{◌≡◌, ℕ, ◌+◌, ◌*◌, ◌<◌, ◌≤◌, List, ◌∷◌, length, get_or, sym, ap, ◌∙◌, subst, ⊎_elim, arith}
use Rattle.std.proofs.lemmas.Bool.{cases_eq, cases_lt}
use Rattle.packed.specs.Layout.{get16, size_of, slot_start, rest_of, slot, decode, chain_of, newest}
use Rattle.packed.specs.Inner.{put16, Two, Slot, Wrote, Laid}
use Rattle.packed.proofs.Writes.{two_same, length_put16, put16_other, put16_same, link_is}
use Rattle.packed.proofs.Chains.{decode_more, decode_same, slot_same, newest_other}
use Rattle.packed.specs.Exact.{rest_at, rest_same}

-- What the two writes leave.
pub record Left (k : ℕ) (bs bs₂ : List ℕ) : Type 0 where
  pub long : length bs₂ ≡ length bs
  pub nodes : decode (k + 1) bs ≡ slot bs k ∷ decode k bs₂
  pub laid : Laid k bs₂
  pub rest : rest_of bs₂ ≡ rest_of bs

module _ (k : ℕ) (bs bs₁ bs₂ : List ℕ) (less : k < size_of (length bs)) (e : bs₁ ≡ put16 bs (2 * chain_of (slot bs k)) (get16 bs (slot_start k + 6))) (w : Wrote (slot_start k) (slot_start k + 8) bs₁ bs₂) (z : (i : ℕ) → slot_start k ≤ i → i < slot_start k + 8 → get_or bs₂ i 0 ≡ 0) (ok : Laid (k + 1) bs) where
  in_heads : 2 * chain_of (slot bs k) + 1 < 512
  in_heads = omega arith

  length_left : length bs₂ ≡ length bs
  length_left = w.long ∙ (ap length e ∙ length_put16 bs (2 * chain_of (slot bs k)) (get16 bs (slot_start k + 6)))

  one : (i : ℕ) → 512 ≤ i → get_or bs₁ i 0 ≡ get_or bs i 0
  one i h = let q = in_heads in ap (λ b. get_or b i 0) e ∙ put16_other bs (2 * chain_of (slot bs k)) (get16 bs (slot_start k + 6)) i (λ e. omega arith) (λ e. omega arith)

  old : (i : ℕ) → 512 ≤ i → i < slot_start k → get_or bs₂ i 0 ≡ get_or bs i 0
  old i h l = w.below i l ∙ one i h

  past : (i : ℕ) → slot_start k + 8 ≤ i → get_or bs₂ i 0 ≡ get_or bs i 0
  past i h = w.above i h ∙ one i (omega arith)

  decode_old : (j : ℕ) → j ≤ k → decode j bs₂ ≡ decode j bs
  decode_old j h = decode_same j bs bs₂ (λ i a b. old i a (omega arith))

  decode_left : decode (k + 1) bs ≡ slot bs k ∷ decode k bs₂
  decode_left = decode_more k bs ∙ ap (λ ns. slot bs k ∷ ns) (sym (decode_old k (omega arith)))

  head_same : (d v : ℕ) → d < 256 → Two bs₁ (2 * d) v → Two bs₂ (2 * d) v
  head_same d v h t = two_same (w.below (2 * d) (omega arith)) (w.below (2 * d + 1) (omega arith)) t

  head_own : (d : ℕ) → chain_of (slot bs k) ≡ d → Two bs₂ (2 * d) (newest (decode k bs₂) d)
  head_own d c =
      let q = in_heads in
      let v : get16 bs (slot_start k + 6) ≡ newest (decode k bs₂) (chain_of (slot bs k)) =
      link_is bs k _ _ (ok.slots k (omega arith)) ∙ ap (λ ns. newest ns (chain_of (slot bs k))) (sym (decode_old k (omega arith))) in
      let t : Two bs₁ (2 * chain_of (slot bs k)) (get16 bs (slot_start k + 6)) =
      subst (λ b. Two b (2 * chain_of (slot bs k)) (get16 bs (slot_start k + 6))) (sym e) (put16_same bs (2 * chain_of (slot bs k)) (get16 bs (slot_start k + 6)) (omega arith)) in
      subst (λ x. Two bs₂ (2 * x) (newest (decode k bs₂) x)) c (head_same (chain_of (slot bs k)) _ (omega arith) (subst (Two bs₁ (2 * chain_of (slot bs k))) v t))

  head_other : (d : ℕ) → d < 256 → (chain_of (slot bs k) ≡ d → ⊥) → Two bs₂ (2 * d) (newest (decode k bs₂) d)
  head_other d h ne =
      let v : newest (decode (k + 1) bs) d ≡ newest (decode k bs₂) d = ap (λ ns. newest ns d) decode_left ∙ newest_other (slot bs k) (decode k bs₂) d ne in
      head_same d _ h
      (subst (λ b. Two b (2 * d) (newest (decode k bs₂) d)) (sym e)
      (two_same (put16_other bs (2 * chain_of (slot bs k)) (get16 bs (slot_start k + 6)) (2 * d) (λ e. ne (omega arith)) (λ e. omega arith)) (put16_other bs (2 * chain_of (slot bs k)) (get16 bs (slot_start k + 6)) (2 * d + 1) (λ e. omega arith) (λ e. ne (omega arith))) (subst (Two bs (2 * d)) v (ok.heads d h))))

  slot_kept : (j : ℕ) → j < k → Slot bs₂ j (slot bs₂ j) (newest (decode j bs₂) (chain_of (slot bs₂ j)))
  slot_kept j h =
      let d = decode_old j (omega arith) in
      let x = slot_same j bs bs₂ (λ i a b. old i (omega arith) (omega arith)) in
      subst (λ ns. Slot bs₂ j (slot bs₂ j) (newest ns (chain_of (slot bs₂ j)))) (sym d)
      (subst (λ y. Slot bs₂ j y (newest (decode j bs) (chain_of y))) (sym x) (λ i l. old (slot_start j + i) (omega arith) (omega arith) ∙ ok.slots j (omega arith) i l))

  laid_left : Laid k bs₂
  laid_left = record {
    heads = λ d h. ⊎_elim (head_own d) (head_other d h) (cases_eq (chain_of (slot bs k)) d);
    slots = slot_kept;
    clear = λ i h l. ⊎_elim (λ u. z i h u) (λ v. past i v ∙ ok.clear i (omega arith) (subst (λ x. i < slot_start (size_of x)) length_left l)) (cases_lt i (slot_start k + 8));
  }

  rest_left : rest_of bs₂ ≡ rest_of bs
  rest_left = let r = rest_at (length bs) (omega arith) in rest_same bs bs₂ length_left (λ i h. past i (omega arith))

  pub left : Left k bs bs₂
  left = record { long = length_left; nodes = decode_left; laid = laid_left; rest = rest_left }

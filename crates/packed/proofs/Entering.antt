-- A node is written into the next slot, linked to the head of its chain, and then the head.
use Rattle.std.proofs.Common.{◌≡◌, ℕ, ◌+◌, ◌*◌, ◌<◌, ◌≤◌, List, ◌∷◌, length, get_or, sym, ap, ◌∙◌, subst, ⊎_elim, arith}
use Rattle.std.proofs.lemmas.Bool.{cases_eq}
use Rattle.diagram.specs.declared.Node.{Node}
use Rattle.packed.specs.Layout.{get16, size_of, slot_start, rest_of, slot, decode, chain_of, newest}
use Rattle.packed.specs.Inner.{put16, Two, Slot, Wrote, Laid}
use Rattle.packed.proofs.Writes.{two_get, two_same, length_put16, put16_other, put16_same, slot_is}
use Rattle.packed.specs.Held.{decode_length}
use Rattle.packed.proofs.Chains.{decode_more, decode_same, slot_same, newest_own, newest_other}
use Rattle.packed.specs.Exact.{rest_at, rest_same}

-- What the two writes leave.
pub record Entered (held : ℕ) (bs bs₂ : List ℕ) (n : Node) : Type 0 where
  pub long : length bs₂ ≡ length bs
  pub nodes : decode (held + 1) bs₂ ≡ n ∷ decode held bs
  pub laid : Laid (held + 1) bs₂
  pub rest : rest_of bs₂ ≡ rest_of bs

module _ (held : ℕ) (bs bs₁ bs₂ : List ℕ) (n : Node) (link : ℕ) (less : held < size_of (length bs)) (w : Wrote (slot_start held) (slot_start held + 8) bs bs₁) (s : Slot bs₁ held n link) (lk : link ≡ get16 bs (2 * chain_of n)) (e : bs₂ ≡ put16 bs₁ (2 * chain_of n) (held + 2)) (ok : Laid held bs) where
  in_heads : 2 * chain_of n + 1 < 512
  in_heads = omega arith

  length_entered : length bs₂ ≡ length bs
  length_entered = ap length e ∙ (length_put16 bs₁ (2 * chain_of n) (held + 2) ∙ w.long)

  kept : (i : ℕ) → 512 ≤ i → get_or bs₂ i 0 ≡ get_or bs₁ i 0
  kept i h = let q = in_heads in ap (λ b. get_or b i 0) e ∙ put16_other bs₁ (2 * chain_of n) (held + 2) i (λ e. omega arith) (λ e. omega arith)

  old : (i : ℕ) → 512 ≤ i → i < slot_start held → get_or bs₂ i 0 ≡ get_or bs i 0
  old i h l = kept i h ∙ w.below i l

  past : (i : ℕ) → slot_start held + 8 ≤ i → get_or bs₂ i 0 ≡ get_or bs i 0
  past i h = kept i (omega arith) ∙ w.above i h

  decode_old : (k : ℕ) → k ≤ held → decode k bs₂ ≡ decode k bs
  decode_old k h = decode_same k bs bs₂ (λ i a b. old i a (omega arith))

  slot_old : (k : ℕ) → k < held → slot bs₂ k ≡ slot bs k
  slot_old k h = slot_same k bs bs₂ (λ i a b. old i (omega arith) (omega arith))

  slot_new : slot bs₂ held ≡ n
  slot_new = slot_same held bs₁ bs₂ (λ i a b. kept i (omega arith)) ∙ slot_is bs₁ held n link s

  decode_new : decode (held + 1) bs₂ ≡ n ∷ decode held bs
  decode_new = let a = decode_old held (omega arith) in let b = slot_new in decode_more held bs₂ ∙ (λ i. b i ∷ a i)

  head_own : (d : ℕ) → chain_of n ≡ d → Two bs₂ (2 * d) (newest (decode (held + 1) bs₂) d)
  head_own d c =
      let q = in_heads in
      let l = w.long in
      let v : held + 2 ≡ newest (decode (held + 1) bs₂) d = sym (ap (λ ns. newest ns d) decode_new ∙ (newest_own n (decode held bs) d c ∙ ap (λ x. x + 2) (decode_length held bs))) in
      subst (Two bs₂ (2 * d)) v (subst (λ x. Two bs₂ (2 * x) (held + 2)) c (subst (λ b. Two b (2 * chain_of n) (held + 2)) (sym e) (put16_same bs₁ (2 * chain_of n) (held + 2) (omega arith))))

  head_other : (d : ℕ) → d < 256 → (chain_of n ≡ d → ⊥) → Two bs₂ (2 * d) (newest (decode (held + 1) bs₂) d)
  head_other d h ne =
      let v : newest (decode held bs) d ≡ newest (decode (held + 1) bs₂) d = sym (ap (λ ns. newest ns d) decode_new ∙ newest_other n (decode held bs) d ne) in
      let t : Two bs₁ (2 * d) (newest (decode held bs) d) = two_same (w.below (2 * d) (omega arith)) (w.below (2 * d + 1) (omega arith)) (ok.heads d h) in
      subst (Two bs₂ (2 * d)) v
      (subst (λ b. Two b (2 * d) (newest (decode held bs) d)) (sym e)
      (two_same (put16_other bs₁ (2 * chain_of n) (held + 2) (2 * d) (λ e. ne (omega arith)) (λ e. omega arith)) (put16_other bs₁ (2 * chain_of n) (held + 2) (2 * d + 1) (λ e. omega arith) (λ e. ne (omega arith))) t))

  slot_kept : (k : ℕ) → k < held → Slot bs₂ k (slot bs₂ k) (newest (decode k bs₂) (chain_of (slot bs₂ k)))
  slot_kept k h =
      let d = decode_old k (omega arith) in
      let x = slot_old k h in
      subst (λ ns. Slot bs₂ k (slot bs₂ k) (newest ns (chain_of (slot bs₂ k)))) (sym d)
      (subst (λ y. Slot bs₂ k y (newest (decode k bs) (chain_of y))) (sym x) (λ j l. old (slot_start k + j) (omega arith) (omega arith) ∙ ok.slots k h j l))

  slot_last : Slot bs₂ held (slot bs₂ held) (newest (decode held bs₂) (chain_of (slot bs₂ held)))
  slot_last =
      let d = decode_old held (omega arith) in
      let x = slot_new in
      let v : link ≡ newest (decode held bs) (chain_of n) = lk ∙ two_get (ok.heads (chain_of n) (omega arith)) in
      subst (λ ns. Slot bs₂ held (slot bs₂ held) (newest ns (chain_of (slot bs₂ held)))) (sym d)
      (subst (λ y. Slot bs₂ held y (newest (decode held bs) (chain_of y))) (sym x)
      (subst (Slot bs₂ held n) v (λ j l. kept (slot_start held + j) (omega arith) ∙ s j l)))

  laid_entered : Laid (held + 1) bs₂
  laid_entered = record {
    heads = λ d h. ⊎_elim (head_own d) (head_other d h) (cases_eq (chain_of n) d);
    slots = λ k h. ⊎_elim (λ q. subst (λ k. Slot bs₂ k (slot bs₂ k) (newest (decode k bs₂) (chain_of (slot bs₂ k)))) (sym q) slot_last) (λ ne. slot_kept k (omega arith)) (cases_eq k held);
    clear = λ i h l. past i (omega arith) ∙ ok.clear i (omega arith) (subst (λ x. i < slot_start (size_of x)) length_entered l);
  }

  rest_entered : rest_of bs₂ ≡ rest_of bs
  rest_entered = let r = rest_at (length bs) (omega arith) in rest_same bs bs₂ length_entered (λ i h. past i (omega arith))

  pub entered : Entered held bs bs₂ n
  entered = record { long = length_entered; nodes = decode_new; laid = laid_entered; rest = rest_entered }

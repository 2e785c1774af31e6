-- The bytes as one list.
use Rattle.std.proofs.Common.{◌≡◌, ℕ, zero, suc, ◌+◌, ◌-◌, ◌*◌, ◌<◌, ◌≤◌, eqb, List, [], ◌∷◌, ◌++◌, length, get_or, drop, replicate, sym, refl, ap, ◌∙◌, subst, inl, inr, arith}
use Rattle.std.proofs.lemmas.List.{append_assoc, drop_more, length-replicate, get_or-replicate, ext_get_or, length-drop, get_or-drop}
use Rattle.std.proofs.lemmas.Bool.{cases_lt, eq-eqb, ne_eqb, cond-true, cond-false}
use Rattle.diagram.specs.declared.Node.{Node}
use Rattle.packed.specs.Layout.{le16, size_of, slot_start, rest_start, rest_of, slot, decode, chain_of, newest, head_bytes, node_bytes, slot_bytes, content}
use Rattle.packed.specs.Inner.{Two, Slot, Laid}
use Rattle.packed.specs.Held.{decode_length, decode_none, newest_none}
use Rattle.packed.specs.Props.{laid_out}

-- The bytes from a up to b are xs.
record Run (bs : List ℕ) (a b : ℕ) (xs : List ℕ) : Type 0 where
  is : drop a bs ≡ xs ++ drop b bs

run_from : (bs xs : List ℕ) (a b : ℕ) → a + length xs ≡ b → b ≤ length bs → ((i : ℕ) → i < length xs → get_or bs (a + i) 0 ≡ get_or xs i 0) → Run bs a b xs
run_from bs [] a b e h p = let z : a ≡ b = omega arith in record { is = ap (λ i. drop i bs) z }
run_from bs (x ∷ xs) a b e h p =
    let z : a + 0 ≡ a = omega arith in
    let first : get_or bs a 0 ≡ x = ap (λ i. get_or bs i 0) (sym z) ∙ p 0 (omega arith) in
    let rest = run_from bs xs (a + 1) b (omega arith) h (λ i l. (let y : a + 1 + i ≡ a + suc i = omega arith in ap (λ i. get_or bs i 0) y ∙ p (suc i) (omega arith))) in
    record { is = drop_more bs a 0 (omega arith) ∙ (λ i. first i ∷ rest.is i) }

run_join : {bs xs ys : List ℕ} {a b c : ℕ} → Run bs a b xs → Run bs b c ys → Run bs a c (xs ++ ys)
run_join {bs} {xs} {ys} {a} {b} {c} p q = record { is = p.is ∙ (ap (λ z. xs ++ z) q.is ∙ sym (append_assoc xs ys (drop c bs))) }

two_run : (bs : List ℕ) (a b v : ℕ) → a + 2 ≡ b → b ≤ length bs → Two bs a v → Run bs a b (le16 v)
two_run bs a b v e h t = run_from bs (le16 v) a b e h at
  where
    at : (i : ℕ) → i < 2 → get_or bs (a + i) 0 ≡ get_or (le16 v) i 0
    at zero l = let z : a + 0 ≡ a = omega arith in ap (λ i. get_or bs i 0) z ∙ t.low
    at (suc zero) l = t.high
    at (suc (suc i)) l = absurd (omega arith)

heads_run : (bs : List ℕ) (ns : List Node) (k : ℕ) → 2 * k ≤ length bs → ((c : ℕ) → c < k → Two bs (2 * c) (newest ns c)) → Run bs 0 (2 * k) (head_bytes k ns)
unfolding head_bytes
heads_run bs ns zero h p = record { is = refl }
heads_run bs ns (suc k) h p =
    run_join (heads_run bs ns k (omega arith) (λ c l. p c (omega arith))) (two_run bs (2 * k) (2 * suc k) (newest ns k) (omega arith) h (p k (omega arith)))

slots_run : (bs : List ℕ) (k : ℕ) → slot_start k ≤ length bs → ((j : ℕ) → j < k → Slot bs j (slot bs j) (newest (decode j bs) (chain_of (slot bs j)))) → Run bs 512 (slot_start k) (slot_bytes (decode k bs))
unfolding decode slot_bytes
slots_run bs zero h p = record { is = refl }
slots_run bs (suc k) h p =
    run_join (slots_run bs k (omega arith) (λ j l. p j (omega arith)))
    (run_from bs (node_bytes (slot bs k) (newest (decode k bs) (chain_of (slot bs k)))) (slot_start k) (slot_start (suc k)) (omega arith) h (p k (omega arith)))

zeros_run : (bs : List ℕ) (m a b : ℕ) → a + m ≡ b → b ≤ length bs → ((i : ℕ) → a ≤ i → i < b → get_or bs i 0 ≡ 0) → Run bs a b (replicate m 0)
zeros_run bs m a b e h p =
    run_from bs (replicate m 0) a b (omega (arith, length-replicate {A = ℕ} m 0)) h
    (λ i l. (let z = length-replicate {A = ℕ} m 0 in p (a + i) (omega arith) (omega arith) ∙ sym (get_or-replicate m i 0 0 (omega arith))))

-- The bytes that are never written.
pub rest_at : (L : ℕ) → 0 < size_of L → rest_start L ≡ slot_start (size_of L)
rest_at L h = cond-false (eqb (size_of L) 0) 0 (slot_start (size_of L)) (ne_eqb (size_of L) 0 (λ e. omega arith))

pub drop_same : (m : ℕ) (bs bs' : List ℕ) → length bs' ≡ length bs → ((i : ℕ) → m ≤ i → get_or bs' i 0 ≡ get_or bs i 0) → drop m bs' ≡ drop m bs
drop_same m bs bs' l p =
    ext_get_or 0 (drop m bs') (drop m bs) (length-drop m bs' ∙ (ap (λ k. k - m) l ∙ sym (length-drop m bs)))
    (λ i h. get_or-drop m bs' i 0 ∙ (p (m + i) (omega arith) ∙ sym (get_or-drop m bs i 0)))

pub rest_same : (bs bs' : List ℕ) → length bs' ≡ length bs → ((i : ℕ) → rest_start (length bs) ≤ i → get_or bs' i 0 ≡ get_or bs i 0) → rest_of bs' ≡ rest_of bs
rest_same bs bs' l p = ap (λ k. drop (rest_start k) bs') l ∙ drop_same (rest_start (length bs)) bs bs' l p

exact_none : (ns : List Node) (bs : List ℕ) → size_of (length bs) ≡ 0 → bs ≡ content (size_of (length bs)) ns (rest_of bs)
unfolding content
exact_none ns bs z =
    let e = eq-eqb (size_of (length bs)) 0 z in
    sym (cond-true (eqb (size_of (length bs)) 0) (rest_of bs) _ e ∙ ap (λ k. drop k bs) (cond-true (eqb (size_of (length bs)) 0) 0 (slot_start (size_of (length bs))) e))

exact_some : (held : ℕ) (bs : List ℕ) → held ≤ size_of (length bs) → 0 < size_of (length bs) → Laid held bs → bs ≡ content (size_of (length bs)) (decode held bs) (rest_of bs)
unfolding content
exact_some held bs r h ok =
    let N = size_of (length bs) in
    let ns = decode held bs in
    let m = 8 * (N - length ns) in
    let heads = heads_run bs ns 256 (omega arith) ok.heads in
    let slots = slots_run bs held (omega arith) ok.slots in
    let zeros = zeros_run bs m (slot_start held) (slot_start N) (omega (arith, decode_length held bs)) (omega arith) ok.clear in
    let rest : drop (slot_start N) bs ≡ rest_of bs = ap (λ k. drop k bs) (sym (rest_at (length bs) h)) in
    heads.is
    ∙ (ap (λ x. head_bytes 256 ns ++ x) (slots.is ∙ ap (λ x. slot_bytes ns ++ x) (zeros.is ∙ ap (λ x. replicate m 0 ++ x) rest))
    ∙ sym (cond-false (eqb N 0) (rest_of bs) _ (ne_eqb N 0 (λ e. omega arith))))

-- A table whose bytes are laid out as its nodes ask holds just the public content.
pub exact : (held : ℕ) (bs : List ℕ) → held ≤ size_of (length bs) → ∥ (0 < size_of (length bs) → Laid held bs) ∥₁ → bs ≡ content (size_of (length bs)) (decode held bs) (rest_of bs)
exact held bs r ok =
    elim (cases_lt 0 (size_of (length bs))) [
      | inl h ↦ exact_some held bs r h (laid_out held bs ok h)
      | inr z ↦ exact_none (decode held bs) bs (omega arith)
    ]

-- Cleared bytes are an empty table.
pub laid_none : (bs : List ℕ) → ((i : ℕ) → i < rest_start (length bs) → get_or bs i 0 ≡ 0) → 0 < size_of (length bs) → Laid 0 bs
laid_none bs p h =
    let e = rest_at (length bs) h in
    record {
      heads = λ c l.
          subst (Two bs (2 * c)) (sym (ap (λ ns. newest ns c) (decode_none bs) ∙ newest_none c))
          (record { low = p (2 * c) (omega arith); high = p (2 * c + 1) (omega arith) });
      slots = λ k l. absurd (omega arith);
      clear = λ i a b. p i (omega arith);
    }

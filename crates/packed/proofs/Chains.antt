-- The nodes that the slots hold, and a search along a chain.
use Rattle.std.proofs.Common.{◌≡◌, ℕ, zero, suc, ◌+◌, ◌-◌, ◌*◌, ◌<◌, ◌≤◌, eqb, ◌⊎◌, List, [], ◌∷◌, length, get_or, sym, refl, ap, ◌∙◌, subst, inl, inr, ⊎_elim, add-one, arith}
use Rattle.std.proofs.lemmas.Bool.{cases_eq, cases_lt, eq-eqb, ne_eqb, cond-true, cond-false}
use Rattle.diagram.specs.declared.Node.{Node}
use Rattle.diagram.specs.Nodes.{node_at, At}
use Rattle.diagram.proofs.Tables.{newest_node, node_more}
use Rattle.table.specs.Model.{Absent}
use Rattle.packed.specs.Layout.{get16, slot_start, slot, decode, chain_of, newest}
use Rattle.packed.specs.Inner.{Laid}
use Rattle.packed.specs.Held.{decode_length, newest_none}
use Rattle.packed.proofs.Writes.{two_get, link_is}

-- The decoded nodes, by handle and by one more.
pub decode_more : (k : ℕ) (bs : List ℕ) → decode (k + 1) bs ≡ slot bs k ∷ decode k bs
unfolding decode
decode_more k bs = ap (λ j. decode j bs) (add-one k)

pub decode_at : (k : ℕ) (bs : List ℕ) (h : ℕ) → 2 ≤ h → h < k + 2 → node_at (decode k bs) h ≡ slot bs (h - 2)
unfolding decode
decode_at zero bs h p q = absurd (omega arith)
decode_at (suc k) bs h p q =
    elim (cases_eq h (length (decode k bs) + 2)) [
      | inl e ↦
          let z : k ≡ h - 2 = omega (arith, decode_length k bs) in
          newest_node (slot bs k) (decode k bs) h e ∙ ap (slot bs) z
      | inr ne ↦
          node_more (slot bs k ∷ []) (decode k bs) h (omega (arith, decode_length k bs, ne)) ∙ decode_at k bs h p (omega (arith, decode_length k bs, ne))
    ]

pub at_slot : (held : ℕ) (bs : List ℕ) (h : ℕ) (n : Node) → 2 ≤ h → h < held + 2 → slot bs (h - 2) ≡ n → At (decode held bs) h n
at_slot held bs h n p q e = record { issued = omega (arith, decode_length held bs); two = p; is = decode_at held bs h p q ∙ e }

-- Slots that were not written hold the same nodes.
pub slot_same : (k : ℕ) (bs bs' : List ℕ) → ((i : ℕ) → slot_start k ≤ i → i < slot_start k + 8 → get_or bs' i 0 ≡ get_or bs i 0) → slot bs' k ≡ slot bs k
slot_same k bs bs' p =
    let a = p (slot_start k) (omega arith) (omega arith) in
    let b = p (slot_start k + 2) (omega arith) (omega arith) in
    let c = p (slot_start k + 2 + 1) (omega arith) (omega arith) in
    let d = p (slot_start k + 4) (omega arith) (omega arith) in
    let e = p (slot_start k + 4 + 1) (omega arith) (omega arith) in
    λ i. record { level = a i; low = b i + 256 * c i; high = d i + 256 * e i }

pub decode_same : (k : ℕ) (bs bs' : List ℕ) → ((i : ℕ) → 512 ≤ i → i < slot_start k → get_or bs' i 0 ≡ get_or bs i 0) → decode k bs' ≡ decode k bs
unfolding decode
decode_same zero bs bs' p = refl
decode_same (suc k) bs bs' p =
    let r = decode_same k bs bs' (λ i a b. p i a (omega arith)) in
    let s = slot_same k bs bs' (λ i a b. p i (omega arith) (omega arith)) in
    λ i. s i ∷ r i

-- The newest handle of a chain, one node on.
pub newest_own : (n : Node) (ns : List Node) (c : ℕ) → chain_of n ≡ c → newest (n ∷ ns) c ≡ length ns + 2
unfolding newest
newest_own n ns c e = cond-true (eqb (chain_of n) c) (length ns + 2) (newest ns c) (eq-eqb (chain_of n) c e)

pub newest_other : (n : Node) (ns : List Node) (c : ℕ) → (chain_of n ≡ c → ⊥) → newest (n ∷ ns) c ≡ newest ns c
unfolding newest
newest_other n ns c ne = cond-false (eqb (chain_of n) c) (length ns + 2) (newest ns c) (ne_eqb (chain_of n) c ne)

-- What the newest handle h of chain c among the first k slots says.
pub record Newest (k : ℕ) (bs : List ℕ) (c h : ℕ) : Type 0 where
  pub issued : h < k + 2
  pub real : (h ≡ 0) ⊎ (2 ≤ h)
  pub chain : 2 ≤ h → chain_of (slot bs (h - 2)) ≡ c
  pub none : (i : ℕ) → i < k → h < i + 2 → chain_of (slot bs i) ≡ c → ⊥

pub newest_decode : (k : ℕ) (bs : List ℕ) (c : ℕ) → Newest k bs c (newest (decode k bs) c)
unfolding decode
newest_decode zero bs c = subst (Newest 0 bs c) (sym (newest_none c)) (record { issued = omega arith; real = inl refl; chain = λ h. absurd (omega arith); none = λ i a b f. omega arith })
newest_decode (suc k) bs c = step (newest_decode k bs c) (cases_eq (chain_of (slot bs k)) c)
  where
    step : Newest k bs c (newest (decode k bs) c) → (chain_of (slot bs k) ≡ c) ⊎ (chain_of (slot bs k) ≡ c → ⊥) → Newest (suc k) bs c (newest (slot bs k ∷ decode k bs) c)
    step p (inl e) =
        let z : k + 2 - 2 ≡ k = omega arith in
        subst (Newest (suc k) bs c) (sym (newest_own (slot bs k) (decode k bs) c e ∙ ap (λ x. x + 2) (decode_length k bs)))
        (record { issued = omega arith; real = inr (omega arith); chain = λ _. ap (λ j. chain_of (slot bs j)) z ∙ e; none = λ i a b _. omega arith })
    step p (inr ne) =
        subst (Newest (suc k) bs c) (sym (newest_other (slot bs k) (decode k bs) c ne))
        (record {
          issued = let q = p.issued in omega arith;
          real = p.real;
          chain = p.chain;
          none = λ i a b f. ⊎_elim (λ q. ne (ap (λ j. chain_of (slot bs j)) (sym q) ∙ f)) (λ nq. p.none i (omega arith) b f) (cases_eq i k);
        })

-- Where a search of the chain of n stands: no slot from the handle's on holds n.
pub record Passed (held : ℕ) (bs : List ℕ) (n : Node) (h : ℕ) : Type 0 where
  pub issued : h < held + 2
  pub real : (h ≡ 0) ⊎ (2 ≤ h)
  pub chain : 2 ≤ h → chain_of (slot bs (h - 2)) ≡ chain_of n
  pub passed : (k : ℕ) → h < k + 2 → k < held → slot bs k ≡ n → ⊥

module _ (held : ℕ) (bs : List ℕ) (ok : Laid held bs) (n : Node) where
  pub passed_start : (h : ℕ) → h ≡ get16 bs (2 * chain_of n) → chain_of n < 256 → Passed held bs n h
  passed_start h e b =
      let p : Newest held bs (chain_of n) h = subst (Newest held bs (chain_of n)) (sym (e ∙ two_get (ok.heads (chain_of n) b))) (newest_decode held bs (chain_of n)) in
      record { issued = p.issued; real = p.real; chain = p.chain; passed = λ k l g f. p.none k g l (ap chain_of f) }

  next_newest : (h g : ℕ) → Passed held bs n h → 2 ≤ h → g ≡ get16 bs (slot_start (h - 2) + 6) → Newest (h - 2) bs (chain_of n) g
  next_newest h g p l e =
      let k : h - 2 < held = omega (arith, p.issued) in
      subst (Newest (h - 2) bs (chain_of n)) (sym (e ∙ (link_is bs (h - 2) _ _ (ok.slots (h - 2) k) ∙ ap (newest (decode (h - 2) bs)) (p.chain l)))) (newest_decode (h - 2) bs (chain_of n))

  pub next_less : (h g : ℕ) → Passed held bs n h → 2 ≤ h → g ≡ get16 bs (slot_start (h - 2) + 6) → g < h
  next_less h g p l e = let q = (next_newest h g p l e).issued in omega arith

  pub passed_next : (h g : ℕ) → Passed held bs n h → 2 ≤ h → (slot bs (h - 2) ≡ n → ⊥) → g ≡ get16 bs (slot_start (h - 2) + 6) → Passed held bs n g
  passed_next h g p l ne e =
      let q = next_newest h g p l e in
      let i = p.issued in
      let j = q.issued in
      record {
        issued = omega arith;
        real = q.real;
        chain = q.chain;
        passed = λ k a b f. ⊎_elim (λ z. ne (ap (slot bs) (sym z) ∙ f)) (λ nz. ⊎_elim (λ u. p.passed k u b f) (λ v. q.none k (omega arith) a (ap chain_of f)) (cases_lt h (k + 2))) (cases_eq k (h - 2));
      }

  pub passed_all : Passed held bs n 0 → Absent (decode held bs) n
  passed_all p h a =
      let i : h < held + 2 = omega (arith, a.issued, decode_length held bs) in
      let t = a.two in
      p.passed (h - 2) (omega arith) (omega arith) (sym (decode_at held bs h t i) ∙ a.is)

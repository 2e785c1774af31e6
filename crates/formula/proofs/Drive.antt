-- The automaton and the grammar: every derivation is run through, and a text has one tree. Assumes nothing.
use Rattle.std.proofs.Common.{◌≡◌, ℕ, suc, ◌+◌, ◌<◌, ◌≤◌, Bool, true, false, cond, leb, List, [], ◌∷◌, ◌++◌, sym, refl, ap, ◌∙◌, subst, ⊎_elim, append_assoc, append-nil, arith, eq-eqb, ne_eqb, le-leb, leb-true}
use borrow.Author.Tests.{lt-leb}
use Rattle.formula.specs.declared.steps.Leaf.{Leaf}
use Rattle.formula.specs.declared.steps.Operator.{Operator}
use Rattle.formula.specs.declared.steps.Token.TheVariants.{Operand, Negation, Infix, Opening, Closing}
use Rattle.formula.specs.Notation.{notation}
use Rattle.formula.specs.Grammar.{Tree, leaf, neg, binary, Derives, single, negated, bracket, looser, chained, once, Viable}
use Rattle.formula.specs.Automaton.{Chain, start, wait, Outer, outside, inside, height, State, dead, operand, operator, nots, fold, blocked, enter, close, step, run, Below, Drives}
use Rattle.formula.specs.Reads.{Unfinished}
use Rattle.std.proofs.str.Laws.{order}
use Rattle.formula.proofs.Notes.{strength_bounds}

-- folding
pub fold_below : (k : ℕ) (c : Chain) (x : Tree) → Below k c → fold k c x ≡ (c, x)
unfolding fold
fold_below k start x h = refl
fold_below k (wait l j s c) x h = ap (λ b. cond b (fold k c (binary s l x)) (wait l j s c, x)) (lt-leb k j h)

fold_one : (k : ℕ) (l : Tree) (j : ℕ) (s : Operator) (c : Chain) (x : Tree) → k ≤ j → fold k (wait l j s c) x ≡ fold k c (binary s l x)
unfolding fold
fold_one k l j s c x h = ap (λ b. cond b (fold k c (binary s l x)) (wait l j s c, x)) (le-leb k j h)

fold_fold : (k j : ℕ) (c : Chain) (x : Tree) → k ≤ j → fold k (fold j c x).0 (fold j c x).1 ≡ fold k c x
unfolding fold
fold_fold k j start x h = refl
fold_fold k j (wait l i s c) x h = go (leb j i) refl (fold_fold k j c (binary s l x) h)
  where
    go : (b : Bool) → leb j i ≡ b → fold k (fold j c (binary s l x)).0 (fold j c (binary s l x)).1 ≡ fold k c (binary s l x) → fold k (cond b (fold j c (binary s l x)) (wait l i s c, x)).0 (cond b (fold j c (binary s l x)) (wait l i s c, x)).1 ≡ fold k (wait l i s c) x
    go true e ih = ih ∙ sym (fold_one k l i s c x (omega (arith, leb-true j i e)))
    go false e ih = refl

pub below_more : (j k : ℕ) (c : Chain) → j ≤ k → Below j c → Below k c
below_more j k start h b = tt
below_more j k (wait l i s c) h b = omega arith

-- folded at j, and at any strength k down to what waits
pub fold_down : (k j : ℕ) (c d : Chain) (x t : Tree) → k ≤ j → Below k d → fold j c x ≡ (d, t) → fold k c x ≡ (d, t)
fold_down k j c d x t h b e = sym (fold_fold k j c x h) ∙ ap (λ f. fold k f.0 f.1) e ∙ fold_below k d t b

-- one operator
not_blocked : (k : ℕ) (c : Chain) → Below k c → blocked k c ≡ false
unfolding blocked
not_blocked k start h = refl
not_blocked k (wait l j s c) h = ne_eqb j k (omega arith)

pub step_chained : (n k : ℕ) (s : Operator) (c d : Chain) (x t : Tree) (o : Outer) → 3 ≤ k → fold k c x ≡ (d, t) → step n (operator c x o) (Infix k s) ≡ operand 0 (wait t k s d) o
unfolding step enter
step_chained n k s c d x t o h e = ap (λ b. cond b (enter k s (fold k c x) o) (cond (blocked k (fold (suc k) c x).0) dead (enter k s (fold (suc k) c x) o))) (le-leb 3 k h) ∙ ap (λ f. enter k s f o) e

pub step_once : (n k : ℕ) (s : Operator) (c d : Chain) (x t : Tree) (o : Outer) → k < 3 → Below k d → fold (suc k) c x ≡ (d, t) → step n (operator c x o) (Infix k s) ≡ operand 0 (wait t k s d) o
unfolding step enter
step_once n k s c d x t o h b e = ap (λ b. cond b (enter k s (fold k c x) o) (cond (blocked k (fold (suc k) c x).0) dead (enter k s (fold (suc k) c x) o))) (lt-leb 3 k h) ∙ ap (λ f. cond (blocked k f.0) dead (enter k s f o)) e ∙ ap (λ b. cond b dead (enter k s (d, t) o)) (not_blocked k d b)

pub step_blocked : (n k : ℕ) (s : Operator) (c : Chain) (x : Tree) (o : Outer) → k < 3 → blocked k (fold (suc k) c x).0 ≡ true → step n (operator c x o) (Infix k s) ≡ dead
unfolding step enter
step_blocked n k s c x o h e = ap (λ b. cond b (enter k s (fold k c x) o) (cond (blocked k (fold (suc k) c x).0) dead (enter k s (fold (suc k) c x) o))) (lt-leb 3 k h) ∙ ap (λ b. cond b dead (enter k s (fold (suc k) c x) o)) e

abbrev pub Any : Chain → Tree → Type 0
Any c x = Unit {0}

pub d_map : (L n k : ℕ) (Q R : Chain → Tree → Type 0) (bs : List ℕ) (t : Tree) → ((c : Chain) (x : Tree) → Q c x → R c x) → Drives L n k Q bs t → Drives L n k R bs t
d_map L n k Q R bs t f d m c o z w h = let r = d m c o z w h in (r.0, r.1, r.2, r.3, f r.0 r.1 r.4)

pub d_single : (L n b : ℕ) (a : Leaf) → notation b ≡ Operand a → Drives L n 6 Any (b ∷ []) (leaf a)
unfolding run step
d_single L n b a e m c o z w h = (c, nots m (leaf a), λ rest. ap (λ κ. run L (step L (operand m c o) κ) rest) e, fold_below 6 c (nots m (leaf a)) w, tt)

pub d_negated : (L n b : ℕ) (Q : Chain → Tree → Type 0) (bs : List ℕ) (t : Tree) → notation b ≡ Negation → Drives L n 6 Q bs t → Drives L n 6 Q (b ∷ bs) (neg t)
unfolding run step nots
d_negated L n b Q bs t e d m c o z w h =
    let r = d (suc m) c o (λ lt. omega arith) w h in
    (r.0, r.1, λ rest. ap (λ κ. run L (step L (operand m c o) κ) (bs ++ rest)) e ∙ r.2 rest, r.3, r.4)

pub step_open : (L : ℕ) (m : ℕ) (c : Chain) (o : Outer) → height o < L → step L (operand m c o) Opening ≡ operand 0 start (inside m c o)
unfolding step
step_open L m c o h = ap (λ b. cond b (operand 0 start (inside m c o)) dead) (le-leb (suc (height o)) L h)

pub d_bracket : (L n i a b : ℕ) (Q : Chain → Tree → Type 0) (bs : List ℕ) (t : Tree) → notation a ≡ Opening → notation b ≡ Closing → suc i ≡ n → Drives L i 1 Q bs t → Drives L n 6 Any (a ∷ bs ++ b ∷ []) t
unfolding run step nots close height
d_bracket L n i a b Q bs t e f g d m c o z w h =
    let r = d 0 start (inside m c o) (λ lt. refl) tt (omega arith) in (
      c,
      nots m t,
      λ rest. ap (λ κ. run L (step L (operand m c o) κ) ((bs ++ b ∷ []) ++ rest)) e ∙ ap (λ s. run L s ((bs ++ b ∷ []) ++ rest)) (step_open L m c o (omega arith)) ∙ ap (λ l. run L (operand 0 start (inside m c o)) l) (append_assoc bs (b ∷ []) rest) ∙ r.2 (b ∷ rest) ∙ ap (λ κ. run L (step L (operator r.0 r.1 (inside m c o)) κ) rest) f ∙ ap (λ y. run L (close y.1 (inside m c o)) rest) r.3,
      fold_below 6 c (nots m t) w,
      tt,
    )

pub d_weaker : (L n j k : ℕ) (Q : Chain → Tree → Type 0) (bs : List ℕ) (t : Tree) → j ≤ k → Drives L n k Q bs t → Drives L n j Q bs t
d_weaker L n j k Q bs t q d m c o z w h =
    let r = d m c o (λ lt. z (omega arith)) (below_more j k c q w) h in
    (r.0, r.1, r.2, fold_down j k r.0 c r.1 (nots m t) q w r.3, r.4)

-- the operator that was read last waits for nothing stronger
abbrev pub Last : ℕ → Chain → Tree → Type 0
Last k c x = k < 3 → blocked k (fold (suc k) c x).0 ≡ true

pub step_infix : (L k cur : ℕ) (s : Operator) (c d : Chain) (x t : Tree) (o : Outer) → k ≤ cur → (k < 3 → k < cur) → Below k d → fold cur c x ≡ (d, t) → step L (operator c x o) (Infix k s) ≡ operand 0 (wait t k s d) o
step_infix L k cur s c d x t o h g w e =
    ⊎_elim (λ lt. step_once L k s c d x t o lt w (fold_down (suc k) cur c d x t (g lt) (below_more k (suc k) d (omega arith) w) e)) (λ ge. step_chained L k s c d x t o ge (fold_down k cur c d x t h w e)) (order k 3)

join_zero : (L n k cur b : ℕ) (s : Operator) (Q R : Chain → Tree → Type 0) (bs cs : List ℕ) (l r : Tree) → k ≤ cur → (k < 3 → k < cur) → notation b ≡ Infix k s → Drives L n cur Q bs l → Drives L n (suc k) R cs r → (c : Chain) (o : Outer) → Below k c → height o + n ≤ L → (c' : Chain) × (x : Tree) × ((rest : List ℕ) → run L (operand 0 c o) ((bs ++ b ∷ cs) ++ rest) ≡ run L (operator c' x o) rest) × (fold k c' x ≡ (c, nots 0 (binary s l r))) × (R c' x × Last k c' x)
unfolding run nots blocked
join_zero L n k cur b s Q R bs cs l r h g e dl dr c o w f =
    let r1 = dl 0 c o (λ lt. refl) (below_more k cur c h w) f in
    let r2 = dr 0 (wait l k s c) o (λ lt. refl) (omega arith) f in
    let le : k ≤ k = omega arith in (
      r2.0,
      r2.1,
      λ rest. ap (run L (operand 0 c o)) (append_assoc bs (b ∷ cs) rest) ∙ r1.2 (b ∷ (cs ++ rest)) ∙ ap (λ κ. run L (step L (operator r1.0 r1.1 o) κ) (cs ++ rest)) e ∙ ap (λ σ. run L σ (cs ++ rest)) (step_infix L k cur s r1.0 c r1.1 l o h g w r1.3) ∙ r2.2 rest,
      sym (fold_fold k (suc k) r2.0 r2.1 (omega arith)) ∙ ap (λ y. fold k y.0 y.1) r2.3 ∙ fold_one k l k s c r le ∙ fold_below k c (binary s l r) w,
      (r2.4, λ lt. ap (λ y. blocked k y.0) r2.3 ∙ eq-eqb k k refl),
    )

pub d_join : (L n k cur b : ℕ) (s : Operator) (Q R : Chain → Tree → Type 0) (bs cs : List ℕ) (l r : Tree) → k ≤ cur → (k < 3 → k < cur) → notation b ≡ Infix k s → Drives L n cur Q bs l → Drives L n (suc k) R cs r → Drives L n k (λ c x. R c x × Last k c x) (bs ++ b ∷ cs) (binary s l r)
d_join L n k cur b s Q R bs cs l r h g e dl dr m c o z w f =
    let m0 : m ≡ 0 = z (omega (arith, (strength_bounds b k s e).1)) in
    subst (λ i. (c' : Chain) × (x : Tree) × ((rest : List ℕ) → run L (operand i c o) ((bs ++ b ∷ cs) ++ rest) ≡ run L (operator c' x o) rest) × (fold k c' x ≡ (c, nots i (binary s l r))) × (R c' x × Last k c' x)) (sym m0) (join_zero L n k cur b s Q R bs cs l r h g e dl dr c o w f)

-- every derivation is run through
pub drives : {n k : ℕ} {bs : List ℕ} {t : Tree} → (L : ℕ) → Derives n k bs t → Drives L n k Any bs t
drives L (single {n = n} {b = b} {a = a} e) = d_single L n b a e
drives L (negated {n = n} {b = b} {bs = bs} {t = t} e f) = d_negated L n b Any bs t e (drives L f)
drives L (bracket {m = i} {n = n} a b {bs = bs} {t = t} e g q f) = d_bracket L n i a b Any bs t e g q (drives L f)
drives L (looser {n = n} {k = k} {bs = bs} {t = t} f) = d_weaker L n k (suc k) Any bs t (omega arith) (drives L f)
drives L (chained {n = n} {k = k} b {op = s} {bs = bs} {cs = cs} {l = l} {r = r} e h f g) = d_map L n k _ Any (bs ++ b ∷ cs) (binary s l r) (λ c x q. tt) (d_join L n k k b s Any Any bs cs l r (omega arith) (λ lt. omega arith) e (drives L f) (drives L g))
drives L (once {n = n} {k = k} b {op = s} {bs = bs} {cs = cs} {l = l} {r = r} e h f g) = d_map L n k _ Any (bs ++ b ∷ cs) (binary s l r) (λ c x q. tt) (d_join L n k (suc k) b s Any Any bs cs l r (omega arith) (λ lt. omega arith) e (drives L f) (drives L g))

-- what the automaton says of viable beginnings
pub run_append : (L : ℕ) (σ : State) (xs ys : List ℕ) → run L σ (xs ++ ys) ≡ run L (run L σ xs) ys
unfolding run
run_append L σ [] ys = refl
run_append L σ (x ∷ xs) ys = run_append L (step L σ (notation x)) xs ys

run_dead : (L : ℕ) (xs : List ℕ) → run L dead xs ≡ dead
unfolding run step
run_dead L [] = refl
run_dead L (x ∷ xs) = run_dead L xs

pub ends : (L n : ℕ) (bs : List ℕ) (t : Tree) → n ≤ L → Derives n 1 bs t → (c : Chain) × (x : Tree) × (run L (operand 0 start outside) bs ≡ operator c x outside) × (fold 1 c x ≡ (start, t))
unfolding run nots height
ends L n bs t h f =
    let d = drives L f 0 start outside (λ lt. refl) tt (omega arith) in
    (d.0, d.1, ap (run L (operand 0 start outside)) (sym (append-nil bs)) ∙ d.2 [], d.3)

pub unfinished : (L n : ℕ) (bs : List ℕ) (t : Tree) → n ≤ L → Unfinished (run L (operand 0 start outside) bs) → Derives n 1 bs t → ⊥
unfinished L n bs t h u f = let d = ends L n bs t h f in subst Unfinished d.2 u

pub not_viable : (L n : ℕ) (bs : List ℕ) → n ≤ L → run L (operand 0 start outside) bs ≡ dead → Viable n bs → ⊥
not_viable L n bs h e v =
    let q : run L (operand 0 start outside) (bs ++ v.0) ≡ dead = run_append L (operand 0 start outside) bs v.0 ∙ ap (λ σ. run L σ v.0) e ∙ run_dead L v.0 in
    unfinished L n (bs ++ v.0) v.1 h (subst Unfinished (sym q) tt) v.2

result : Tree → State → Tree
result d dead = d
result d (operand m c o) = d
result d (operator c x o) = (fold 1 c x).1

pub unique : (n i : ℕ) (bs : List ℕ) (t u : Tree) → Derives n 1 bs t → Derives i 1 bs u → t ≡ u
unfolding result
unique n i bs t u f g =
    let a = ends (n + i) n bs t (omega arith) f in
    let b = ends (n + i) i bs u (omega arith) g in
    sym (ap (λ y. y.1) a.3) ∙ ap (result t) (sym a.2 ∙ b.2) ∙ ap (λ y. y.1) b.3

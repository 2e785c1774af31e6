-- What each part of the reader adds to a derivation, and what each refusal shows. Assumes nothing.
use Rattle.std.proofs.Common.{◌≡◌, ℕ, zero, suc, ◌+◌, ◌-◌, ◌<◌, ◌≤◌, true, ◌⊎◌, List, [], ◌∷◌, ◌++◌, length, get_or, take, drop, replicate, sym, ap, ◌∙◌, subst, inl, inr, ⊎_elim, append_assoc, append-nil, arith, drop-drop, take-add, length-append}
use lib.ListN.{length-replicate}
use Rattle.std.specs.List.{between}
use Rattle.std.proofs.str.Laws.{order}
use Rattle.std.proofs.lemmas.List.Edits.{between_none, between_more}
use Rattle.formula.specs.declared.steps.Leaf.{Leaf}
use Rattle.formula.specs.declared.steps.Operator.{Operator}
use Rattle.formula.specs.declared.steps.Step.TheVariants.{Load, Negate, Apply}
use Rattle.formula.specs.declared.steps.Token.{Token}
use Rattle.formula.specs.declared.steps.Token.TheVariants.{Operand, Negation, Infix, Opening, Closing, Foreign}
use Rattle.formula.specs.declared.steps.Step.{Step}
use Rattle.formula.specs.Notation.{notation}
use Rattle.formula.specs.Grammar.{Tree, leaf, neg, binary, postfix, Derives, single, negated, bracket, looser, chained, once}
use Rattle.formula.specs.Automaton.{Chain, nots, fold, blocked, Drives}
use Rattle.formula.specs.Reads.{Reads, Stops, After}
use Rattle.formula.proofs.Notes.{strength_bounds}
use Rattle.formula.proofs.Drive.{Any, Last, d_map, d_single, d_negated, d_bracket, d_weaker, d_join}

-- parts of the text
pub between_join : (xs : List ℕ) (a b c : ℕ) → a ≤ b → b ≤ c → between a c xs ≡ between a b xs ++ between b c xs
between_join xs a b c h k =
    let e : c - a ≡ (b - a) + (c - b) = omega arith in
    let f : a + (b - a) ≡ b = omega arith in
    ap (λ n. take n (drop a xs)) e ∙ take-add (b - a) (c - b) (drop a xs) ∙ ap (λ l. take (b - a) (drop a xs) ++ take (c - b) l) (drop-drop (b - a) a xs ∙ ap (λ n. drop n xs) f)

pub between_one : (xs : List ℕ) (p : ℕ) → p < length xs → between p (p + 1) xs ≡ get_or xs p 0 ∷ []
between_one xs p h = between_more xs p p 0 (omega arith) h ∙ ap (λ l. l ++ get_or xs p 0 ∷ []) (between_none xs p)

pub between_cons : (xs : List ℕ) (p c : ℕ) → p < c → c ≤ length xs → between p c xs ≡ get_or xs p 0 ∷ between (p + 1) c xs
between_cons xs p c h k = between_join xs p (p + 1) c (omega arith) (omega arith) ∙ ap (λ l. l ++ between (p + 1) c xs) (between_one xs p (omega arith))

-- derivations
weaken : {n : ℕ} {bs : List ℕ} {t : Tree} (d k : ℕ) → Derives n (k + d) bs t → Derives n k bs t
weaken {n} {bs} {t} zero k f = let e : k + zero ≡ k = omega arith in subst (λ j. Derives n j bs t) e f
weaken {n} {bs} {t} (suc d) k f = let e : k + suc d ≡ suc k + d = omega arith in looser (weaken d (suc k) (subst (λ j. Derives n j bs t) e f))

pub weaker : {n : ℕ} {bs : List ℕ} {t : Tree} (j k : ℕ) → j ≤ k → Derives n k bs t → Derives n j bs t
weaker {n} {bs} {t} j k h f = let e : k ≡ j + (k - j) = omega arith in weaken (k - j) j (subst (λ i. Derives n i bs t) e f)

pub deepen : {n k : ℕ} {bs : List ℕ} {t : Tree} (x : ℕ) → Derives n k bs t → Derives (x + n) k bs t
deepen x (single e) = single e
deepen x (negated e f) = negated e (deepen x f)
deepen x (bracket a b e g q f) = bracket a b e g (omega arith) (deepen x f)
deepen x (looser f) = looser (deepen x f)
deepen x (chained b e h f g) = chained b e h (deepen x f) (deepen x g)
deepen x (once b e h f g) = once b e h (deepen x f) (deepen x g)

pub join : (n k cur b : ℕ) (s : Operator) (bs cs : List ℕ) (l r : Tree) → k ≤ cur → (k < 3 → k < cur) → notation b ≡ Infix k s → Derives n cur bs l → Derives n (suc k) cs r → Derives n k (bs ++ b ∷ cs) (binary s l r)
join n k cur b s bs cs l r h g e f q =
    ⊎_elim (λ lt. once b e lt (weaker (suc k) cur (g lt) f) q) (λ ge. chained b e ge (weaker k cur h f) q) (order k 3)

-- operators
strength : Token → ℕ
strength (Operand a) = 0
strength Negation = 0
strength (Infix k s) = k
strength Opening = 0
strength Closing = 0
strength Foreign = 0

pub same_strength : (κ : Token) (k j : ℕ) (s u : Operator) → κ ≡ Infix k s → κ ≡ Infix j u → k ≡ j
unfolding strength
same_strength κ k j s u e f = ap strength (sym e ∙ f)

none_six : (text : List ℕ) (n : ℕ) (c : Chain) (x : Tree) → Any c x → Stops text n 6 c x
none_six text n c x q lt k s e h = let w : ⊥ = omega (arith, (strength_bounds (get_or text n 0) k s e).1) in absurd w

pub leaf_read : (text : List ℕ) (at depth : ℕ) (before since : List Step) (a : Leaf) → at < length text → notation (get_or text at 0) ≡ Operand a → since ≡ before ++ Load a ∷ [] → Reads text at depth 6 6 before since (at + 1)
unfolding postfix
leaf_read text at depth before since a h e w = record {
  moved = omega arith;
  inside = omega arith;
  few = omega (arith, ap length w, length-append before (Load a ∷ []));
  tree = leaf a;
  derived = subst (λ bs. Derives (32 - depth) 6 bs (leaf a)) (sym (between_one text at h)) (single e);
  added = w;
  drives = λ L. subst (λ bs. Drives L (32 - depth) 6 (Stops text (at + 1) 6) bs (leaf a)) (sym (between_one text at h)) (d_map L (32 - depth) 6 Any (Stops text (at + 1) 6) (get_or text at 0 ∷ []) (leaf a) (none_six text (at + 1)) (d_single L (32 - depth) (get_or text at 0) a e));
}

pub bracket_read : (text : List ℕ) (at depth q : ℕ) (before since : List Step) → notation (get_or text at 0) ≡ Opening → depth < 32 → q < length text → notation (get_or text q 0) ≡ Closing → Reads text (at + 1) (depth + 1) 1 1 before since q → Reads text at depth 6 6 before since (q + 1)
bracket_read text at depth q before since o d h c r =
    let a = get_or text at 0 in
    let b = get_or text q 0 in
    let bs = between (at + 1) q text in
    let e : between at (q + 1) text ≡ a ∷ bs ++ b ∷ [] =
    between_cons text at (q + 1) (omega (arith, r.moved)) (omega arith) ∙ ap (λ l. a ∷ l) (between_join text (at + 1) q (q + 1) (omega (arith, r.moved)) (omega arith) ∙ ap (λ l. between (at + 1) q text ++ l) (between_one text q h)) in
    let m : suc (32 - (depth + 1)) ≡ 32 - depth = omega arith in
    record {
      moved = omega (arith, r.moved);
      inside = omega arith;
      few = omega (arith, r.few);
      tree = r.tree;
      derived = subst (λ l. Derives (32 - depth) 6 l r.tree) (sym e) (bracket a b o c m r.derived);
      added = r.added;
      drives = λ L. subst (λ l. Drives L (32 - depth) 6 (Stops text (q + 1) 6) l r.tree) (sym e) (d_map L (32 - depth) 6 Any (Stops text (q + 1) 6) (a ∷ bs ++ b ∷ []) r.tree (none_six text (q + 1)) (d_bracket L (32 - depth) (32 - (depth + 1)) a b (Stops text q 1) bs r.tree o c m (r.drives L)));
    }

-- a run of `!`
abbrev pub AllNegations : List ℕ → ℕ → ℕ → Type 0
AllNegations text at n = (k : ℕ) → k < n → notation (get_or text (at + k) 0) ≡ Negation

negate_all : (text : List ℕ) (at n i q : ℕ) (t : Tree) → at + n < q → q ≤ length text → AllNegations text at n → Derives i 6 (between (at + n) q text) t → Derives i 6 (between at q text) (nots n t)
unfolding nots
negate_all text at zero i q t h w all f = let e : at + zero ≡ at = omega arith in subst (λ a. Derives i 6 (between a q text) t) e f
negate_all text at (suc n) i q t h w all f =
    let e : at + suc n ≡ at + n + 1 = omega arith in
    let g : Derives i 6 (between (at + n + 1) q text) t = subst (λ a. Derives i 6 (between a q text) t) e f in
    negate_all text at n i q (neg t) (omega arith) w (λ k lt. all k (omega arith)) (subst (λ l. Derives i 6 l (neg t)) (sym (between_cons text (at + n) q (omega arith) w)) (negated (all n (omega arith)) g))

drive_all : (text : List ℕ) (at n L i q : ℕ) (Q : Chain → Tree → Type 0) (t : Tree) → at + n < q → q ≤ length text → AllNegations text at n → Drives L i 6 Q (between (at + n) q text) t → Drives L i 6 Q (between at q text) (nots n t)
unfolding nots
drive_all text at zero L i q Q t h w all f = let e : at + zero ≡ at = omega arith in subst (λ a. Drives L i 6 Q (between a q text) t) e f
drive_all text at (suc n) L i q Q t h w all f =
    let e : at + suc n ≡ at + n + 1 = omega arith in
    let g = subst (λ a. Drives L i 6 Q (between a q text) t) e f in
    drive_all text at n L i q Q (neg t) (omega arith) w (λ k lt. all k (omega arith)) (subst (λ l. Drives L i 6 Q l (neg t)) (sym (between_cons text (at + n) q (omega arith) w)) (d_negated L i (get_or text (at + n) 0) Q (between (at + n + 1) q text) t (all n (omega arith)) g))

postfix_nots : (n : ℕ) (t : Tree) → postfix (nots n t) ≡ postfix t ++ replicate n Negate
unfolding postfix nots
postfix_nots zero t = sym (append-nil (postfix t))
postfix_nots (suc n) t = postfix_nots n (neg t) ∙ append_assoc (postfix t) (Negate ∷ []) (replicate n Negate)

pub operand_read : (text : List ℕ) (at n depth q : ℕ) (before mid since : List Step) → AllNegations text at n → Reads text (at + n) depth 6 6 before mid q → since ≡ mid ++ replicate n Negate → Reads text at depth 6 6 before since q
operand_read text at n depth q before mid since all r w = record {
  moved = omega (arith, r.moved);
  inside = r.inside;
  few = omega (arith, r.few, ap length w, length-append mid (replicate n Negate), length-replicate n Negate);
  tree = nots n r.tree;
  derived = negate_all text at n (32 - depth) q r.tree r.moved r.inside all r.derived;
  added = w ∙ ap (λ l. l ++ replicate n Negate) r.added ∙ append_assoc before (postfix r.tree) (replicate n Negate) ∙ ap (λ l. before ++ l) (sym (postfix_nots n r.tree));
  drives = λ L. drive_all text at n L (32 - depth) q (Stops text q 6) r.tree r.moved r.inside all (r.drives L);
}

-- the formula read so far, of strength cur, and the strongest operator that may follow
pub record Sofar (text : List ℕ) (at depth floor : ℕ) (before since : List Step) (p top : ℕ) : Type 0 where
  pub cur : ℕ
  pub reads : Reads text at depth cur (top + 1) before since p
  pub high : floor ≤ cur
  pub low : top ≤ cur
  pub alone : top < 3 → top < cur

pub begun : (text : List ℕ) (at depth floor : ℕ) (before since : List Step) (p : ℕ) → floor ≤ 6 → Reads text at depth 6 6 before since p → Sofar text at depth floor before since p 5
begun text at depth floor before since p h r = record { cur = 6; reads = r; high = h; low = omega arith; alone = omega arith }

pub ended : (text : List ℕ) (at depth floor : ℕ) (before since : List Step) (p top : ℕ) → (p < length text → (k : ℕ) (s : Operator) → notation (get_or text p 0) ≡ Infix k s → floor ≤ k → top < k) → Sofar text at depth floor before since p top → Reads text at depth floor floor before since p
ended text at depth floor before since p top g f =
    let r = f.reads in
    record {
      moved = r.moved;
      inside = r.inside;
      few = r.few;
      tree = r.tree;
      derived = weaker floor f.cur f.high r.derived;
      added = r.added;
      drives = λ L. d_map L (32 - depth) floor (Stops text p (top + 1)) (Stops text p floor) (between at p text) r.tree (λ c x q lt k s e h. q lt k s e (omega (arith, g lt k s e h))) (d_weaker L (32 - depth) floor f.cur (Stops text p (top + 1)) (between at p text) r.tree f.high (r.drives L));
    }

pub after_cases : (k r : ℕ) → After k r → ((3 ≤ k) × (r ≡ k)) ⊎ ((k < 3) × (r + 1 ≡ k))
after_cases k r a = ⊎_elim (λ lt. inr (lt, a.1 lt)) (λ ge. inl (ge, a.0 ge)) (order k 3)

stop_more : (text : List ℕ) (q k top : ℕ) → After k top → (c : Chain) (x : Tree) → Stops text q (k + 1) c x × Last k c x → Stops text q (top + 1) c x
stop_more text q k top a c x w lt i s e h =
    ⊎_elim (λ lo. let eq : i ≡ k = omega (arith, after_cases k top a) in let j : k < 3 = omega (arith, after_cases k top a) in subst (λ n. (n < 3) × (blocked n (fold (suc n) c x).0 ≡ true)) (sym eq) (j, w.1 j)) (λ hi. w.0 lt i s e hi) (order i (k + 1))

-- one operator and its right side more
pub one_more : (text : List ℕ) (at depth floor : ℕ) (before since mid last : List Step) (p top k q top' : ℕ) (s : Operator) → Sofar text at depth floor before since p top → p < length text → notation (get_or text p 0) ≡ Infix k s → floor ≤ k → k ≤ top → Reads text (p + 1) depth (k + 1) (k + 1) since mid q → last ≡ mid ++ Apply s ∷ [] → After k top' → Sofar text at depth floor before last q top'
unfolding postfix
one_more text at depth floor before since mid last p top k q top' s sf h sg lo hi r w af =
    let l = sf.reads in
    let b = get_or text p 0 in
    let n = 32 - depth in
    let bs = between at p text in
    let cs = between (p + 1) q text in
    let up : k ≤ sf.cur = omega (arith, sf.low) in
    let solo : k < 3 → k < sf.cur = λ lt. ⊎_elim (λ a. omega (arith, sf.alone a)) (λ b. omega (arith, sf.low)) (order top 3) in
    let f1 : k + 1 ≡ suc k = omega arith in
    let all : between at q text ≡ bs ++ b ∷ cs =
    between_join text at p q (omega (arith, l.moved)) (omega (arith, r.moved)) ∙ ap (λ x. between at p text ++ x) (between_cons text p q (omega (arith, r.moved)) r.inside) in
    let regrouped : ((before ++ postfix l.tree) ++ postfix r.tree) ++ Apply s ∷ [] ≡ before ++ (postfix l.tree ++ postfix r.tree ++ Apply s ∷ []) = simp append_assoc in
    record {
      cur = k;
      reads = record {
        moved = omega (arith, l.moved, r.moved);
        inside = r.inside;
        few = omega (arith, l.few, r.few, ap length w, length-append mid (Apply s ∷ []));
        tree = binary s l.tree r.tree;
        derived = subst (λ x. Derives n k x (binary s l.tree r.tree)) (sym all) (join n k sf.cur b s bs cs l.tree r.tree up solo sg l.derived (subst (λ j. Derives n j cs r.tree) f1 r.derived));
        added = w ∙ ap (λ x. x ++ Apply s ∷ []) (r.added ∙ ap (λ x. x ++ postfix r.tree) l.added) ∙ regrouped;
        drives = λ L. subst (λ x. Drives L n k (Stops text q (top' + 1)) x (binary s l.tree r.tree)) (sym all) (d_map L n k (λ c x. Stops text q (k + 1) c x × Last k c x) (Stops text q (top' + 1)) (bs ++ b ∷ cs) (binary s l.tree r.tree) (stop_more text q k top' af) (d_join L n k sf.cur b s (Stops text p (top + 1)) (Stops text q (k + 1)) bs cs l.tree r.tree up solo sg (l.drives L) (subst (λ j. Drives L n j (Stops text q (k + 1)) cs r.tree) f1 (r.drives L))));
      };
      high = lo;
      low = omega (arith, after_cases k top' af);
      alone = λ lt. omega (arith, after_cases k top' af);
    }

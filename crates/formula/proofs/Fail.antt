-- What each refusal of the reader shows. Assumes nothing.
use Rattle.std.proofs.Common.{◌≡◌, ℕ, zero, suc, ◌+◌, ◌-◌, ◌<◌, ◌≤◌, true, cond, List, [], ◌∷◌, ◌++◌, length, get_or, sym, refl, ap, ◌∙◌, subst, ⊎_elim, append_assoc, append-nil, arith}
use borrow.Author.Tests.{lt-leb}
use Rattle.std.specs.List.{between}
use Rattle.std.proofs.str.Laws.{order}
use Rattle.std.proofs.lemmas.List.Edits.{between_none, between_more}
use Rattle.formula.proofs.Derive.{between_join, between_one, weaker, deepen, join, Sofar, AllNegations}
use Rattle.formula.specs.declared.steps.Leaf.{Leaf}
use Rattle.formula.specs.declared.steps.Leaf.TheVariants.{Option}
use Rattle.formula.specs.declared.steps.Operator.{Operator}
use Rattle.formula.specs.declared.steps.Token.{Token}
use Rattle.formula.specs.declared.steps.Token.TheVariants.{Operand, Negation, Infix, Opening, Closing, Foreign}
use Rattle.formula.specs.declared.steps.Step.{Step}
use Rattle.formula.specs.declared.faults.FormulaFault.{FormulaFault}
use Rattle.formula.specs.declared.faults.FormulaFault.TheVariants.{TooLong, ForeignByte, Unexpected, TooDeep}
use Rattle.formula.specs.Notation.{notation}
use Rattle.formula.specs.Grammar.{Tree, leaf, neg, binary, Derives, single, negated, bracket}
use Rattle.formula.specs.Automaton.{Chain, start, wait, Outer, outside, inside, height, dead, operand, operator, nots, fold, blocked, close, step, run, Below}
use Rattle.formula.specs.Faults.{fault_place}
use Rattle.formula.specs.Reads.{Reads, Fails, Unfinished, Limit, Plain, Named}
use Rattle.formula.proofs.Notes.{strength_bounds}
use Rattle.formula.proofs.Drive.{below_more, step_open, step_infix, step_blocked}

limit_32 : (e : FormulaFault) (L : ℕ) → Limit e L → 32 ≤ L
limit_32 TooLong L h = absurd h
limit_32 (ForeignByte p) L h = h
limit_32 (Unexpected p) L h = h
limit_32 (TooDeep p) L h = omega arith

plain_named : (text : List ℕ) (at depth k : ℕ) (e : FormulaFault) → Plain text e → Named text at depth k e
plain_named text at depth k TooLong n = n
plain_named text at depth k (ForeignByte p) n = n
plain_named text at depth k (Unexpected p) n = n
plain_named text at depth k (TooDeep p) n = absurd n

regroup : (text : List ℕ) (a b c : ℕ) (xs ys : List ℕ) → a ≤ b → b ≤ c → between a b text ++ ((between b c text ++ xs) ++ ys) ≡ between a c text ++ (xs ++ ys)
regroup text a b c xs ys h k = ap (λ l. between a b text ++ l) (append_assoc (between b c text) xs ys) ∙ sym (append_assoc (between a b text) (between b c text) (xs ++ ys)) ∙ ap (λ l. l ++ (xs ++ ys)) (sym (between_join text a b c h k))

-- what stands from `at` to `at'` and wants a part of strength k' there to be of strength k
pub record Frame (text : List ℕ) (at depth k at' depth' k' : ℕ) : Type 0 where
  pub before : at ≤ at'
  pub derives : (x n i : ℕ) (bs : List ℕ) (t : Tree) → n ≡ x + (32 - depth) → i ≡ x + (32 - depth') → Derives i k' bs t → (more : List ℕ) × (u : Tree) × Derives n k (between at at' text ++ (bs ++ more)) u
  pub drives : (L : ℕ) → 32 ≤ L → (m : ℕ) (c : Chain) (o : Outer) → (k < 6 → m ≡ 0) → Below k c → height o ≡ depth → (m' : ℕ) × (c' : Chain) × (o' : Outer) × (k' < 6 → m' ≡ 0) × Below k' c' × (height o' ≡ depth') × ((rest : List ℕ) → run L (operand m c o) (between at at' text ++ rest) ≡ run L (operand m' c' o') rest)

named_in : (text : List ℕ) (at depth k at' depth' k' : ℕ) → Frame text at depth k at' depth' k' → (e : FormulaFault) → at' ≤ fault_place e → Named text at' depth' k' e → Named text at depth k e
named_in text at depth k at' depth' k' fr TooLong h n = n
named_in text at depth k at' depth' k' fr (ForeignByte p) h n = n
named_in text at depth k at' depth' k' fr (Unexpected p) h n = n
named_in text at depth k at' depth' k' fr (TooDeep p) h n =
    let m = n.2 in
    let g = fr.derives 1 (1 + (32 - depth)) (1 + (32 - depth')) (between at' (p + 1) text ++ m.0) m.1 refl refl m.2 in
    (n.0, n.1, (m.0 ++ g.0, g.1, subst (λ bs. Derives (1 + (32 - depth)) k bs g.1) (regroup text at at' (p + 1) m.0 g.0 fr.before (omega arith)) g.2))

pub fails_in : (text : List ℕ) (at depth k at' depth' k' : ℕ) (e : FormulaFault) → Frame text at depth k at' depth' k' → Fails text at' depth' k' e → Fails text at depth k e
fails_in text at depth k at' depth' k' e fr f =
    let m = f.continued in
    let g = fr.derives 0 (32 - depth) (32 - depth') (between at' f.p text ++ m.0) m.1 (omega arith) (omega arith) m.2 in
    record {
      p = f.p;
      is = f.is;
      after = omega (arith, fr.before, f.after);
      inside = f.inside;
      continued = (m.0 ++ g.0, g.1, subst (λ bs. Derives (32 - depth) k bs g.1) (regroup text at at' f.p m.0 g.0 fr.before f.after) g.2);
      stuck = λ L lim i c o z w h.
          let d = fr.drives L (limit_32 e L lim) i c o z w h in
          let s = f.stuck L lim d.0 d.1 d.2 d.3 d.4 d.5 in (
            λ lt. ap (run L (operand i c o)) (between_join text at at' (f.p + 1) fr.before (omega (arith, f.after))) ∙ d.6 (between at' (f.p + 1) text) ∙ s.0 lt,
            λ eq. subst Unfinished (sym (ap (run L (operand i c o)) (between_join text at at' f.p fr.before f.after) ∙ d.6 (between at' f.p text))) (s.1 eq),
          );
      named = named_in text at depth k at' depth' k' fr e (omega (arith, f.is, f.after)) f.named;
    }

-- the frames
pub frame_weak : (text : List ℕ) (at depth k : ℕ) → k ≤ 6 → Frame text at depth k at depth 6
frame_weak text at depth k h = record {
  before = omega arith;
  derives = λ x n i bs t e f g. let q : n ≡ i = omega arith in ([], t, subst (λ j. Derives j k (between at at text ++ (bs ++ [])) t) (sym q) (subst (λ l. Derives i k l t) (sym (ap (λ l. l ++ (bs ++ [])) (between_none text at) ∙ append-nil bs)) (weaker k 6 h g)));
  drives = λ L l m c o z w d. (m, c, o, (λ lt. omega arith), below_more k 6 c h w, d, λ rest. ap (λ y. run L (operand m c o) (y ++ rest)) (between_none text at));
}

negations_run : (text : List ℕ) (at n L m : ℕ) (c : Chain) (o : Outer) → at + n ≤ length text → AllNegations text at n → (i : ℕ) × ((rest : List ℕ) → run L (operand m c o) (between at (at + n) text ++ rest) ≡ run L (operand i c o) rest)
unfolding run step
negations_run text at zero L m c o h all = let e : at + zero ≡ at = omega arith in (m, λ rest. ap (λ y. run L (operand m c o) (y ++ rest)) (ap (λ a. between at a text) e ∙ between_none text at))
negations_run text at (suc n) L m c o h all =
    let r = negations_run text at n L m c o (omega arith) (λ k lt. all k (omega arith)) in
    let e : at + suc n ≡ at + n + 1 = omega arith in
    let b = get_or text (at + n) 0 in
    (suc r.0, λ rest. ap (λ y. run L (operand m c o) (y ++ rest)) (ap (λ a. between at a text) e ∙ between_more text at (at + n) 0 (omega arith) (omega arith)) ∙ ap (run L (operand m c o)) (append_assoc (between at (at + n) text) (b ∷ []) rest) ∙ r.1 (b ∷ rest) ∙ ap (λ κ. run L (step L (operand r.0 c o) κ) rest) (all n (omega arith)))

negations_derive : (text : List ℕ) (at n i : ℕ) (bs : List ℕ) (t : Tree) → at + n ≤ length text → AllNegations text at n → Derives i 6 bs t → Derives i 6 (between at (at + n) text ++ bs) (nots n t)
unfolding nots
negations_derive text at zero i bs t h all f = let e : at + zero ≡ at = omega arith in subst (λ l. Derives i 6 l t) (sym (ap (λ y. y ++ bs) (ap (λ a. between at a text) e ∙ between_none text at))) f
negations_derive text at (suc n) i bs t h all f =
    let e : at + suc n ≡ at + n + 1 = omega arith in
    let b = get_or text (at + n) 0 in
    let q : between at (at + suc n) text ++ bs ≡ between at (at + n) text ++ (b ∷ bs) = ap (λ y. y ++ bs) (ap (λ a. between at a text) e ∙ between_more text at (at + n) 0 (omega arith) (omega arith)) ∙ append_assoc (between at (at + n) text) (b ∷ []) bs in
    subst (λ l. Derives i 6 l (nots n (neg t))) (sym q) (negations_derive text at n i (b ∷ bs) (neg t) (omega arith) (λ k lt. all k (omega arith)) (negated (all n (omega arith)) f))

pub frame_negations : (text : List ℕ) (at n depth : ℕ) → at + n ≤ length text → AllNegations text at n → Frame text at depth 6 (at + n) depth 6
frame_negations text at n depth h all = record {
  before = omega arith;
  derives = λ x j i bs t e f g. let q : i ≡ j = omega arith in ([], nots n t, subst (λ l. Derives j 6 l (nots n t)) (ap (λ l. between at (at + n) text ++ l) (sym (append-nil bs))) (subst (λ y. Derives y 6 (between at (at + n) text ++ bs) (nots n t)) q (negations_derive text at n i bs t h all g)));
  drives = λ L l m c o z w d. let r = negations_run text at n L m c o h all in (r.0, c, o, (λ lt. omega arith), w, d, r.1);
}

closing : notation 41 ≡ Closing
closing = refl

letter_a : notation 97 ≡ Operand (Option 1)
letter_a = refl

pub frame_bracket : (text : List ℕ) (at depth : ℕ) → at < length text → depth < 32 → notation (get_or text at 0) ≡ Opening → Frame text at depth 6 (at + 1) (depth + 1) 1
unfolding run height
frame_bracket text at depth h d e = record {
  before = omega arith;
  derives = λ x n i bs t p q g. (41 ∷ [], t, subst (λ l. Derives n 6 (l ++ (bs ++ 41 ∷ [])) t) (sym (between_one text at h)) (bracket (get_or text at 0) 41 e closing (omega arith) g));
  drives = λ L l m c o z w k. (0, start, inside m c o, (λ lt. refl), tt, omega arith, λ rest. ap (λ y. run L (operand m c o) (y ++ rest)) (between_one text at h) ∙ ap (λ κ. run L (step L (operand m c o) κ) rest) e ∙ ap (λ σ. run L σ rest) (step_open L m c o (omega arith)));
}

pub frame_infix : (text : List ℕ) (at depth floor p top k : ℕ) (s : Operator) (before since : List Step) → Sofar text at depth floor before since p top → depth ≤ 32 → p < length text → notation (get_or text p 0) ≡ Infix k s → floor ≤ k → k ≤ top → Frame text at depth floor (p + 1) depth (k + 1)
unfolding run
frame_infix text at depth floor p top k s before since sf dp h sg lo hi =
    let l = sf.reads in
    let b = get_or text p 0 in
    let up : k ≤ sf.cur = omega (arith, sf.low) in
    let solo : k < 3 → k < sf.cur = λ lt. ⊎_elim (λ a. omega (arith, sf.alone a)) (λ y. omega (arith, sf.low)) (order top 3) in
    let f1 : k + 1 ≡ suc k = omega arith in
    let part : between at (p + 1) text ≡ between at p text ++ b ∷ [] = between_more text at p 0 (omega (arith, l.moved)) h in
    record {
      before = omega (arith, l.moved);
      derives = λ x n i bs t e f g.
          let left : Derives n sf.cur (between at p text) l.tree = subst (λ j. Derives j sf.cur (between at p text) l.tree) (sym e) (deepen x l.derived) in
          let q : i ≡ n = omega arith in
          let right : Derives n (suc k) bs t = subst (λ j. Derives n j bs t) f1 (subst (λ j. Derives j (k + 1) bs t) q g) in
          let same : between at p text ++ b ∷ bs ≡ between at (p + 1) text ++ (bs ++ []) = sym (ap (λ y. y ++ (bs ++ [])) part ∙ append_assoc (between at p text) (b ∷ []) (bs ++ []) ∙ ap (λ y. between at p text ++ b ∷ y) (append-nil bs)) in
          ([], binary s l.tree t, subst (λ y. Derives n floor y (binary s l.tree t)) same (weaker floor k lo (join n k sf.cur b s (between at p text) bs l.tree t up solo sg left right)));
      drives = λ L l32 m c o z w d.
          let r = l.drives L m c o (λ lt. z (omega arith)) (below_more floor sf.cur c sf.high w) (omega arith) in (
            0,
            wait (nots m l.tree) k s c,
            o,
            (λ lt. refl),
            omega arith,
            d,
            λ rest. ap (λ y. run L (operand m c o) (y ++ rest)) part ∙ ap (run L (operand m c o)) (append_assoc (between at p text) (b ∷ []) rest) ∙ r.2 (b ∷ rest) ∙ ap (λ κ. run L (step L (operator r.0 r.1 o) κ) rest) sg ∙ ap (λ σ. run L σ rest) (step_infix L k sf.cur s r.0 c r.1 (nots m l.tree) o up solo (below_more floor k c lo w) r.3),
          );
    }

-- the refusals themselves
abbrev pub Starts : Token → Type 0
Starts (Operand a) = Unit {0}
Starts Negation = Unit {0}
Starts (Infix k s) = ⊥
Starts Opening = Unit {0}
Starts Closing = ⊥
Starts Foreign = ⊥

operand_dead : (κ : Token) (L m : ℕ) (c : Chain) (o : Outer) → (Starts κ → ⊥) → step L (operand m c o) κ ≡ dead
unfolding step
operand_dead (Operand a) L m c o h = absurd (h tt)
operand_dead Negation L m c o h = absurd (h tt)
operand_dead (Infix k s) L m c o h = refl
operand_dead Opening L m c o h = absurd (h tt)
operand_dead Closing L m c o h = refl
operand_dead Foreign L m c o h = refl

an_a : (n : ℕ) → Derives n 6 (97 ∷ []) (leaf (Option 1))
an_a n = single letter_a

pub fail_operand : (text : List ℕ) (at depth : ℕ) (e : FormulaFault) → at ≤ length text → fault_place e ≡ at → Plain text e → (at < length text → Starts (notation (get_or text at 0)) → ⊥) → Fails text at depth 6 e
unfolding run
fail_operand text at depth e h is pl bad = record {
  p = at;
  is = is;
  after = omega arith;
  inside = h;
  continued = (97 ∷ [], leaf (Option 1), subst (λ l. Derives (32 - depth) 6 (l ++ 97 ∷ []) (leaf (Option 1))) (sym (between_none text at)) (an_a (32 - depth)));
  stuck = λ L lim m c o z w d. (λ lt. ap (run L (operand m c o)) (between_one text at lt) ∙ operand_dead (notation (get_or text at 0)) L m c o (bad lt), λ eq. subst Unfinished (sym (ap (run L (operand m c o)) (between_none text at))) tt);
  named = plain_named text at depth 6 e pl;
}

pub fail_deep : (text : List ℕ) (at depth : ℕ) → at < length text → 32 ≤ depth → notation (get_or text at 0) ≡ Opening → Fails text at depth 6 (TooDeep at)
unfolding run step
fail_deep text at depth h dp e = record {
  p = at;
  is = refl;
  after = omega arith;
  inside = omega arith;
  continued = (97 ∷ [], leaf (Option 1), subst (λ l. Derives (32 - depth) 6 (l ++ 97 ∷ []) (leaf (Option 1))) (sym (between_none text at)) (an_a (32 - depth)));
  stuck = λ L lim m c o z w d. (λ lt. ap (run L (operand m c o)) (between_one text at lt) ∙ ap (λ κ. step L (operand m c o) κ) e ∙ ap (λ b. cond b (operand 0 start (inside m c o)) dead) (lt-leb (suc (height o)) L (omega arith)), λ eq. absurd (omega arith));
  named = (h, e, (97 ∷ 41 ∷ [], leaf (Option 1), subst (λ l. Derives (1 + (32 - depth)) 6 (l ++ 97 ∷ 41 ∷ []) (leaf (Option 1))) (sym (between_one text at h)) (bracket {m = 32 - depth} (get_or text at 0) 41 {bs = 97 ∷ []} e closing (omega arith) (weaker 1 6 (omega arith) (an_a (32 - depth))))));
}

operator_dead : (κ : Token) (L : ℕ) (c : Chain) (x : Tree) (o : Outer) → ((k : ℕ) (s : Operator) → κ ≡ Infix k s → (k < 3) × (blocked k (fold (suc k) c x).0 ≡ true)) → (κ ≡ Closing → height o ≡ 0) → step L (operator c x o) κ ≡ dead
unfolding step height close
operator_dead (Operand a) L c x o f g = refl
operator_dead Negation L c x o f g = refl
operator_dead (Infix k s) L c x o f g = let b = f k s refl in step_blocked L k s c x o b.0 b.1
operator_dead Opening L c x o f g = refl
operator_dead Closing L c x outside f g = refl
operator_dead Closing L c x (inside m d o) f g = let z = g refl in let w : ⊥ = omega arith in absurd w
operator_dead Foreign L c x o f g = refl

inner_open : (c : Chain) (x : Tree) (o : Outer) → 1 ≤ height o → Unfinished (operator c x o)
unfolding height
inner_open c x outside h = let w : ⊥ = omega arith in w
inner_open c x (inside m d o) h = tt

pub fail_after : (text : List ℕ) (at depth q : ℕ) (before since : List Step) (e : FormulaFault) → depth ≤ 32 → Reads text at depth 1 1 before since q → (q < length text → notation (get_or text q 0) ≡ Closing → depth ≡ 0) → (q ≡ length text → 1 ≤ depth) → fault_place e ≡ q → Plain text e → Fails text at depth 1 e
unfolding run
fail_after text at depth q before since e dp r cl en is pl = record {
  p = q;
  is = is;
  after = omega (arith, r.moved);
  inside = r.inside;
  continued = ([], r.tree, subst (λ l. Derives (32 - depth) 1 l r.tree) (sym (append-nil (between at q text))) r.derived);
  stuck = λ L lim m c o z w d.
      let big = limit_32 e L lim in
      let y = r.drives L m c o z w (omega arith) in (
        λ lt. ap (run L (operand m c o)) (between_more text at q 0 (omega (arith, r.moved)) lt) ∙ y.2 (get_or text q 0 ∷ []) ∙ operator_dead (notation (get_or text q 0)) L y.0 y.1 o (λ k s f. y.4 lt k s f (strength_bounds (get_or text q 0) k s f).0) (λ f. d ∙ cl lt f),
        λ eq. subst Unfinished (sym (ap (run L (operand m c o)) (sym (append-nil (between at q text))) ∙ y.2 [])) (inner_open y.0 y.1 o (omega (arith, en eq))),
      );
  named = plain_named text at depth 1 e pl;
}

pub no_start : (κ : Token) → ((a : Leaf) → κ ≡ Operand a → ⊥) → (κ ≡ Opening → ⊥) → (κ ≡ Negation → ⊥) → Starts κ → ⊥
no_start (Operand a) f g h s = f a refl
no_start Negation f g h s = h refl
no_start (Infix k u) f g h s = s
no_start Opening f g h s = g refl
no_start Closing f g h s = s
no_start Foreign f g h s = s

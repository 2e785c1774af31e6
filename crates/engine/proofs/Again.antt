-- Calls that make what was made before. Assumes nothing.
use Rattle.std.proofs.Common.{◌≡◌, ℕ, ◌+◌, ◌≤◌, List, [], ◌∷◌, ◌++◌, length, Ok, Err, Result, sym, refl, ap, ◌∙◌, subst, inl, inr, ⊎_elim, arith, length-append}
use Rattle.diagram.specs.declared.Node.{Node}
use Rattle.diagram.specs.Functions.{Fun, Constant}
use Rattle.diagram.specs.Nodes.{Issued, meaning, Extends}
use Rattle.diagram.specs.Counts.{Count, AtLeast}
use Rattle.diagram.specs.Outcomes.{Granted}
use Rattle.diagram.proofs.Canon.{canonical, varies_at}
use Rattle.diagram.proofs.Growth.{issued_kept, meaning_kept, extends_trans}
use Rattle.diagram.proofs.Counting.{pigeonhole, functions, functions_length, functions_distinct, held_among, among_held}
use Rattle.diagram.proofs.Counted.{grown_from, granted_holds}
use Rattle.formula.specs.Grammar.{Tree, Derives}
use Rattle.formula.specs.Answer.{Refused}
use Rattle.formula.proofs.Drive.{unique}
use Rattle.formula.specs.declared.faults.FormulaFault.{FormulaFault}
use Rattle.formula.specs.declared.faults.FormulaFault.TheVariants.{TooLong, ForeignByte, Unexpected, TooDeep}
use Rattle.implicant.specs.Variables.{condition_of, SignsOnly, ArePrimes}
use Rattle.implicant.proofs.Halves.{primes_one, nodes_vary}
use Rattle.compile.specs.Trees.{of_tree}
use Rattle.card_walk.specs.Sums.{never, some_of}
use Rattle.card_walk.proofs.Adding.{sum_varies}
use Rattle.engine.specs.declared.faults.GraphFault.{GraphFault}
use Rattle.engine.specs.Works.{Work, result, parts, primes_of, sums, shown, Working, complement, combined, fixed}
use Rattle.engine.specs.Calls.{Made, Rejected, Guarded}
use Rattle.engine.specs.Requests.{option_call, not_call, combine_call, restrict_call, formula_call, primes_call}
use Rattle.engine.specs.Theorems.{CallsExtend, SecondCall, EqualHandles, CallCounted, CallDecided}

pub equal_handles : EqualHandles
equal_handles N M w v f a b c d h k p e q =
    let x = p.outcome in
    let y = q.outcome in
    let up = extends_trans e y.granted.grows.extends in
    canonical d y.granted.grows.well_formed h k (issued_kept up h x.issued) y.issued (meaning_kept up h x.issued ∙ x.means ∙ sym y.means)

-- nothing new is left where every new node's function was held
nothing_new : (P : Fun → Type 0) (N M : ℕ) (a b : List Node) (more c : List Node) → c ≡ more ++ b → Granted N P a b → Granted M P b c → c ≡ b
nothing_new P N M a b [] c e p q = e
nothing_new P N M a b (n ∷ more) c e p q =
    let k = length c + 1 in
    let long : length c ≡ length (n ∷ more ++ b) = ap length e in
    let far : length b + 2 ≤ k = omega (arith, long, length-append more b) in
    let at : Issued c k = omega arith in
    let form = q.grows.well_formed in
    let held = p.all (meaning c k) (q.grows.fresh k far at) (varies_at c form k (omega (arith, long)) at) in
    let up = q.grows.extends in
    let same : held.at ≡ k = canonical c form held.at k (issued_kept up held.at held.issued) at (meaning_kept up held.at held.issued ∙ held.is) in
    let w : ⊥ = omega (arith, same, held.issued) in
    absurd w

-- the second call needs no more than the first
no_more : (P : Fun → Type 0) (N n : ℕ) (a b : List Node) → Granted N P a b → AtLeast n b P → AtLeast n a P
no_more P N n a b p m = record {
  functions = m.functions;
  count = m.count;
  distinct = m.distinct;
  each = λ g i. let x = m.each g i in (x.0, ⊎_elim (λ h. grown_from p.grows g h) (λ z. inr z) x.1);
}

made_again : (N : ℕ) (w : Work) (f : Fun) (a b c : List Node) (h : ℕ) (r : Result ℕ GraphFault) → Made N w f a (Ok h) b → Made N w f b r c → (r ≡ Ok h) × (c ≡ b)
made_again N w f a b c h (Ok k) p q =
    let x = p.outcome in
    let y = q.outcome in
    let up = y.granted.grows.extends in
    (ap Ok (sym (equal_handles N N w w f a b b c h k p ([], refl) q)), nothing_new (Working w) N N a b up.0 c up.1 x.granted y.granted)
made_again N w f a b c h (Err e) p q =
    absurd (p.outcome.granted.few (no_more (Working w) N (N + 1) a b p.outcome.granted q.outcome.many))

-- the same where the second call's function is shown equal
made_same : (N : ℕ) (f g : Fun) (a b c : List Node) (h : ℕ) (r : Result ℕ GraphFault) → g ≡ f → Made N (result f) f a (Ok h) b → Made N (result g) g b r c → (r ≡ Ok h) × (c ≡ b)
made_same N f g a b c h r e p q = made_again N (result f) f a b c h r p (subst (λ x. Made N (result x) x b r c) e q)

made_extends : (N : ℕ) (w : Work) (f : Fun) (a b : List Node) (r : Result ℕ GraphFault) → Made N w f a r b → Extends a b
made_extends N w f a b (Ok h) p = p.outcome.granted.grows.extends
made_extends N w f a b (Err e) p = ([], p.outcome.kept)

turned_extends : (e : GraphFault) (a b : List Node) (r : Result ℕ GraphFault) → Rejected e a r b → Extends a b
turned_extends e a b r t = ([], t.kept)

granted_arm : {A E : Type 0} → Result A E → Type 0
granted_arm (Ok h) = Unit {0}
granted_arm (Err e) = ⊥

-- a granted call was not rejected
not_rejected : (e : GraphFault) (a b : List Node) (h : ℕ) → Rejected e a (Ok h) b → ⊥
unfolding granted_arm
not_rejected e a b h t = subst granted_arm t.is tt

-- what a guarded call leaves, and that its guard held where it was granted
guarded_extends : (C : Type 0) (e : GraphFault) (P : Type 0) (a b : List Node) (r : Result ℕ GraphFault) → (P → Extends a b) → Guarded C e P a r b → Extends a b
guarded_extends C e P a b r up g = ⊎_elim (λ x. up x.1) (λ x. turned_extends e a b r x.1) g

pub guarded_granted : (C : Type 0) (e : GraphFault) (P : Type 0) (a b : List Node) (h : ℕ) → Guarded C e P a (Ok h) b → C × P
guarded_granted C e P a b h g = ⊎_elim (λ x. x) (λ x. absurd (not_rejected e a b h x.1)) g

pub guarded_met : (C : Type 0) (e : GraphFault) (P : Type 0) (a b : List Node) (r : Result ℕ GraphFault) → C → Guarded C e P a r b → P
guarded_met C e P a b r c g = ⊎_elim (λ x. x.1) (λ x. absurd (x.0 c)) g

pub calls_extend : CallsExtend
calls_extend N (option_call k) a b r o = guarded_extends _ _ _ a b r (made_extends N _ _ a b r) o.outcome
calls_extend N (not_call f) a b r o = guarded_extends _ _ _ a b r (made_extends N _ _ a b r) o.outcome
calls_extend N (combine_call op f g) a b r o = guarded_extends _ _ _ a b r (made_extends N _ _ a b r) o.outcome
calls_extend N (restrict_call f k value) a b r o = guarded_extends _ _ _ a b r (guarded_extends _ _ _ a b r (made_extends N _ _ a b r)) o.outcome
calls_extend N (formula_call text) a b r o = ⊎_elim (λ s. made_extends N _ _ a b r s.made) (λ u. turned_extends _ a b r u.turned) o.outcome
calls_extend N (primes_call f) a b r o = guarded_extends _ _ _ a b r (guarded_extends _ _ _ a b r (λ p. made_extends N _ _ a b r p.made)) o.outcome

-- a text is not both a formula and refused
no_formula : (text : List ℕ) (e : FormulaFault) → length text ≤ 4096 → (t : Tree) → Derives 32 1 text t → Refused text e → ⊥
no_formula text TooLong s t d r = omega arith
no_formula text (ForeignByte p) s t d r = r.0.none t d
no_formula text (Unexpected p) s t d r = r.0.none t d
no_formula text (TooDeep p) s t d r = r.0.none t d

pub second_call : SecondCall
second_call N (option_call k) a b d h r p q =
    let x = guarded_granted _ _ _ a b h p.outcome in
    made_again N _ _ a b d h r x.1 (guarded_met _ _ _ b d r x.0 q.outcome)
second_call N (not_call f) a b d h r p q =
    let x = guarded_granted _ _ _ a b h p.outcome in
    let up = made_extends N _ _ a b (Ok h) x.1 in
    made_same N _ _ a b d h r (ap complement (meaning_kept up f x.0)) x.1 (guarded_met _ _ _ b d r (issued_kept up f x.0) q.outcome)
second_call N (combine_call op f g) a b d h r p q =
    let x = guarded_granted _ _ _ a b h p.outcome in
    let up = made_extends N _ _ a b (Ok h) x.1 in
    let e : combined op (meaning b f) (meaning b g) ≡ combined op (meaning a f) (meaning a g) = ap (λ u. combined op u (meaning b g)) (meaning_kept up f x.0.0) ∙ ap (combined op (meaning a f)) (meaning_kept up g x.0.1) in
    made_same N _ _ a b d h r e x.1 (guarded_met _ _ _ b d r (issued_kept up f x.0.0, issued_kept up g x.0.1) q.outcome)
second_call N (restrict_call f k value) a b d h r p q =
    let z = guarded_granted _ _ _ a b h p.outcome in
    let x = guarded_granted _ _ _ a b h z.1 in
    let up = made_extends N _ _ a b (Ok h) x.1 in
    made_same N _ _ a b d h r (ap (fixed k value) (meaning_kept up f x.0)) x.1 (guarded_met _ _ _ b d r (issued_kept up f x.0) (guarded_met _ _ _ b d r z.0 q.outcome))
second_call N (formula_call text) a b d h r p q =
    ⊎_elim
    (λ s. ⊎_elim
    (λ t. made_again N (parts s.tree) (of_tree s.tree) a b d h r s.made (subst (λ u. Made N (parts u) (of_tree u) b r d) (unique 32 32 text t.tree s.tree t.derived s.derived) t.made))
    (λ u. absurd (no_formula text u.fault s.short s.tree s.derived u.refused))
    q.outcome)
    (λ u. absurd (not_rejected _ a b h u.turned))
    p.outcome
second_call N (primes_call f) a b d h r p q =
    let y = guarded_granted _ _ _ a b h p.outcome in
    let x = guarded_granted _ _ _ a b h y.1 in
    let one = x.1 in
    let up = made_extends N _ _ a b (Ok h) one.made in
    let same : meaning b f ≡ meaning a f = meaning_kept up f y.0 in
    let two = guarded_met _ _ _ b d r (subst (SignsOnly 0) (sym same) x.0) (guarded_met _ _ _ b d r (issued_kept up f y.0) q.outcome) in
    let sets : two.set ≡ one.set = primes_one 12 0 (condition_of (meaning a f)) two.set one.set (subst (λ (u : Fun). ArePrimes 12 0 (condition_of u) two.set) same two.are) one.are in
    made_again N (primes_of (meaning a f)) one.set a b d h r one.made (subst (λ (s : Fun). Made N (primes_of (meaning a f)) s b r d) sets (subst (λ (u : Fun). Made N (primes_of u) two.set b r d) same two.made))

-- counting
working_varies : (w : Work) (g : Fun) → Working w g → ¬ Constant g
working_varies (result f) g n = n.varies
working_varies (parts t) g n = n.node.varies
working_varies (primes_of f) g n = ((nodes_vary 12 0 (condition_of f) g).0 n).1
working_varies (sums ts) g n = sum_varies never ts g n
working_varies (shown ts) g (inl n) = sum_varies never ts g n
working_varies (shown ts) g (inr n) = ((nodes_vary 12 0 (condition_of (some_of ts)) g).0 n).1

pub call_counted : CallCounted
call_counted N w f a b h p =
    let q = p.outcome.granted in
    record {
      functions = functions b;
      count = functions_length b;
      distinct = functions_distinct b q.grows.well_formed;
      each = λ g. (λ u. held_among b g ((granted_holds q g).1 (⊎_elim (λ x. inl x) (λ x. inr (x, working_varies w g x)) u)), λ i. ⊎_elim (λ x. inl x) (λ x. inr x.0) ((granted_holds q g).0 (among_held b g i)));
    }

same_counts : (P : Fun → Type 0) (m n : ℕ) → Count P m → Count P n → m ≤ n
same_counts P m n x y = omega (arith, pigeonhole x.functions y.functions x.distinct (λ g i. (y.each g).0 ((x.each g).1 i)), x.count, y.count)

pub call_decided : CallDecided
call_decided N w f a b c (Ok h) (Ok k) p q =
    let x = call_counted N w f a b h p in
    let y = call_counted N w f a c k q in
    inl (h, k, refl, refl, omega (arith, same_counts _ _ _ x y, same_counts _ _ _ y x))
call_decided N w f a b c (Ok h) (Err e) p q = absurd (p.outcome.granted.few q.outcome.many)
call_decided N w f a b c (Err e) (Ok h) p q = absurd (q.outcome.granted.few p.outcome.many)
call_decided N w f a b c (Err d) (Err e) p q = inr (ap Err (p.outcome.is ∙ sym q.outcome.is), p.outcome.kept ∙ sym q.outcome.kept)

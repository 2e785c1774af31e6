-- From the automaton to the grammar. Assumes nothing.
use Rattle.std.proofs.Common.{◌≡◌, ℕ, ◌+◌, ◌-◌, ◌<◌, ◌≤◌, List, [], ◌++◌, length, take, drop, sym, refl, ap, ◌∙◌, subst, ⊎_elim, append_assoc, arith, take-append-drop, take-take}
use lib.Seq.{take-length}
use Rattle.std.specs.List.{between}
use Rattle.std.proofs.str.Laws.{order}
use Rattle.formula.specs.declared.faults.FormulaFault.{FormulaFault}
use Rattle.formula.specs.declared.faults.FormulaFault.TheVariants.{TooLong, ForeignByte, Unexpected, TooDeep}
use Rattle.formula.specs.Grammar.{postfix, Derives, Viable, IsPostfix}
use Rattle.formula.specs.Automaton.{start, outside, dead, operand, run, height}
use Rattle.formula.specs.declared.steps.Step.{Step}
use Rattle.formula.specs.declared.stored.Formula.{Formula}
use Rattle.formula.specs.Faults.{fault_place}
use Rattle.formula.specs.Answer.{steps_of, Read, Broken, Refused}
use Rattle.formula.specs.Reads.{Reads, Fails, Unfinished, Limit, Named}
use Rattle.formula.proofs.Drive.{not_viable, unfinished}

front : (text : List ℕ) (p : ℕ) → between 0 p text ≡ take p text
front text p = let e : p - 0 ≡ p = omega arith in ap (λ n. take n (drop 0 text)) e

at_32 : (text : List ℕ) (at depth k : ℕ) (e : FormulaFault) → Named text at depth k e → Limit e 32
at_32 text at depth k TooLong n = n
at_32 text at depth k (ForeignByte p) n = omega arith
at_32 text at depth k (Unexpected p) n = omega arith
at_32 text at depth k (TooDeep p) n = refl

dead_at : (text : List ℕ) (e : FormulaFault) (L : ℕ) → Fails text 0 0 1 e → Limit e L → fault_place e < length text → run L (operand 0 start outside) (take (fault_place e + 1) text) ≡ dead
unfolding height
dead_at text e L f l h =
    let s = f.stuck L l 0 start outside (λ lt. refl) tt refl in
    ap (run L (operand 0 start outside)) (sym (front text (fault_place e + 1)) ∙ ap (λ n. between 0 (n + 1) text) f.is) ∙ s.0 (omega (arith, f.is))

open_at : (text : List ℕ) (e : FormulaFault) → Fails text 0 0 1 e → fault_place e ≡ length text → Unfinished (run 32 (operand 0 start outside) text)
unfolding height
open_at text e f h =
    let s = f.stuck 32 (at_32 text 0 0 1 e f.named) 0 start outside (λ lt. refl) tt refl in
    subst (λ l. Unfinished (run 32 (operand 0 start outside) l)) (front text f.p ∙ ap (λ n. take n text) (sym f.is ∙ h) ∙ take-length text) (s.1 (sym f.is ∙ h))

-- a shorter beginning of a text that some formula continues is continued too
shorter : (text : List ℕ) (n p q : ℕ) → p ≤ q → Viable n (take q text) → Viable n (take p text)
shorter text n p q h v =
    let more = drop p (take q text) in
    let e : take p text ++ more ≡ take q text = ap (λ l. l ++ more) (sym (take-take p q text h)) ∙ take-append-drop p (take q text) in
    (more ++ v.0, v.1, subst (λ bs. Derives n 1 bs v.1) (ap (λ l. l ++ v.0) (sym e) ∙ append_assoc (take p text) more v.0) v.2)

broken : (text : List ℕ) (e : FormulaFault) → length text ≤ 4096 → Fails text 0 0 1 e → Broken text (fault_place e)
broken text e h f =
    let l = at_32 text 0 0 1 e f.named in
    let no_more : fault_place e < length text → Viable 32 (take (fault_place e + 1) text) → ⊥ = λ lt v. not_viable 32 32 (take (fault_place e + 1) text) (omega arith) (dead_at text e 32 f l lt) v in
    record {
      short = h;
      none = λ t g. ⊎_elim (λ lt. no_more lt (drop (fault_place e + 1) text, t, subst (λ bs. Derives 32 1 bs t) (sym (take-append-drop (fault_place e + 1) text)) g)) (λ ge. unfinished 32 32 text t (omega arith) (open_at text e f (omega (arith, f.is, f.inside))) g) (order (fault_place e) (length text));
      place = record {
        inside = omega (arith, f.is, f.inside);
        viable = (f.continued.0, f.continued.1, subst (λ bs. Derives 32 1 (bs ++ f.continued.0) f.continued.1) (front text f.p ∙ ap (λ n. take n text) (sym f.is)) f.continued.2);
        longest = λ q w v. ⊎_elim (λ lt. absurd (no_more (omega arith) (shorter text 32 (fault_place e + 1) q (omega arith) v))) (λ ge. ge) (order (fault_place e) q);
      };
    }

pub refused : (text : List ℕ) (e : FormulaFault) → length text ≤ 4096 → Fails text 0 0 1 e → Refused text e
refused text TooLong h f = absurd f.named
refused text (ForeignByte p) h f = (broken text (ForeignByte p) h f, (f.named.0, f.named.1))
refused text (TooDeep p) h f = let m = f.named.2 in (broken text (TooDeep p) h f, (f.named.0, f.named.1, (33, (m.0, m.1, subst (λ bs. Derives 33 1 (bs ++ m.0) m.1) (front text (p + 1)) m.2))))
refused text (Unexpected p) h f = (
  broken text (Unexpected p) h f,
  (λ s. f.named s.0 s.1),
  λ d. let n = d.2.0 in not_viable (32 + n) n (take (p + 1) text) (omega arith) (dead_at text (Unexpected p) (32 + n) f (omega arith) d.0) d.2.1,
)

whole_text : (text : List ℕ) (before since : List Step) (q : ℕ) → length text ≤ q → (r : Reads text 0 0 1 1 before since q) → Derives 32 1 text r.tree
whole_text text before since q g r =
    let e : q ≡ length text = omega (arith, r.inside) in
    subst (λ bs. Derives 32 1 bs r.tree) (front text q ∙ ap (λ n. take n text) e ∙ take-length text) r.derived

steps_added : (text : List ℕ) (before since : List Step) (q : ℕ) → before ≡ [] → (r : Reads text 0 0 1 1 before since q) → since ≡ postfix r.tree
steps_added text before since q z r = r.added ∙ ap (λ l. l ++ postfix r.tree) z

pub spelled : (text : List ℕ) (before since : List Step) (q : ℕ) → length text ≤ q → before ≡ [] → Reads text 0 0 1 1 before since q → IsPostfix since
spelled text before since q g z r = (text, r.tree, whole_text text before since q g r, steps_added text before since q z r)

pub read_all : (text : List ℕ) (before : List Step) (out : Formula) (q : ℕ) → length text ≤ 4096 → length text ≤ q → before ≡ [] → Reads text 0 0 1 1 before (steps_of out) q → Read text out
read_all text before out q h g z r = record {
  short = h;
  tree = r.tree;
  derived = whole_text text before (steps_of out) q g r;
  steps = steps_added text before (steps_of out) q z r;
}

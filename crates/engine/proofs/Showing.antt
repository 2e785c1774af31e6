-- A card that is read and listed within one call. Assumes nothing.
use Rattle.std.proofs.Common.{◌≡◌, ℕ, ◌+◌, ◌⊎◌, List, length, Ok, Err, Result, sym, refl, ap, ◌∙◌, subst, inl, inr, ⊎_elim}
use Rattle.diagram.specs.declared.Node.{Node}
use Rattle.diagram.specs.Functions.{Fun}
use Rattle.diagram.specs.Nodes.{Issued, meaning}
use Rattle.diagram.specs.Counts.{AtLeast}
use Rattle.diagram.specs.Outcomes.{Granted}
use Rattle.diagram.proofs.Growth.{cut_back, held_kept}
use Rattle.diagram.proofs.Outcome.{grows_up, grows_trans}
use Rattle.diagram.proofs.Counted.{grown_from}
use Rattle.diagram.proofs.Counting.{at_least_varying}
use Rattle.implicant.specs.Implicants.{Condition}
use Rattle.implicant.specs.Variables.{condition_of, SignsOnly, ArePrimes}
use Rattle.table.specs.Model.{oldest}
use Rattle.formula.specs.Grammar.{Tree}
use Rattle.listing.specs.declared.faults.ListFault.{ListFault}
use Rattle.card_text.specs.Grammar.{Row}
use Rattle.card_text.specs.Card.{IsCard, formulas, card_title}
use Rattle.card_walk.specs.Sums.{TreesOf, some_of}
use Rattle.card_walk.specs.Shown.{CardWritten}
use Rattle.card_walk.proofs.Signs.{some_signs}
use Rattle.engine.specs.declared.faults.GraphFault.{GraphFault}
use Rattle.engine.specs.declared.card_faults.CardFault.{CardFault}
use Rattle.engine.specs.declared.card_faults.CardFault.TheVariants.{Graph, ShortOutput}
use Rattle.engine.specs.Works.{primes_of, sums, shown, Working}
use Rattle.engine.specs.Calls.{Given, Made, Primed, PrimesOut}
use Rattle.engine.specs.Ends.{Ended}
use Rattle.engine.specs.Shows.{ShowOut}
use Rattle.engine.proofs.Again.{guarded_met}
use Rattle.engine.proofs.Listing.{Shortened}

-- The same facts of an equal size and of an equal title.
pub primes_within : {N M h : ℕ} {mid new : List Node} {r : Result ℕ GraphFault} → M ≡ N → PrimesOut M h mid r new → PrimesOut N h mid r new
primes_within {h = h} {mid = mid} {new = new} {r = r} e p = subst (λ (n : ℕ). PrimesOut n h mid r new) e p

pub retitled : {x y : List ℕ} {g : Fun} {r : Result ℕ ListFault} {old new : List ℕ} → x ≡ y → CardWritten x g r old new → CardWritten y g r old new
retitled {g = g} {r = r} {old = old} {new = new} e w = subst (λ (x : List ℕ). CardWritten x g r old new) e w

-- a graph's fault is carried whole
abbrev pub Carried : GraphFault → CardFault → Type 0
Carried x y = y ≡ Graph x

abbrev pub failed : CardFault → Result ℕ CardFault
failed x = Err x

err_ok : {x : CardFault} {s : ℕ} → failed x ≡ Ok s → ⊥
err_ok e = cc

-- the primes are made, and the call goes on with them
pub primes_kept : (m : Result ℕ GraphFault) (set count : ℕ) (wide new : List Node) → Ended {F = CardFault} Carried count m wide (Ok set) new → (m ≡ Ok set) × (new ≡ wide)
primes_kept (Ok s) set count wide new e = let o = e.outcome in (cc, o.1)
primes_kept (Err y) set count wide new e = let o = e.outcome in absurd (err_ok {x = o.0} (sym o.2))

pub kept_primes : {N h : ℕ} {mid wide new : List Node} {m : Result ℕ GraphFault} {set : ℕ} → PrimesOut N h mid m wide → (m ≡ Ok set) × (new ≡ wide) → PrimesOut N h mid (Ok set) new
kept_primes {N} {h} {mid} {wide} {set = set} p k = subst (λ (ns : List Node). PrimesOut N h mid (Ok set) ns) (sym k.1) (subst (λ (q : Result ℕ GraphFault). PrimesOut N h mid q wide) k.0 p)

-- Two calls one after the other as one: P is made first, then Q.
module _ {N : ℕ} {P Q : Fun → Type 0} {old mid : List Node} (first : Granted N P old mid) where
  many_then : {n : ℕ} → AtLeast n mid Q → AtLeast n old (λ g. P g ⊎ Q g)
  many_then m = record {
    functions = m.functions;
    count = m.count;
    distinct = m.distinct;
    each = λ g i. let x = m.each g i in (x.0, ⊎_elim (λ h. ⊎_elim inl (λ p. inr (inl p)) (grown_from first.grows g h)) (λ q. inr (inr q)) x.1);
  }

  few_then : ¬ AtLeast (N + 1) mid Q → ¬ AtLeast (N + 1) old (λ g. P g ⊎ Q g)
  few_then few m = few (record {
    functions = m.functions;
    count = m.count;
    distinct = m.distinct;
    each = λ g i. let x = m.each g i in (x.0, ⊎_elim (λ h. inl (held_kept first.grows.extends h)) (λ w. ⊎_elim (λ p. inl (first.all g p x.0)) inr w) x.1);
  })

  granted_then : {new : List Node} → Granted N Q mid new → Granted N (λ g. P g ⊎ Q g) old new
  granted_then second = record {
    grows = grows_trans (grows_up (λ g p. inl p) first.grows) (grows_up (λ g q. inr q) second.grows);
    all = λ g w v. ⊎_elim (λ p. held_kept second.grows.extends (first.all g p v)) (λ q. second.all g q v) w;
    few = few_then second.few;
  }

-- the sum alone is more than the table has room for
pub show_full : (N : ℕ) (text : List ℕ) (old : List Node) (before : List ℕ) (rows : List Row) → IsCard text rows → (ts : List Tree) → TreesOf (formulas rows) ts → (e : GraphFault) (r : Result ℕ CardFault) (new : List Node) → r ≡ Err (Graph e) → Made N (sums ts) (some_of ts) old (Err e) new → ShowOut N text old before r new before
show_full N text old before rows card ts are e r new is m =
    let o = m.outcome in
    record { outcome = inl (record { rows = rows; card = card; trees = ts; are = are; writing = inl (record { many = at_least_varying (λ g n _. inl n) o.many; is = is ∙ ap (λ x. Err (Graph x)) o.is; nodes = o.kept; output = refl }) }) }

module _ (N : ℕ) (text : List ℕ) (old : List Node) (before : List ℕ) (rows : List Row) (card : IsCard text rows) (ts : List Tree) (are : TreesOf (formulas rows) ts) (h : ℕ) (mid : List Node) (made : Made N (sums ts) (some_of ts) old (Ok h) mid) where
  given : Given N (sums ts) (some_of ts) old h mid
  given = made.outcome

  -- the sum is a condition, so its primes are made or the table is full
  signs : SignsOnly 0 (meaning mid h)
  signs = subst (SignsOnly 0) (sym given.means) (some_signs (formulas rows) ts are)

  primed : (r : Result ℕ GraphFault) (new : List Node) → PrimesOut N h mid r new → Primed N h mid r new
  primed r new p = guarded_met _ _ _ mid new r signs (guarded_met _ _ _ mid new r given.issued p.outcome)

  show_crowded : (e : GraphFault) (r : Result ℕ CardFault) (count : ℕ) (wide new : List Node) → r ≡ Err (Graph e) → count ≡ length old → PrimesOut N h mid (Err e) wide → new ≡ oldest count wide → ShowOut N text old before r new before
  show_crowded e r count wide new is c p cut =
      let o = (primed (Err e) wide p).made.outcome in
      let many = subst (λ (f : Fun). AtLeast (N + 1) mid (Working (primes_of f))) given.means o.many in
      let kept = cut ∙ ap (oldest count) o.kept ∙ cut_back old mid count given.granted.grows.extends c in
      record { outcome = inl (record { rows = rows; card = card; trees = ts; are = are; writing = inl (record { many = many_then given.granted many; is = is ∙ ap (λ x. Err (Graph x)) o.is; nodes = kept; output = refl }) }) }

  -- the primes are refused, and with them the call
  pub show_refused : (m : Result ℕ GraphFault) (x : CardFault) (r : Result ℕ CardFault) (count : ℕ) (wide new : List Node) → r ≡ Err x → count ≡ length old → PrimesOut N h mid m wide → Ended Carried count m wide (failed x) new → ShowOut N text old before r new before
  show_refused (Ok s) x r count wide new is c p e = absurd (err_ok (e.outcome.0))
  show_refused (Err y) x r count wide new is c p e =
      let o = e.outcome in
      show_crowded y r count wide new (is ∙ o.2 ∙ ap Err o.1) c p o.3

  module _ (set : ℕ) (wide : List Node) (p : PrimesOut N h mid (Ok set) wide) where
    found : Given N (primes_of (meaning mid h)) (primed (Ok set) wide p).set mid set wide
    found = (primed (Ok set) wide p).made.outcome

    both : Granted N (Working (shown ts)) old wide
    both = granted_then given.granted (subst (λ (f : Fun). Granted N (Working (primes_of f)) mid wide) given.means found.granted)

    primes_are : ArePrimes 12 0 (condition_of (some_of ts)) (meaning wide set)
    primes_are = subst (λ (g : Fun). ArePrimes 12 0 (condition_of (some_of ts)) g) (sym found.means) (subst (λ (f : Fun). ArePrimes 12 0 (condition_of f) (primed (Ok set) wide p).set) given.means (primed (Ok set) wide p).are)

    pub shown_issued : Issued wide set
    shown_issued = found.issued

    pub shown_primes : (f : Condition 12) × ArePrimes 12 0 f (meaning wide set)
    shown_primes = (condition_of (some_of ts), primes_are)

    show_wrote : (n : ℕ) (after : List ℕ) → CardWritten (card_title rows) (meaning wide set) (Ok n) before after → ShowOut N text old before (Ok n) wide after
    show_wrote n after l =
        let o = l.outcome in
        record { outcome = inl (record { rows = rows; card = card; trees = ts; are = are; writing = inr (l.bytes, l.shows (condition_of (some_of ts)) primes_are, inr (record { granted = both; fits = o.1; is = ap Ok o.0; output = o.2 })) }) }

    show_short : (e : ListFault) (count : ℕ) (new : List Node) (after : List ℕ) → count ≡ length old → new ≡ oldest count wide → CardWritten (card_title rows) (meaning wide set) (Err e) before after → ShowOut N text old before (Err ShortOutput) new after
    show_short e count new after c cut l =
        let o = l.outcome in
        let kept = cut ∙ cut_back old wide count both.grows.extends c in
        record { outcome = inl (record { rows = rows; card = card; trees = ts; are = are; writing = inr (l.bytes, l.shows (condition_of (some_of ts)) primes_are, inl (record { few = both.few; short = o.0; is = refl; nodes = kept; output = o.2 })) }) }

    -- what is written, or that it does not fit, ends the call
    pub show_ended : (done : Result ℕ ListFault) (r : Result ℕ CardFault) (count : ℕ) (new : List Node) (after : List ℕ) → count ≡ length old → CardWritten (card_title rows) (meaning wide set) done before after → Ended Shortened count done wide r new → ShowOut N text old before r new after
    show_ended (Ok n) r count new after c l e =
        let o = e.outcome in
        subst (λ q. ShowOut N text old before q new after) (sym o.0) (subst (λ ns. ShowOut N text old before (Ok n) ns after) (sym o.1) (show_wrote n after l))
    show_ended (Err x) r count new after c l e =
        let o = e.outcome in
        subst (λ q. ShowOut N text old before q new after) (sym (o.2 ∙ ap Err o.1)) (show_short x count new after c o.3 l)

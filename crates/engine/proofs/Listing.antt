-- From the primes of a card's condition to its list. Assumes nothing.
use Rattle.std.proofs.Common.{◌≡◌, ℕ, List, length, Ok, Err, Result, sym, refl, ap, ◌∙◌, subst, inl, inr, ⊎_elim}
use Rattle.diagram.specs.declared.Node.{Node}
use Rattle.diagram.specs.Nodes.{Issued, meaning}
use Rattle.diagram.proofs.Growth.{cut_back}
use Rattle.implicant.specs.Variables.{condition_of, ArePrimes}
use Rattle.table.specs.Model.{oldest}
use Rattle.listing.specs.declared.faults.ListFault.{ListFault}
use Rattle.listing.specs.Listing.{IsList}
use Rattle.listing.specs.Outcome.{Listed}
use Rattle.engine.specs.declared.faults.GraphFault.{GraphFault}
use Rattle.engine.specs.declared.card_faults.CardFault.{CardFault}
use Rattle.engine.specs.declared.card_faults.CardFault.TheVariants.{Graph, ShortOutput}
use Rattle.engine.specs.declared.faults.GraphFault.TheVariants.{NotCondition}
use Rattle.engine.specs.Works.{primes_of}
use Rattle.engine.specs.Calls.{Given, Rejected, Guarded, IsCondition, Primed, PrimesOut}
use Rattle.engine.specs.Ends.{Ended}
use Rattle.engine.specs.Lists.{Crowded, Unlisted, ListOut}
use Rattle.engine.proofs.Again.{guarded_granted}

-- a list's fault is that the output is too short
abbrev pub Shortened : ListFault → CardFault → Type 0
Shortened x y = y ≡ ShortOutput

err_inside : (e d : GraphFault) → ◌≡◌ {A = Result ℕ GraphFault} (Err e) (Err d) → e ≡ d
err_inside e d p = cc

module _ (N f : ℕ) (old : List Node) (before : List ℕ) where
  -- a fault of the primes is the list's, carried whole
  pub unlisted : (e : GraphFault) (r : Result ℕ CardFault) (new : List Node) → r ≡ Err (Graph e) → PrimesOut N f old (Err e) new → ListOut N f old before r new before
  unlisted e r new is p = record {
    outcome = ⊎_elim
        (λ x. inl (x.0, ⊎_elim (λ y. inl (y.0, inl (crowded y.1))) (λ y. inr (y.0, turned _ y.1)) x.1))
        (λ x. inr (x.0, turned _ x.1))
        p.outcome;
  }
    where
      crowded : Primed N f old (Err e) new → Crowded N (primes_of (meaning old f)) old before r new before
      crowded q = let o = q.made.outcome in record { many = o.many; is = is ∙ ap (λ x. Err (Graph x)) o.is; nodes = o.kept; output = refl }

      turned : (d : GraphFault) → Rejected d old (Err e) new → Unlisted d old before r new before
      turned d t = record { refused = is ∙ ap (λ x. Err (Graph x)) (err_inside e d t.is); nodes = t.kept; output = refl }

  module _ (set : ℕ) (mid : List Node) (p : PrimesOut N f old (Ok set) mid) where
    issued : Issued old f × Guarded (IsCondition old f) NotCondition (Primed N f old (Ok set) mid) old (Ok set) mid
    issued = guarded_granted _ _ _ old mid set p.outcome

    primed : IsCondition old f × Primed N f old (Ok set) mid
    primed = guarded_granted _ _ _ old mid set issued.1

    given : Given N (primes_of (meaning old f)) primed.1.set old set mid
    given = primed.1.made.outcome

    pub set_issued : Issued mid set
    set_issued = given.issued

    is_list : (r : Result ℕ ListFault) (after : List ℕ) → (l : Listed (meaning mid set) r before after) → IsList (condition_of (meaning old f)) l.bytes
    is_list r after l = l.are (condition_of (meaning old f)) (subst (ArePrimes 12 0 (condition_of (meaning old f))) (sym given.means) primed.1.are)

    listed : (n : ℕ) (after : List ℕ) → Listed (meaning mid set) (Ok n) before after → ListOut N f old before (Ok n) mid after
    listed n after l =
        let o = l.outcome in
        record { outcome = inl (issued.0, inl (primed.0, inr (l.bytes, is_list (Ok n) after l, inr (record { granted = given.granted; fits = o.1; is = ap Ok o.0; output = o.2 })))) }

    too_short : (e : ListFault) (count : ℕ) (new : List Node) (after : List ℕ) → count ≡ length old → new ≡ oldest count mid → Listed (meaning mid set) (Err e) before after → ListOut N f old before (Err ShortOutput) new after
    too_short e count new after c cut l =
        let o = l.outcome in
        let kept = cut ∙ cut_back old mid count given.granted.grows.extends c in
        record { outcome = inl (issued.0, inl (primed.0, inr (l.bytes, is_list (Err e) after l, inl (record { few = given.granted.few; short = o.0; is = refl; nodes = kept; output = o.2 })))) }

    -- what is written, or that it does not fit, ends the call
    pub list_ended : (done : Result ℕ ListFault) (r : Result ℕ CardFault) (count : ℕ) (new : List Node) (after : List ℕ) → count ≡ length old → Listed (meaning mid set) done before after → Ended Shortened count done mid r new → ListOut N f old before r new after
    list_ended (Ok n) r count new after c l e =
        let o = e.outcome in
        subst (λ q. ListOut N f old before q new after) (sym o.0) (subst (λ ns. ListOut N f old before (Ok n) ns after) (sym o.1) (listed n after l))
    list_ended (Err x) r count new after c l e =
        let o = e.outcome in
        subst (λ q. ListOut N f old before q new after) (sym (o.2 ∙ ap Err o.1)) (too_short x count new after c o.3 l)

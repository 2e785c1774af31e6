-- What an extended sequence keeps. Assumes nothing.
use Rattle.std.proofs.Common.{◌≡◌, ℕ, ◌-◌, ◌≤◌, List, [], ◌∷◌, ◌++◌, length, drop, sym, refl, ap, ◌∙◌, subst, append_assoc, arith, length-append}
use Rattle.diagram.specs.declared.Node.{Node}
use Rattle.diagram.specs.Functions.{Fun, choice}
use Rattle.diagram.specs.Nodes.{Issued, meaning, level_of, At, Fit, WellFormed, Extends, Split, Stands}
use Rattle.diagram.specs.Counts.{HasHandle, Held}
use Rattle.diagram.specs.Theorems.{GrowthKeeps}
use Rattle.diagram.proofs.Tables.{meaning_more, level_more, at_more, fit_more}

pub extends_self : (ns : List Node) → Extends ns ns
extends_self ns = ([], refl)

pub extends_trans : {a b c : List Node} → Extends a b → Extends b c → Extends a c
extends_trans {a} p q = (q.0 ++ p.0, q.1 ∙ ap (λ x. q.0 ++ x) p.1 ∙ sym (append_assoc q.0 p.0 a))

pub length_kept : {a b : List Node} → Extends a b → length a ≤ length b
length_kept {a} {b} x = omega (arith, ap length x.1, length-append x.0 a)

pub issued_kept : {a b : List Node} → Extends a b → (h : ℕ) → Issued a h → Issued b h
issued_kept x h p = omega (arith, length_kept x)

pub meaning_kept : {a b : List Node} → Extends a b → (h : ℕ) → Issued a h → meaning b h ≡ meaning a h
meaning_kept {a} x h p = ap (λ ns. meaning ns h) x.1 ∙ meaning_more x.0 a h p

pub level_kept : {a b : List Node} → Extends a b → (h : ℕ) → Issued a h → level_of b h ≡ level_of a h
level_kept {a} x h p = ap (λ ns. level_of ns h) x.1 ∙ level_more x.0 a h p

pub at_kept : {a b : List Node} → Extends a b → (h : ℕ) (n : Node) → At a h n → At b h n
at_kept {a} x h n p = subst (λ ns. At ns h n) (sym x.1) (at_more x.0 a h n p)

pub fit_kept : {a b : List Node} → Extends a b → (n : Node) → Fit a n → Fit b n
fit_kept {a} x n p = subst (λ ns. Fit ns n) (sym x.1) (fit_more x.0 a n p)

pub growth_keeps : GrowthKeeps
growth_keeps old new x h p = (issued_kept x h p, meaning_kept x h p, level_kept x h p)

well_formed_before : (more ns : List Node) → WellFormed (more ++ ns) → WellFormed ns
well_formed_before [] ns w = w
well_formed_before (n ∷ more) ns w = well_formed_before more ns w.2

pub well_formed_kept : {a b : List Node} → Extends a b → WellFormed b → WellFormed a
well_formed_kept {a} x w = well_formed_before x.0 a (subst WellFormed x.1 w)

pub has_handle_kept : {a b : List Node} {g : Fun} → Extends a b → HasHandle a g → HasHandle b g
has_handle_kept x p = record { at = p.at; issued = issued_kept x p.at p.issued; is = meaning_kept x p.at p.issued ∙ p.is }

pub held_kept : {a b : List Node} {g : Fun} → Extends a b → Held a g → Held b g
held_kept x p = record { at = p.at; two = p.two; issued = issued_kept x p.at p.issued; is = meaning_kept x p.at p.issued ∙ p.is }

pub split_kept : {a b : List Node} {l h lo hi : ℕ} → Extends a b → Issued a h → Split a l h lo hi → Split b l h lo hi
split_kept {a} {b} {l} {h} {lo} {hi} x p r = record {
  lo_issued = issued_kept x lo r.lo_issued;
  hi_issued = issued_kept x hi r.hi_issued;
  lo_deeper = omega (arith, level_kept x lo r.lo_issued, r.lo_deeper);
  hi_deeper = omega (arith, level_kept x hi r.hi_issued, r.hi_deeper);
  value = meaning_kept x h p ∙ r.value ∙ sym (ap (λ f. choice l f (meaning b hi)) (meaning_kept x lo r.lo_issued) ∙ ap (choice l (meaning a lo)) (meaning_kept x hi r.hi_issued));
}

-- What stood at level k or deeper stands at any level before it.
pub stands_kept : {a b : List Node} {l k h : ℕ} {f : Fun} → Extends a b → l ≤ k → Stands a k h f → Stands b l h f
stands_kept {a} {b} {l} {k} {h} x le p = record { issued = issued_kept x h p.issued; level = omega (arith, level_kept x h p.issued, p.level); value = meaning_kept x h p.issued ∙ p.value }

pub stands_own : {ns : List Node} {l h : ℕ} {f : Fun} → Stands ns l h f → Stands ns l h (meaning ns h)
stands_own p = record { issued = p.issued; level = p.level; value = refl }

drop_more : (more old : List Node) → drop (length more) (more ++ old) ≡ old
drop_more [] old = refl
drop_more (n ∷ more) old = drop_more more old

-- Without its new nodes a sequence is as it was.
pub cut_back : (old new : List Node) (m : ℕ) → Extends old new → m ≡ length old → drop (length new - m) new ≡ old
cut_back old new m x e =
    let n : length new - m ≡ length x.0 = omega (arith, ap length x.1, length-append x.0 old) in
    ap (λ k. drop k new) n ∙ ap (drop (length x.0)) x.1 ∙ drop_more x.0 old

-- Outcomes of calls, one after another, over any set P of working functions. Assumes nothing.
use Rattle.std.proofs.Common.{◌≡◌, ℕ, ◌+◌, ◌⊎◌, List, length, sym, ◌∙◌, subst, inl, inr, arith}
use mathlib.Core.Path.{fun_ext}
use Rattle.std.proofs.lemmas.Bool.{cases_lt}
use Rattle.diagram.specs.declared.Node.{Node}
use Rattle.diagram.specs.Functions.{Fun, Constant, Restriction, NodeOf}
use Rattle.diagram.specs.Nodes.{meaning, WellFormed}
use Rattle.diagram.specs.Counts.{HasHandle, Held}
use Rattle.diagram.specs.Outcomes.{Grows, Grants, Denies}
use Rattle.diagram.proofs.Tables.{meaning_constant}
use Rattle.diagram.proofs.Canon.{varies_at, two_at}
use Rattle.diagram.proofs.Growth.{extends_self, extends_trans, meaning_kept, has_handle_kept}

pub grows_none : (P : Fun → Type 0) (ns : List Node) → WellFormed ns → Grows P ns ns
grows_none P ns w = record { extends = extends_self ns; well_formed = w; fresh = λ k p q. absurd (omega arith) }

-- New nodes are not constant, so a larger set need have only what is not.
pub grows_varying : {P Q : Fun → Type 0} {a b : List Node} → ((g : Fun) → P g → ¬ Constant g → Q g) → Grows P a b → Grows Q a b
grows_varying {P} {Q} {a} {b} up x = record {
  extends = x.extends;
  well_formed = x.well_formed;
  fresh = λ k p q. up (meaning b k) (x.fresh k p q) (varies_at b x.well_formed k (omega arith) q);
}

pub grows_up : {P Q : Fun → Type 0} {a b : List Node} → ((g : Fun) → P g → Q g) → Grows P a b → Grows Q a b
grows_up up x = grows_varying (λ g p _. up g p) x

pub grows_trans : {P : Fun → Type 0} {a b c : List Node} → Grows P a b → Grows P b c → Grows P a c
grows_trans {P} {a} {b} {c} x y = record {
  extends = extends_trans x.extends y.extends;
  well_formed = y.well_formed;
  fresh = λ k p q. elim (cases_lt k (length b + 2)) [ inl u ↦ subst P (sym (meaning_kept y.extends k u)) (x.fresh k p u) | inr u ↦ y.fresh k u q ];
}

-- A constant has a handle, so a function without one is not constant.
pub constant_handle : (ns : List Node) (g : Fun) → Constant g → HasHandle ns g
constant_handle ns g (inl a) = record { at = 0; issued = omega arith; is = meaning_constant ns 0 (omega arith) ∙ sym (fun_ext a) }
constant_handle ns g (inr a) = record { at = 1; issued = omega arith; is = meaning_constant ns 1 (omega arith) ∙ sym (fun_ext a) }

-- A handle of a function that is not constant is from 2 up.
pub handle_held : {ns : List Node} {g : Fun} → ¬ Constant g → HasHandle ns g → Held ns g
handle_held {ns} v h = record { at = h.at; two = two_at ns h.at (subst (λ (f : Fun). ¬ Constant f) (sym h.is) v); issued = h.issued; is = h.is }

pub grants_varying : {P Q : Fun → Type 0} {a b : List Node} → ((g : Fun) → P g → ¬ Constant g → Q g) → ((g : Fun) → Q g → P g) → Grants P a b → Grants Q a b
grants_varying up down x = record { grows = grows_varying up x.grows; all = λ g q. x.all g (down g q) }

pub denies_varying : {limit : ℕ} {P Q : Fun → Type 0} {a b : List Node} → ((g : Fun) → P g → ¬ Constant g → Q g) → Denies limit P a b → Denies limit Q a b
denies_varying {b = b} up x = record {
  grows = grows_varying up x.grows;
  full = x.full;
  node = x.node;
  of = up x.node x.of (λ c. x.missing (constant_handle b x.node c));
  missing = x.missing;
}

pub denies_up : {limit : ℕ} {P Q : Fun → Type 0} {a b : List Node} → ((g : Fun) → P g → Q g) → Denies limit P a b → Denies limit Q a b
denies_up up x = denies_varying (λ g p _. up g p) x

pub denies_after : {limit : ℕ} {P : Fun → Type 0} {a b c : List Node} → Grows P a b → Denies limit P b c → Denies limit P a c
denies_after g x = record { grows = grows_trans g x.grows; full = x.full; node = x.node; of = x.of; missing = x.missing }

pub denies_limit : {m n : ℕ} {P : Fun → Type 0} {a b : List Node} → m ≡ n → Denies m P a b → Denies n P a b
denies_limit {m} {n} {P} {a} {b} e x = subst (λ z. Denies z P a b) e x

-- Two calls, one after the other: the union of their sets.
pub grants_then : {P Q : Fun → Type 0} {a b c : List Node} → Grants P a b → Grants Q b c → Grants (λ g. P g ⊎ Q g) a c
grants_then {P} {Q} {a} {b} {c} x y = record {
  grows = grows_trans (grows_up (λ g p. inl p) x.grows) (grows_up (λ g q. inr q) y.grows);
  all = all;
}
  where
    all : (g : Fun) → P g ⊎ Q g → HasHandle c g
    all g (inl p) = has_handle_kept y.grows.extends (x.all g p)
    all g (inr q) = y.all g q

pub denies_then : {limit : ℕ} {P Q : Fun → Type 0} {a b c : List Node} → Grants P a b → Denies limit Q b c → Denies limit (λ g. P g ⊎ Q g) a c
denies_then x y = denies_after (grows_up (λ g p. inl p) x.grows) (denies_up (λ g q. inr q) y)

-- By nodes in place of restrictions: constants make no difference.
pub grants_nodes : {f : Fun} {old new : List Node} → Grants (Restriction f) old new → Grants (NodeOf f) old new
grants_nodes x = grants_varying (λ g r v. record { restriction = r; varies = v }) (λ g n. n.restriction) x

pub denies_nodes : {limit : ℕ} {f : Fun} {old new : List Node} → Denies limit (Restriction f) old new → Denies limit (NodeOf f) old new
denies_nodes x = denies_varying (λ g r v. record { restriction = r; varies = v }) x

-- How many functions the outcome of a call leaves, for any set P of working functions. Assumes nothing.
use Rattle.std.proofs.Common.{ℕ, ◌+◌, ◌≤◌, ◌⊎◌, ◌↔◌, List, ◌∷◌, length, sym, ◌∙◌, subst, inl, inr, arith}
use Rattle.std.proofs.lemmas.Bool.{cases_lt}
use Rattle.diagram.specs.declared.Node.{Node}
use Rattle.diagram.specs.Functions.{Fun, Constant}
use Rattle.diagram.specs.Counts.{Held, Among, Count, AtLeast, NodesOf}
use Rattle.diagram.specs.Outcomes.{Grows, Grants, Denies, Granted}
use Rattle.diagram.specs.Theorems.{UnionCounted, CountDecides, UnionWithin, UnionExceeds}
use Rattle.diagram.proofs.Growth.{meaning_kept, held_kept}
use Rattle.diagram.proofs.Counting.{pigeonhole, functions, functions_length, functions_distinct, held_among, among_held, held_varies, count_decides}
use Rattle.diagram.proofs.Outcome.{constant_handle, handle_held}

-- What is held then was held before, or is in P.
pub grown_from : {P : Fun → Type 0} {old new : List Node} → Grows P old new → (g : Fun) → Held new g → Held old g ⊎ P g
grown_from {P} {old} {new} x g h =
    elim (cases_lt h.at (length old + 2)) [
      | inl z ↦ inl (record { at = h.at; two = h.two; issued = z; is = sym (meaning_kept x.extends h.at z) ∙ h.is })
      | inr z ↦ inr (subst P h.is (x.fresh h.at z h.issued))
    ]

-- What was held before, or is in P and not constant, is held after success.
pub granted_held : {P : Fun → Type 0} {old new : List Node} → Grants P old new → (g : Fun) → ¬ Constant g → Held old g ⊎ P g → Held new g
granted_held x g v (inl h) = held_kept x.grows.extends h
granted_held x g v (inr p) = handle_held v (x.all g p)

pub grants_count : {P : Fun → Type 0} {old new : List Node} → ((g : Fun) → P g → ¬ Constant g) → Grants P old new → Count (λ g. Held old g ⊎ P g) (length new)
grants_count {P} {old} {new} v x = record {
  functions = functions new;
  count = functions_length new;
  distinct = functions_distinct new x.grows.well_formed;
  each = λ g. (λ h. held_among new g (to g h), λ a. grown_from x.grows g (among_held new g a));
}
  where
    to : (g : Fun) → Held old g ⊎ P g → Held new g
    to g (inl h) = held_kept x.grows.extends h
    to g (inr p) = handle_held (v g p) (x.all g p)

-- After success there are at most as many functions as nodes.
pub grants_few : {P : Fun → Type 0} {old new : List Node} (n : ℕ) → Grants P old new → AtLeast n old P → n ≤ length new
grants_few {P} {old} {new} n x a =
    omega (arith, a.count, functions_length new, pigeonhole a.functions (functions new) a.distinct (λ g m. held_among new g (granted_held x g (a.each g m).0 (a.each g m).1)))

pub grants_within : {N : ℕ} {P : Fun → Type 0} {old new : List Node} → Grants P old new → length new ≤ N → ¬ AtLeast (N + 1) old P
grants_within {N} x room a = omega (arith, grants_few (N + 1) x a)

-- After failure there are more functions than the limit.
pub denies_many : {N : ℕ} {P : Fun → Type 0} {old new : List Node} → Denies N P old new → AtLeast (N + 1) old P
denies_many {N} {P} {old} {new} x = record {
  functions = x.node ∷ functions new;
  count = omega (arith, functions_length new, x.full);
  distinct = (λ a. lacks (among_held new x.node a), functions_distinct new x.grows.well_formed);
  each = each;
}
  where
    lacks : ¬ Held new x.node
    lacks h = x.missing (record { at = h.at; issued = h.issued; is = h.is })

    each : (g : Fun) → Among g (x.node ∷ functions new) → (¬ Constant g) × (Held old g ⊎ P g)
    each g (inl e) = (λ c. x.missing (constant_handle new x.node (subst Constant (sym e) c)), inr (subst P e x.of))
    each g (inr a) = let h = among_held new g a in (held_varies new g x.grows.well_formed h, grown_from x.grows g h)

pub granted : {limit : ℕ} {P : Fun → Type 0} {old new : List Node} → length new ≤ limit → Grants P old new → Granted limit P old new
granted room x = record { grows = x.grows; all = λ g p v. handle_held v (x.all g p); few = grants_within x room }

-- A granted call holds exactly what was held before and the functions of P that are not constant.
pub granted_holds : {limit : ℕ} {P : Fun → Type 0} {old new : List Node} → Granted limit P old new → (g : Fun) → Held new g ↔ (Held old g ⊎ (P g × (¬ Constant g)))
granted_holds {limit} {P} {old} {new} x g = (to, from)
  where
    to : Held new g → Held old g ⊎ (P g × (¬ Constant g))
    to h = elim (grown_from x.grows g h) [ inl o ↦ inl o | inr p ↦ inr (p, held_varies new g x.grows.well_formed h) ]

    from : Held old g ⊎ (P g × (¬ Constant g)) → Held new g
    from (inl h) = held_kept x.grows.extends h
    from (inr p) = x.all g p.0 p.1

-- The same for the nodes of the functions of a list.
nodes_vary : (fs : List Fun) (g : Fun) → NodesOf fs g → ¬ Constant g
nodes_vary fs g x = x.2.varies

pub union_counted : UnionCounted
union_counted old new fs x = grants_count (nodes_vary fs) x

pub union_decides : CountDecides
union_decides N n ns fs w c = let d = count_decides (N + 1) n ns w (nodes_vary fs) c in (λ a. omega (arith, d.0 a), λ lt. d.1 (omega arith))

pub union_within : UnionWithin
union_within N old new fs x room = grants_within x room

pub union_exceeds : UnionExceeds
union_exceeds N old new fs x = denies_many x

-- A walk that takes one half after the other and makes a node of the two, whatever function it is for. Assumes nothing.
use Rattle.std.proofs.Common.{◌≡◌, ℕ, ◌+◌, ◌<◌, ◌≤◌, List, Ok, Err, ap, ◌∙◌, subst, arith}
use Rattle.diagram.specs.declared.Node.{Node}
use Rattle.diagram.specs.Functions.{Fun, choice}
use Rattle.diagram.specs.Nodes.{meaning, WellFormed, Split, Stands}
use Rattle.diagram.specs.Outcomes.{Gives}
use Rattle.diagram.proofs.Restrictions.{Sides}
use Rattle.diagram.proofs.Tables.{level_most, split_sides}
use Rattle.diagram.proofs.Growth.{extends_self, stands_kept, stands_own}
use Rattle.diagram.proofs.Outcome.{denies_limit}
use Rattle.diagram.proofs.Account.{denies_low, denies_high, join_ok, join_err}
use Rattle.table.specs.declared.faults.Reason.TheVariants.{Full}
use Rattle.table.specs.declared.faults.TableFault.{TableFault}
use Rattle.table.specs.Faults.{fault}
use Rattle.walk.specs.Outcomes.{Refused, Walked}

-- A measure that falls below the bound it was held to.
pub falls_under : {a b t : ℕ} → b ≡ t → a < b → a < t
falls_under e lt = omega arith

-- The branches of a handle are the sides of its function.
pub branch_sides : {ns : List Node} {l h lo hi : ℕ} → WellFormed ns → 1 ≤ l → Split ns l h lo hi → Sides l (meaning ns h) (meaning ns lo) (meaning ns hi)
branch_sides {ns} {l} {h} {lo} {hi} w p x = split_sides ns l h lo hi w p (omega (arith, x.lo_deeper, level_most ns lo w)) x

-- A refusal of a table that had the same size before.
refused_limit : {m n : ℕ} {f : Fun} {old new : List Node} {e : TableFault} → m ≡ n → Refused m f old e new → Refused n f old e new
refused_limit p x = record { is = x.is ∙ ap (fault Full) p; denies = denies_limit p x.denies }

-- f is the choice at l of lo and hi. The second half is walked in the nodes that the first has left, where its function is hi', the same as hi.
module _ {l : ℕ} {f lo hi : Fun} (d : Sides l f lo hi) where
  pub low_refused : {N i k : ℕ} {a b : List Node} {e : TableFault} → Walked N a i lo (Err e) b → Walked N a k f (Err e) b
  low_refused x = record { outcome = record { is = x.outcome.is; denies = denies_low d x.outcome.denies } }

  module _ {N i x : ℕ} {a b : List Node} {hi' : Fun} (p : Walked N a i lo (Ok x) b) (same : hi' ≡ hi) where
    pub high_refused : {M j k : ℕ} {c : List Node} {e : TableFault} → M ≡ N → Walked M b j hi' (Err e) c → Walked N a k f (Err e) c
    high_refused {M} {j} {k} {c} {e} size r =
        let q = refused_limit size (subst (λ (u : Fun). Refused M u b e c) same r.outcome) in
        record { outcome = record { is = q.is; denies = denies_high d p.outcome q.denies } }

    module _ {M j y : ℕ} {c : List Node} (q : Walked M b j hi' (Ok y) c) where
      pub low_stands : l < i → Stands c (l + 1) x (meaning c x)
      low_stands lt = stands_own (stands_kept q.outcome.grows.extends (omega arith) p.outcome.stands)

      pub high_stands : l < j → Stands c (l + 1) y (meaning c y)
      high_stands lt = stands_own (stands_kept (extends_self c) (omega arith) q.outcome.stands)

      second : Gives b c j y hi
      second = subst (Gives b c j y) same q.outcome

      pub make_refused : {L k : ℕ} {z : List Node} {e : TableFault} → L ≡ N → Walked L c l (choice l (meaning c x) (meaning c y)) (Err e) z → Walked N a k f (Err e) z
      make_refused size r =
          let u = refused_limit size r.outcome in
          record { outcome = record { is = u.is; denies = join_err d p.outcome second u.denies } }

      pub make_gives : {L h k : ℕ} {z : List Node} → l ≡ k → Walked L c l (choice l (meaning c x) (meaning c y)) (Ok h) z → Walked N a k f (Ok h) z
      make_gives at r = record { outcome = join_ok d p.outcome second at r.outcome }

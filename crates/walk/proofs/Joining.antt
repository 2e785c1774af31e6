-- The descent of a joining. Assumes nothing.
use Rattle.std.proofs.Common.{◌≡◌, ℕ, ◌-◌, ◌<◌, ◌≤◌, min, List, None, inl, inr, arith}
use Rattle.std.proofs.lemmas.Bool.{cases_lt}
use Rattle.diagram.specs.declared.Node.{Node}
use Rattle.diagram.specs.Nodes.{Issued, meaning, level_of, WellFormed, Extends, Split}
use Rattle.diagram.proofs.Restrictions.{Sides, joined_sides}
use Rattle.diagram.proofs.Tables.{level_node, level_least, level_most}
use Rattle.diagram.proofs.Growth.{level_kept}
use Rattle.table.specs.Model.{Sound}
use Rattle.walk.specs.declared.ops.Op.{Op}
use Rattle.walk.specs.Ops.{answer, joined}
use Rattle.walk.specs.Shortcuts.{Short}
use Rattle.walk.proofs.Halves.{branch_sides}

-- Where there was no shortcut, a variable is left to split by.
splits : {op : Op} {N : ℕ} {ns : List Node} {f g : ℕ} → Sound N ns → Issued ns f → Issued ns g → Short op f g None → min (level_of ns f) (level_of ns g) < 25
splits {op} {N} {ns} {f} {g} s p q x =
    elim (cases_lt f 2) [
      | inl lt ↦ omega (arith, level_node ns g s.formed (x.outcome lt) q)
      | inr le ↦ omega (arith, level_node ns f s.formed le p)
    ]

module _ {op : Op} {N : ℕ} {ns : List Node} {l f g : ℕ} (s : Sound N ns) (p : Issued ns f) (q : Issued ns g) (x : Short op f g None) (at : l ≡ min (level_of ns f) (level_of ns g)) where
  pub split_last : l < 25
  split_last = omega (arith, at, splits s p q x)

  pub split_left : l ≤ level_of ns f
  split_left = omega (arith, at)

  pub split_right : l ≤ level_of ns g
  split_right = omega (arith, at)

module _ {ns : List Node} {l f g f0 f1 g0 g1 : ℕ} (w : WellFormed ns) (x : Split ns l f f0 f1) (y : Split ns l g g0 g1) (at : l ≡ min (level_of ns f) (level_of ns g)) where
  pub split_first : 1 ≤ l
  split_first = omega (arith, at, level_least ns f w, level_least ns g w)

  pub join_sides : (op : Op) → Sides l (joined op (meaning ns f) (meaning ns g)) (joined op (meaning ns f0) (meaning ns g0)) (joined op (meaning ns f1) (meaning ns g1))
  join_sides op = joined_sides (answer op) (branch_sides w split_first x) (branch_sides w split_first y)

  -- Both halves are deeper.
  pub low_deeper : l < min (level_of ns f0) (level_of ns g0)
  low_deeper = omega (arith, x.lo_deeper, y.lo_deeper)

  pub low_falls : 25 - min (level_of ns f0) (level_of ns g0) < 25 - min (level_of ns f) (level_of ns g)
  low_falls = omega (arith, at, low_deeper, level_most ns f0 w)

  module _ {ms : List Node} (e : Extends ns ms) where
    pub high_deeper : l < min (level_of ms f1) (level_of ms g1)
    high_deeper = omega (arith, level_kept e f1 x.hi_issued, level_kept e g1 y.hi_issued, x.hi_deeper, y.hi_deeper)

    pub high_falls : 25 - min (level_of ms f1) (level_of ms g1) < 25 - min (level_of ns f) (level_of ns g)
    high_falls = omega (arith, at, high_deeper, level_most ns f0 w, x.lo_deeper)

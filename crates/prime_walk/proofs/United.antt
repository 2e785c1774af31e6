-- The two differences and the two nodes of one step of the walk for primes. Assumes nothing.
use Rattle.std.proofs.Common.{◌≡◌, ℕ, ◌+◌, ◌*◌, ◌<◌, min, List, Ok, Err, Result, refl, arith}
use Rattle.diagram.specs.declared.Node.{Node}
use Rattle.diagram.specs.Functions.{Fun, choice, Ignores}
use Rattle.diagram.specs.Nodes.{Issued, meaning, level_of, Stands}
use Rattle.diagram.proofs.Settings.{choice_ignores}
use Rattle.diagram.proofs.Restrictions.{Sides, joined_ignores}
use Rattle.diagram.proofs.Tables.{ignores}
use Rattle.diagram.proofs.Growth.{issued_kept, level_kept}
use Rattle.diagram.proofs.Account.{gives_held}
use Rattle.table.specs.declared.faults.TableFault.{TableFault}
use Rattle.table.specs.Model.{Sound}
use Rattle.implicant.specs.Variables.{primes_by_halves}
use Rattle.walk.specs.declared.ops.Op.TheVariants.{AndNot}
use Rattle.walk.specs.Ops.{answer, joined}
use Rattle.walk.specs.Outcomes.{Walked}
use Rattle.walk.proofs.Halves.{low_refused, high_refused, low_stands, high_stands, make_refused, make_gives}
use Rattle.walk.proofs.Remembered.{joined_kept}

module _ {N k : ℕ} {a : List Node} {p p0 p1 : ℕ} (s : Sound N a) (small : k < 12)
    (sp : Stands a (2 * k + 3) p (meaning a p)) (sl : Stands a (2 * k + 3) p0 (meaning a p0)) (sh : Stands a (2 * k + 3) p1 (meaning a p1)) where
  abbrev A : Fun
  A = joined AndNot (meaning a p0) (meaning a p)

  abbrev B : Fun
  B = joined AndNot (meaning a p1) (meaning a p)

  abbrev W : Fun
  W = choice (2 * k + 2) A B

  abbrev V : Fun
  V = primes_by_halves k (meaning a p) (meaning a p0) (meaning a p1)

  unread : (h : ℕ) → Stands a (2 * k + 3) h (meaning a h) → Ignores (2 * k + 2) (meaning a h)
  unread h z = ignores a h (2 * k + 2) s.formed z.issued (omega (arith, z.level))

  inner : Sides (2 * k + 2) W A B
  inner = record {
    is = refl;
    low = joined_ignores (answer AndNot) (2 * k + 2) (meaning a p0) (meaning a p) (unread p0 sl) (unread p sp);
    high = joined_ignores (answer AndNot) (2 * k + 2) (meaning a p1) (meaning a p) (unread p1 sh) (unread p sp);
    first = omega arith;
    last = omega arith;
  }

  outer : Sides (2 * k + 1) V (meaning a p) W
  outer = record {
    is = refl;
    low = ignores a p (2 * k + 1) s.formed sp.issued (omega (arith, sp.level));
    high = choice_ignores (2 * k + 2) (2 * k + 1) A B (omega arith) inner.low inner.high;
    first = omega arith;
    last = omega arith;
  }

  -- the first side is there already
  there : Walked N a (2 * k + 3) (meaning a p) (Ok p) a
  there = record { outcome = gives_held s.formed sp }

  refused : {i : ℕ} {b : List Node} {e : TableFault} → Walked N a i W (Err e) b → Walked N a (2 * k + 1) V (Err e) b
  refused x = high_refused outer there refl refl x

  pub first_refused : {i : ℕ} {b : List Node} {e : TableFault} → Walked N a i A (Err e) b → Walked N a (2 * k + 1) V (Err e) b
  first_refused x = refused (low_refused inner {k = 2 * k + 2} x)

  module _ {q0 : ℕ} {b : List Node} (g0 : Walked N a (min (level_of a p0) (level_of a p)) A (Ok q0) b) where
    same : joined AndNot (meaning b p1) (meaning b p) ≡ B
    same = joined_kept g0.outcome.grows.extends AndNot p1 p sh.issued sp.issued

    pub second_left : Issued b p1
    second_left = issued_kept g0.outcome.grows.extends p1 sh.issued

    pub second_right : Issued b p
    second_right = issued_kept g0.outcome.grows.extends p sp.issued

    deep : 2 * k + 2 < min (level_of b p1) (level_of b p)
    deep = let e = g0.outcome.grows.extends in omega (arith, level_kept e p1 sh.issued, level_kept e p sp.issued, sh.level, sp.level)

    pub second_refused : {M : ℕ} {c : List Node} {e : TableFault} → M ≡ N → Walked M b (min (level_of b p1) (level_of b p)) (joined AndNot (meaning b p1) (meaning b p)) (Err e) c → Walked N a (2 * k + 1) V (Err e) c
    second_refused size x = refused (high_refused inner g0 same {k = 2 * k + 2} size x)

    module _ {M q1 : ℕ} {c : List Node} (g1 : Walked M b (min (level_of b p1) (level_of b p)) (joined AndNot (meaning b p1) (meaning b p)) (Ok q1) c) where
      pub first_stands : Stands c (2 * k + 2 + 1) q0 (meaning c q0)
      first_stands = low_stands inner g0 same g1 (omega (arith, sl.level, sp.level))

      pub second_stands : Stands c (2 * k + 2 + 1) q1 (meaning c q1)
      second_stands = high_stands inner g0 same g1 deep

      pub third_refused : {L : ℕ} {z : List Node} {e : TableFault} → L ≡ N → Walked L c (2 * k + 2) (choice (2 * k + 2) (meaning c q0) (meaning c q1)) (Err e) z → Walked N a (2 * k + 1) V (Err e) z
      third_refused size x = refused (make_refused inner g0 same g1 {k = 2 * k + 2} size x)

      module _ {L h : ℕ} {z : List Node} (g2 : Walked L c (2 * k + 2) (choice (2 * k + 2) (meaning c q0) (meaning c q1)) (Ok h) z) where
        united : Walked N a (2 * k + 2) W (Ok h) z
        united = make_gives inner g0 same g1 refl g2

        pub set_low : Stands z (2 * k + 1 + 1) p (meaning z p)
        set_low = low_stands outer there refl united (omega arith)

        pub set_high : Stands z (2 * k + 1 + 1) h (meaning z h)
        set_high = high_stands outer there refl united (omega arith)

        pub last_walked : {K : ℕ} {y : List Node} (r : Result ℕ TableFault) → K ≡ N → Walked K z (2 * k + 1) (choice (2 * k + 1) (meaning z p) (meaning z h)) r y → Walked N a (2 * k + 1) V r y
        last_walked (Ok i) size x = make_gives outer there refl united refl x
        last_walked (Err e) size x = make_refused outer there refl united size x

-- The descent of a restriction to one value of one variable. Assumes nothing.
use Rattle.std.proofs.Common.{◌≡◌, ℕ, ◌-◌, ◌<◌, ◌≤◌, Bool, true, false, cond, eqb, List, sym, refl, ap, ◌∙◌, arith}
use mathlib.Core.Path.{fun_ext}
use Rattle.std.proofs.lemmas.Bool.{ne_eqb}
use Rattle.diagram.specs.declared.Node.{Node}
use Rattle.diagram.specs.Functions.{Setting, Fun, put, Ignores}
use Rattle.diagram.specs.Nodes.{Issued, meaning, level_of, WellFormed, Extends, Split, Stands}
use Rattle.diagram.proofs.Settings.{put_other, choice_low, choice_high}
use Rattle.diagram.proofs.Restrictions.{Sides}
use Rattle.diagram.proofs.Tables.{level_least, level_most, ignores}
use Rattle.diagram.proofs.Growth.{level_kept}
use Rattle.table.specs.Model.{Sound}
use Rattle.walk.specs.Ops.{cofactor}
use Rattle.walk.proofs.Halves.{branch_sides}

put_apart : (l : ℕ) (v : Bool) (s : Setting) (i : ℕ) → (i ≡ l → ⊥) → put l v s i ≡ s i
unfolding put
put_apart l v s i ne = rw (ne_eqb i l ne) refl

put_agrees : (l : ℕ) (v : Bool) (s t : Setting) (i : ℕ) → s i ≡ t i → put l v s i ≡ put l v t i
unfolding put
put_agrees l v s t i e = ap (cond (eqb i l) v) e

-- A function that ignores the variable is its own cofactor.
cofactor_ignored : (l : ℕ) (v : Bool) (f : Fun) → Ignores l f → f ≡ cofactor l v f
cofactor_ignored l v f p = fun_ext (λ s. p s (put l v s) (put_other l v s))

-- The cofactor of a choice by the variable is the side that the value chooses.
module _ {l : ℕ} {f lo hi : Fun} (d : Sides l f lo hi) where
  cofactor_low : lo ≡ cofactor l false f
  cofactor_low = fun_ext (λ s. choice_low l lo hi s d.low) ∙ ap (cofactor l false) (sym d.is)

  cofactor_high : hi ≡ cofactor l true f
  cofactor_high = fun_ext (λ s. choice_high l lo hi s d.high) ∙ ap (cofactor l true) (sym d.is)

-- The cofactor of a choice by an earlier variable is the choice of the cofactors.
cofactor_sides : {m : ℕ} {f lo hi : Fun} (l : ℕ) (v : Bool) → m < l → Sides m f lo hi → Sides m (cofactor l v f) (cofactor l v lo) (cofactor l v hi)
cofactor_sides {m} {f} {lo} {hi} l v lt d = record {
  is = ap (cofactor l v) d.is ∙ fun_ext (λ s. ap (λ b. cond b (hi (put l v s)) (lo (put l v s))) (put_apart l v s m (λ e. omega arith)));
  low = λ s t a. d.low (put l v s) (put l v t) (λ i z. put_agrees l v s t i (a i z));
  high = λ s t a. d.high (put l v s) (put l v t) (λ i z. put_agrees l v s t i (a i z));
  first = d.first;
  last = d.last;
}

-- Past the variable's level a handle is its own cofactor.
pub stands_past : {N : ℕ} {ns : List Node} {f l m : ℕ} (v : Bool) → Sound N ns → Issued ns f → m ≡ level_of ns f → l < m → Stands ns (level_of ns f) f (cofactor l v (meaning ns f))
stands_past {N} {ns} {f} {l} v s p at q = record { issued = p; level = omega arith; value = cofactor_ignored l v _ (ignores ns f l s.formed p (omega (arith, at, q))) }

-- Neither past the variable's level nor at it: before it.
pub own_before : {m l : ℕ} → m ≤ l → (m ≡ l → ⊥) → m < l
own_before p ne = omega (arith, ne)

pub own_last : {m l : ℕ} → m ≤ l → l ≤ 24 → m < 25
own_last p q = omega arith

module _ {ns : List Node} {m f lo hi : ℕ} (w : WellFormed ns) (x : Split ns m f lo hi) (at : m ≡ level_of ns f) where
  pub own_first : 1 ≤ m
  own_first = omega (arith, at, level_least ns f w)

  -- At the variable's level the cofactor is a branch.
  pub stands_low : {l : ℕ} {v : Bool} → m ≡ l → v ≡ false → Stands ns (level_of ns f) lo (cofactor l v (meaning ns f))
  stands_low {l} e p = record {
    issued = x.lo_issued;
    level = omega (arith, at, x.lo_deeper);
    value = cofactor_low (branch_sides w own_first x) ∙ ap (λ z. cofactor z false (meaning ns f)) e ∙ ap (λ b. cofactor l b (meaning ns f)) (sym p);
  }

  pub stands_high : {l : ℕ} {v : Bool} → m ≡ l → v ≡ true → Stands ns (level_of ns f) hi (cofactor l v (meaning ns f))
  stands_high {l} e p = record {
    issued = x.hi_issued;
    level = omega (arith, at, x.hi_deeper);
    value = cofactor_high (branch_sides w own_first x) ∙ ap (λ z. cofactor z true (meaning ns f)) e ∙ ap (λ b. cofactor l b (meaning ns f)) (sym p);
  }

  -- Before it, both branches are deeper.
  pub restrict_sides : (l : ℕ) (v : Bool) → m < l → Sides m (cofactor l v (meaning ns f)) (cofactor l v (meaning ns lo)) (cofactor l v (meaning ns hi))
  restrict_sides l v lt = cofactor_sides l v lt (branch_sides w own_first x)

  pub low_shrinks : 25 - level_of ns lo < 25 - level_of ns f
  low_shrinks = omega (arith, at, level_most ns lo w, x.lo_deeper)

  module _ {ms : List Node} (e : Extends ns ms) where
    pub high_below : m < level_of ms hi
    high_below = omega (arith, level_kept e hi x.hi_issued, x.hi_deeper)

    pub high_shrinks : 25 - level_of ms hi < 25 - level_of ns f
    high_shrinks = omega (arith, at, high_below, level_most ns lo w, x.lo_deeper)

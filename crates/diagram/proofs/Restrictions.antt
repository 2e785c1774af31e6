-- Restrictions of functions by settings of their first levels. Assumes nothing.
use Rattle.std.proofs.Common.{◌≡◌, ℕ, ◌≤◌, max, Bool, true, false, cond, sym, refl, ap, ◌∙◌, arith}
use mathlib.Core.Path.{fun_ext}
use Rattle.diagram.specs.Functions.{Setting, Fun, choice, Ignores, upto, restrict, Restriction}
use Rattle.diagram.proofs.Settings.{upto_in, upto_past, upto_none, upto_twice}

pub restriction_self : (f : Fun) → Restriction f f
restriction_self f = record { depth = 0; few = omega arith; setting = λ _. false; is = fun_ext (λ s. ap f (sym (upto_none _ s))) }

pub restriction_trans : {f g u : Fun} → Restriction f g → Restriction g u → Restriction f u
restriction_trans {f} p q = record {
  depth = max p.depth q.depth;
  few = omega (arith, p.few, q.few);
  setting = upto p.depth p.setting q.setting;
  is = q.is ∙ ap (restrict q.depth q.setting) p.is ∙ fun_ext (λ s. ap f (upto_twice p.depth q.depth p.setting q.setting s));
}

-- A restriction by variables that are ignored changes nothing.
pub restrict_ignored : (j : ℕ) (a : Setting) (f : Fun) → Ignores j f → f ≡ restrict j a f
restrict_ignored j a f p = fun_ext (λ s. p s (upto j a s) (λ i z. sym (upto_past j a s i z)))

pub restrict_choice : (l j : ℕ) (a : Setting) (f g : Fun) → 1 ≤ l → l ≤ j → restrict j a (choice l f g) ≡ restrict j a (cond (a l) g f)
restrict_choice l j a f g p q = fun_ext (λ s. ap (λ b. cond b (g (upto j a s)) (f (upto j a s))) (upto_in j a s l p q) ∙ side (a l) (upto j a s))
  where
    side : (b : Bool) (s : Setting) → cond b (g s) (f s) ≡ cond b g f s
    side true s = refl
    side false s = refl

-- f is a choice at level l between two sides that ignore the levels up to l.
pub record Sides (l : ℕ) (f lo hi : Fun) : Type 0 where
  pub is : f ≡ choice l lo hi
  pub low : Ignores l lo
  pub high : Ignores l hi
  pub first : 1 ≤ l
  pub last : l ≤ 24

module _ {l : ℕ} {f lo hi : Fun} (d : Sides l f lo hi) where
  pub low_restriction : Restriction f lo
  low_restriction = record {
    depth = l;
    few = d.last;
    setting = λ _. false;
    is = restrict_ignored l _ lo d.low ∙ sym (ap (restrict l _) d.is ∙ restrict_choice l l (λ _. false) lo hi d.first (omega arith));
  }

  pub high_restriction : Restriction f hi
  high_restriction = record {
    depth = l;
    few = d.last;
    setting = λ _. true;
    is = restrict_ignored l _ hi d.high ∙ sym (ap (restrict l _) d.is ∙ restrict_choice l l (λ _. true) lo hi d.first (omega arith));
  }

-- Two functions joined answer by answer ignore what both ignore, and have the joined sides.
pub joined_ignores : (op : Bool → Bool → Bool) (l : ℕ) (f g : Fun) → Ignores l f → Ignores l g → Ignores l (λ s. op (f s) (g s))
joined_ignores op l f g p q s t a = rw (p s t a, q s t a) refl

pub joined_sides : (op : Bool → Bool → Bool) {l : ℕ} {f f0 f1 g g0 g1 : Fun} → Sides l f f0 f1 → Sides l g g0 g1
    → Sides l (λ s. op (f s) (g s)) (λ s. op (f0 s) (g0 s)) (λ s. op (f1 s) (g1 s))
joined_sides op {l} {f} {f0} {f1} {g} {g0} {g1} d c = record {
  is = fun_ext (λ s. ap (λ (u : Fun). op (u s) (g s)) d.is ∙ ap (λ (u : Fun). op (choice l f0 f1 s) (u s)) c.is ∙ both (s l) s);
  low = joined_ignores op l f0 g0 d.low c.low;
  high = joined_ignores op l f1 g1 d.high c.high;
  first = d.first;
  last = d.last;
}
  where
    both : (b : Bool) (s : Setting) → op (cond b (f1 s) (f0 s)) (cond b (g1 s) (g0 s)) ≡ cond b (op (f1 s) (g1 s)) (op (f0 s) (g0 s))
    both true s = refl
    both false s = refl

-- What is needed of formulas. Assumes nothing.
use Rattle.std.proofs.Common.{◌≡◌, ℕ, ◌≤◌, List, ◌∷◌, length, sym, refl, ap, ◌∙◌, subst, arith}
use Rattle.std.proofs.ByRecursion.{All-push, All-append}
use Rattle.formula.specs.declared.faults.FormulaFault.{FormulaFault}
use Rattle.formula.specs.declared.faults.FormulaFault.TheVariants.{TooLong, ForeignByte, Unexpected, TooDeep}
use Rattle.formula.specs.declared.steps.Token.{Token}
use Rattle.formula.specs.declared.steps.Token.TheVariants.{Operand, Negation, Infix, Opening, Closing, Foreign}
use Rattle.formula.specs.Notation.{notation}
use Rattle.formula.specs.Grammar.{Tree, Derives, single, negated, bracket, looser, chained, once}
use Rattle.formula.specs.Faults.{fault_place}
use Rattle.formula.specs.Answer.{Broken, ForeignAt, TooDeepAt, Refused}
use Rattle.card_text.specs.declared.faults.TextFault.{TextFault}
use Rattle.card_text.specs.declared.faults.TextFault.TheVariants.{Formula}
use Rattle.card_text.specs.Grammar.{NoFeed}
use Rattle.card_text.specs.Card.{IsFormula}
use Rattle.card_text.specs.Faults.{Moved}

-- a formula has no line feed: it is no character of the notation
abbrev Spoken : Token → Type 0
Spoken (Operand a) = Unit {0}
Spoken Negation = Unit {0}
Spoken (Infix k op) = Unit {0}
Spoken Opening = Unit {0}
Spoken Closing = Unit {0}
Spoken Foreign = ⊥

no_feed : (b : ℕ) (κ : Token) → notation b ≡ κ → Spoken κ → b ≡ 10 → ⊥
no_feed b κ e s z = subst Spoken (sym e ∙ ap notation z) s

pub formula_feed : {n k : ℕ} {bs : List ℕ} {t : Tree} → Derives n k bs t → NoFeed bs
formula_feed (single {b = b} {a = a} e) = (no_feed b (Operand a) e tt, tt)
formula_feed (negated {b = b} e d) = (no_feed b Negation e tt, formula_feed d)
formula_feed (bracket a b {bs = bs} e f q d) = (no_feed a Opening e tt, All-push _ bs b (formula_feed d) (no_feed b Closing f tt))
formula_feed (looser d) = formula_feed d
formula_feed (chained {k = k} b {op = op} {bs = bs} {cs = cs} e h l r) = All-append _ bs (b ∷ cs) (formula_feed l) (no_feed b (Infix k op) e tt, formula_feed r)
formula_feed (once {k = k} b {op = op} {bs = bs} {cs = cs} e h l r) = All-append _ bs (b ∷ cs) (formula_feed l) (no_feed b (Infix k op) e tt, formula_feed r)

-- the fault of a text that is short enough lies within it
pub place_inside : (bytes : List ℕ) (e : FormulaFault) → length bytes ≤ 4096 → Refused bytes e → fault_place e ≤ length bytes
place_inside bytes TooLong s r = omega arith
place_inside bytes (ForeignByte p) s r = r.0.place.inside
place_inside bytes (Unexpected p) s r = r.0.place.inside
place_inside bytes (TooDeep p) s r = r.0.place.inside

module _ (bytes : List ℕ) where
  -- a text short enough is not too long
  pub short_fault : (e : FormulaFault) → length bytes ≤ 4096 → Refused bytes e → e ≡ TooLong → ⊥
  short_fault e short r same = omega (arith, subst (Refused bytes) same r)

  -- a formula has no fault
  pub formula_whole : (at : ℕ) (e : FormulaFault) (fault : TextFault) → IsFormula bytes → Refused bytes e → Moved at e fault → ⊥
  formula_whole at TooLong fault f r m = m.0 refl
  formula_whole at (ForeignByte p) fault f r m = r.0.none f.tree f.derived
  formula_whole at (Unexpected p) fault f r m = r.0.none f.tree f.derived
  formula_whole at (TooDeep p) fault f r m = r.0.none f.tree f.derived

  same_place : (p q : ℕ) → Broken bytes p → Broken bytes q → p ≡ q
  same_place p q x y = omega (arith, x.place.longest q y.place.inside y.place.viable, y.place.longest p x.place.inside x.place.viable)

  not_both : (p : ℕ) → ForeignAt bytes p → TooDeepAt bytes p → ⊥
  not_both p f d = let z : ◌≡◌ {A = ℕ} 0 1 = cc (sym f.1 ∙ d.1) in omega arith

  -- a text that is no formula has one fault
  one_broken : (e d : FormulaFault) → Refused bytes e → Refused bytes d → e ≡ d
  one_broken TooLong TooLong r s = refl
  one_broken TooLong (ForeignByte q) r s = absurd (omega (arith, s.0.short))
  one_broken TooLong (Unexpected q) r s = absurd (omega (arith, s.0.short))
  one_broken TooLong (TooDeep q) r s = absurd (omega (arith, s.0.short))
  one_broken (ForeignByte p) TooLong r s = absurd (omega (arith, r.0.short))
  one_broken (ForeignByte p) (ForeignByte q) r s = ap ForeignByte (same_place p q r.0 s.0)
  one_broken (ForeignByte p) (Unexpected q) r s = absurd (s.1 (subst (ForeignAt bytes) (same_place p q r.0 s.0) r.1))
  one_broken (ForeignByte p) (TooDeep q) r s = absurd (not_both q (subst (ForeignAt bytes) (same_place p q r.0 s.0) r.1) s.1)
  one_broken (Unexpected p) TooLong r s = absurd (omega (arith, r.0.short))
  one_broken (Unexpected p) (ForeignByte q) r s = absurd (r.1 (subst (ForeignAt bytes) (same_place q p s.0 r.0) s.1))
  one_broken (Unexpected p) (Unexpected q) r s = ap Unexpected (same_place p q r.0 s.0)
  one_broken (Unexpected p) (TooDeep q) r s = absurd (r.2 (subst (TooDeepAt bytes) (same_place q p s.0 r.0) s.1))
  one_broken (TooDeep p) TooLong r s = absurd (omega (arith, r.0.short))
  one_broken (TooDeep p) (ForeignByte q) r s = absurd (not_both p (subst (ForeignAt bytes) (same_place q p s.0 r.0) s.1) r.1)
  one_broken (TooDeep p) (Unexpected q) r s = absurd (s.2 (subst (TooDeepAt bytes) (same_place p q r.0 s.0) r.1))
  one_broken (TooDeep p) (TooDeep q) r s = ap TooDeep (same_place p q r.0 s.0)

  pub moved_once : (at : ℕ) (e d : FormulaFault) (fault other : TextFault) → Refused bytes e → Refused bytes d → Moved at e fault → Moved at d other → fault ≡ other
  moved_once at e d fault other r s m n = m.1 ∙ ap (λ x. Formula x at) (one_broken e d r s) ∙ sym n.1

-- The characters of a formula's steps, one after the other. Assumes nothing.
use Rattle.std.proofs.Common.{◌≡◌, ℕ, zero, suc, ◌+◌, ◌<◌, List, [], ◌∷◌, ◌++◌, length, get_or, take, sym, refl, ap, ◌∙◌, subst, ⊎_elim, append_assoc, arith}
use Rattle.std.proofs.lemmas.List.{take_more}
use Rattle.formula.specs.declared.steps.Operator.{Operator}
use Rattle.formula.specs.declared.steps.Operator.TheVariants.{And, Xor, Or, Implies, Iff}
use Rattle.formula.specs.declared.steps.Step.{Step}
use Rattle.formula.specs.declared.steps.Step.TheVariants.{Negate, Apply}
use Rattle.formula.specs.Notation.{Shows}
use Rattle.formula.specs.Grammar.{Tree, postfix, Derives, single, negated, bracket, looser, chained, once}
use Rattle.truth.specs.Report.{Symbols, Marks, Appended, Known}

operator_known : (op : Operator) → (b : ℕ) × Shows b (Apply op)
operator_known And = (38, refl)
operator_known Xor = (94, refl)
operator_known Or = (124, refl)
operator_known Implies = (62, refl)
operator_known Iff = (61, refl)

known_append : (ss us : List Step) → Known ss → Known us → Known (ss ++ us)
known_append [] us k l = l
known_append (s ∷ ss) us k l = (k.0, known_append ss us k.1 l)

known_two : (op : Operator) (l r : Tree) → Known (postfix l) → Known (postfix r) → Known (postfix l ++ postfix r ++ Apply op ∷ [])
known_two op l r k j = known_append (postfix l ++ postfix r) (Apply op ∷ []) (known_append (postfix l) (postfix r) k j) (operator_known op, tt)

-- every step of a formula has a character
pub known : {n k : ℕ} {bs : List ℕ} {t : Tree} → Derives n k bs t → Known (postfix t)
unfolding postfix
known (single {b = b} e) = ((b, e), tt)
known (negated {t = t} e f) = known_append (postfix t) (Negate ∷ []) (known f) ((33, refl), tt)
known (bracket a b e g q f) = known f
known (looser f) = known f
known (chained b {op = op} {l = l} {r = r} e h f g) = known_two op l r (known f) (known g)
known (once b {op = op} {l = l} {r = r} e h f g) = known_two op l r (known f) (known g)

known_at : (ss : List Step) (i : ℕ) (d : Step) → i < length ss → Known ss → (b : ℕ) × Shows b (get_or ss i d)
known_at [] i d h k = let w : ⊥ = omega arith in absurd w
known_at (s ∷ ss) zero d h k = k.0
known_at (s ∷ ss) (suc i) d h k = known_at ss i d (omega arith) k.1

symbols_more : (ss : List Step) (s : Step) (bs : List ℕ) (b : ℕ) → Symbols ss bs → Shows b s → Symbols (ss ++ s ∷ []) (bs ++ 32 ∷ b ∷ [])
symbols_more [] s bs b e h = (b, [], h, ap (λ l. l ++ 32 ∷ b ∷ []) e, refl)
symbols_more (u ∷ ss) s bs b e h = (e.0, e.1 ++ 32 ∷ b ∷ [], e.2, ap (λ l. l ++ 32 ∷ b ∷ []) e.3, symbols_more ss s e.1 b e.4 h)

marks_shows : (s : Step) (b : ℕ) → Marks s b → ((c : ℕ) × Shows c s) → Shows b s
marks_shows s b m k = ⊎_elim (λ h. h) (λ n. absurd (n.0 k.0 k.1)) m

pub appended_more : (ss : List Step) (i : ℕ) (d : Step) (b : ℕ) (before mid after : List ℕ) → Known ss → i < length ss → Appended (take i ss) before mid → Marks (get_or ss i d) b → after ≡ mid ++ 32 ∷ b ∷ [] → Appended (take (i + 1) ss) before after
appended_more ss i d b before mid after k h sp m e = record {
  symbols = sp.symbols ++ 32 ∷ b ∷ [];
  shown = subst (λ l. Symbols l (sp.symbols ++ 32 ∷ b ∷ [])) (sym (take_more ss i d h)) (symbols_more (take i ss) (get_or ss i d) sp.symbols b sp.shown (marks_shows (get_or ss i d) b m (known_at ss i d h k)));
  is = e ∙ ap (λ l. l ++ 32 ∷ b ∷ []) sp.is ∙ append_assoc before sp.symbols (32 ∷ b ∷ []);
}

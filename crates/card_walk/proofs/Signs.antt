-- The sum of formulas depends on signs only. Assumes nothing.
use Rattle.std.proofs.Common.{◌≡◌, ℕ, ◌+◌, ◌-◌, ◌*◌, ◌≤◌, not, ◌||◌, List, [], ◌∷◌, sym, refl, ap, ◌∙◌, arith}
use Rattle.diagram.specs.Functions.{sign_level}
use Rattle.formula.specs.declared.steps.Leaf.TheVariants.{Constant, Option}
use Rattle.formula.specs.Grammar.{Tree, Derives, single, negated, bracket, looser, chained, once}
use Rattle.formula.specs.Meaning.{Signs, combine, truth}
use Rattle.compile.specs.Trees.{of_tree}
use Rattle.compile.proofs.Bounds.{leaf_bounded}
use Rattle.implicant.specs.Variables.{SignsOnly}
use Rattle.card_walk.specs.Sums.{TreesOf, some_of}

abbrev Alike : Signs → Signs → Type 0
Alike v w = (k : ℕ) → 1 ≤ k → k ≤ 12 → v k ≡ w k

-- a formula reads the signs of the twelve options alone
truth_alike : {n k : ℕ} {text : List ℕ} {t : Tree} → Derives n k text t → (v w : Signs) → Alike v w → truth t v ≡ truth t w
unfolding truth
truth_alike (single {a = Constant b} e) v w a = refl
truth_alike (single {b = b} {a = Option k} e) v w a = let n = leaf_bounded b (Option k) e in a k n.0 n.1
truth_alike (negated e d) v w a = ap not (truth_alike d v w a)
truth_alike (bracket x y e f m d) v w a = truth_alike d v w a
truth_alike (looser d) v w a = truth_alike d v w a
truth_alike (chained b {op = op} e k d f) v w a = λ i. combine op (truth_alike d v w a i) (truth_alike f v w a i)
truth_alike (once b {op = op} e k d f) v w a = λ i. combine op (truth_alike d v w a i) (truth_alike f v w a i)

tree_signs : {text : List ℕ} (t : Tree) → Derives 32 1 text t → SignsOnly 0 (of_tree t)
unfolding of_tree
tree_signs t d x y same = truth_alike d (λ k. x (sign_level k)) (λ k. y (sign_level k)) (λ k first last. at k first last)
  where
    at : (k : ℕ) → 1 ≤ k → k ≤ 12 → x (2 * k) ≡ y (2 * k)
    at k first last =
        let level : 2 * (k - 1) + 2 ≡ 2 * k = omega arith in
        ap x (sym level) ∙ same (k - 1) (omega arith) (omega arith) ∙ ap y level

pub some_signs : (fs : List (List ℕ)) (ts : List Tree) → TreesOf fs ts → SignsOnly 0 (some_of ts)
some_signs [] [] d x y same = refl
some_signs [] (t ∷ ts) d x y same = absurd d
some_signs (f ∷ fs) [] d x y same = absurd d
some_signs (f ∷ fs) (t ∷ ts) d x y same = λ i. tree_signs t d.0 x y same i || some_signs fs ts d.1 x y same i

-- The trees of a card's formulas. Assumes nothing.
use Rattle.std.proofs.Common.{ℕ, List, [], ◌∷◌, ◌++◌}
use Rattle.formula.specs.Grammar.{Tree, Derives}
use Rattle.card_text.specs.Grammar.{Row, card_row, opt_row, use_row, end_row}
use Rattle.card_text.specs.Card.{formulas, Good}
use Rattle.card_walk.specs.Sums.{TreesOf}

trees_more : (fs : List (List ℕ)) (ts : List Tree) (f : List ℕ) (t : Tree) → TreesOf fs ts → Derives 32 1 f t → TreesOf (fs ++ f ∷ []) (ts ++ t ∷ [])
trees_more [] [] f t x d = (d, tt)
trees_more [] (u ∷ ts) f t x d = absurd x
trees_more (e ∷ fs) [] f t x d = absurd x
trees_more (e ∷ fs) (u ∷ ts) f t x d = (x.0, trees_more fs ts f t x.1 d)

pub card_trees : (rows : List Row) → Good rows → (ts : List Tree) × TreesOf (formulas rows) ts
card_trees [] g = ([], tt)
card_trees (card_row title ∷ rows) g = card_trees rows g.0
card_trees (opt_row letter name ∷ rows) g = card_trees rows g.0
card_trees (use_row f ∷ rows) g =
    let x = card_trees rows g.0 in
    let is = g.2.meant.0 in
    (x.0 ++ is.tree ∷ [], trees_more (formulas rows) x.0 f is.tree x.1 is.derived)
card_trees (end_row ∷ rows) g = card_trees rows g.0

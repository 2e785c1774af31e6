use Rattle.std.proofs.Common.{◌≡◌, ℕ, Bool, true, false, drop, ap, ◌∙◌, arith, rules, tests, length-drop, get_or-drop}
use Rattle.std.specs.List.{prefix_len}
use Rattle.std.proofs.lemmas.Iterator.{YieldsList-from_slice}
use Rattle.std.proofs.lemmas.Iterator.Search.{YieldsList-from_take_while}
use Rattle.std.proofs.lemmas.Iterator.Consumers.{count_from_yields_List}
use Rattle.std.proofs.lemmas.List.{take_rest}
use Rattle.std.proofs.lemmas.List.Folds.{length-prefix_len}
use Rattle.std.proofs.lemmas.List.Sums.{prefix_len_passes, prefix_len_stops}
use Rattle.formula.specs.declared.steps.Token.{Token}
use Rattle.formula.specs.declared.steps.Token.TheVariants.{Operand, Negation, Infix, Opening, Closing, Foreign}
use Rattle.formula.specs.Notation.{notation}
use Rattle.formula.proofs.reader.negations.Goals as goal

abbrev is_negation : Token → Bool
is_negation (Operand a) = false
is_negation Negation = true
is_negation (Infix k s) = false
is_negation Opening = false
is_negation Closing = false
is_negation Foreign = false

true_at : (κ : Token) → is_negation κ ≡ true → κ ≡ Negation
true_at (Operand a) e = cc
true_at Negation e = cc
true_at (Infix k s) e = cc
true_at Opening e = cc
true_at Closing e = cc
true_at Foreign e = cc

abbrev test : ℕ → Bool
test b = is_negation (notation b)

counted : (c : goal.After-count) → c.count.result ≡ prefix_len test (drop c.args.at c.args.text.now)
counted c =
    let xs = drop c.args.at c.args.text.now in
    let e : c.take_while.result.iter.rest.now ≡ xs = ap (λ i. i.rest.now) c.take_while.ensures.source ∙ c.iter.ensures.rest ∙ take_rest c.args.text.now c.args.at in
    count_from_yields_List c.take_while.result _ c.count.ensures.ran (YieldsList-from_take_while _ test (YieldsList-from_slice xs e) c.take_while.ensures.closure c.take_while.ensures.done (λ x b q k. search (rules, tests))) ∙ length-prefix_len test xs

pub returns-clause-all : goal.returns-clause-all
returns-clause-all c k h =
    let e = counted c in
    let f = prefix_len_passes test (drop c.args.at c.args.text.now) k 0 (omega arith) in
    true_at _ (rw get_or-drop at f)

pub returns-clause-over : goal.returns-clause-over
returns-clause-over c h n =
    let e = counted c in
    let f = prefix_len_stops test (drop c.args.at c.args.text.now) 0 (omega (arith, length-drop {A = ℕ})) in
    let g = get_or-drop c.args.at c.args.text.now c.count.result 0 in
    let k = ap is_negation n in
    cc

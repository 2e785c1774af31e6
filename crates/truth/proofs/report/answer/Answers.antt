use Rattle.std.proofs.Common.{◌≡◌, ℕ, List, take, vec_items, subst, rules}
use Rattle.std.proofs.lemmas.Result.{IfOk-weaker}
use Rattle.truth.specs.Report.{unended, Report}
use Rattle.truth.proofs.Prefix.{decided}
use Rattle.truth.proofs.report.answer.Goals as goal

-- The text is named by what it is, so that the goal below asks whether it was the one without its line feed.
pub returns : goal.returns
returns c =
    IfOk-weaker c.report.result (λ out. Report _ (vec_items out)) (λ out. (all : List ℕ) → take 4098 c.args.input.now ≡ take 4098 all → Report (unended all) (vec_items out))
    (λ out r all e. decided c.args.input.now all (vec_items out) e (subst (λ t. Report t (vec_items out)) (search rules) r))
    c.report.ensures

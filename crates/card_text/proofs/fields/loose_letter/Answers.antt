use Rattle.std.proofs.Common.{ℕ, rules, tests}
use Rattle.std.proofs.lemmas.Iterator.{YieldsList-from_slice, IsFirst-from_position}
use Rattle.card_text.specs.Card.{Loose}
use Rattle.card_text.proofs.Searches.{first_at}
use Rattle.card_text.proofs.fields.loose_letter.Goals as goal

pub returns : goal.returns
returns c =
    let first = IsFirst-from_position _ _ _ (Loose c.args.options) (λ (b : ℕ). Loose c.args.options b → ⊥) c.position.ensures.ran (YieldsList-from_slice c.args.formula.now c.iter.ensures.rest) (λ x q k. search (rules, tests)) (λ x q k. search (rules, tests)) in
    first_at (Loose c.args.options) (λ (b : ℕ). Loose c.args.options b → ⊥) _ c.position.result (λ i lt here before. record { inside = lt; loose = here; before = before }) first

use Rattle.std.proofs.Common.{◌≡◌, ℕ, rules, tests}
use Rattle.std.proofs.lemmas.Iterator.{YieldsList-from_slice, IsFirst-from_position}
use Rattle.card_text.proofs.Searches.{first_at}
use Rattle.card_text.proofs.records.line_length.Goals as goal

abbrev Feed : ℕ → Type 0
Feed b = b ≡ 10

pub returns : goal.returns
returns c =
    let first = IsFirst-from_position _ _ _ Feed (λ b. Feed b → ⊥) c.position.ensures.ran (YieldsList-from_slice c.args.text.now c.iter.ensures.rest) (λ x q k. search (rules, tests)) (λ x q k. search (rules, tests)) in
    first_at Feed (λ b. Feed b → ⊥) _ c.position.result (λ i lt here before. (lt, here, before)) first

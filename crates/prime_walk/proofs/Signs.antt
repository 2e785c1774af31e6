-- Which handles depend on signs alone. Assumes nothing.
use Rattle.std.proofs.Common.{◌≡◌, ℕ, ◌-◌, ◌/◌, ◌%◌, ◌<◌, List, Ok, sym, ap, ◌∙◌, arith}
use Rattle.diagram.specs.declared.Node.{Node}
use Rattle.diagram.specs.Functions.{Fun}
use Rattle.diagram.specs.Nodes.{Issued, meaning, level_of}
use Rattle.diagram.proofs.Tables.{meaning_constant, fit_at, level_at, level_most}
use Rattle.table.specs.Model.{Sound, Got}
use Rattle.implicant.specs.Variables.{SignsOnly}
use Rattle.implicant.proofs.Conditions.{signs_side_low, signs_side_high, signs_by_sides}
use Rattle.implicant.proofs.Handles.{sides_at, signs_even}

pub signs_constant : (ns : List Node) (h : ℕ) → h < 2 → SignsOnly 0 (meaning ns h)
signs_constant ns h p s t a = ap (λ (v : Fun). v s) (meaning_constant ns h p) ∙ sym (ap (λ (v : Fun). v t) (meaning_constant ns h p))

module _ {N : ℕ} {ns : List Node} {h : ℕ} {n : Node} (s : Sound N ns) (x : Got N ns h (Ok n)) where
  pub signs_of_low : SignsOnly 0 (meaning ns h) → SignsOnly 0 (meaning ns n.low)
  signs_of_low g = signs_side_low (sides_at ns s.formed h n x.outcome) 0 g

  pub signs_of_high : SignsOnly 0 (meaning ns h) → SignsOnly 0 (meaning ns n.high)
  signs_of_high g = signs_side_high (sides_at ns s.formed h n x.outcome) 0 g

  -- A node at an occurrence variable reads it.
  pub odd_reads : n.level % 2 ≡ 1 → SignsOnly 0 (meaning ns h) → ⊥
  odd_reads odd g = omega (arith, odd, signs_even ns s.formed h n x.outcome 0 g)

  -- A node at a sign adds no more than that sign.
  pub even_signs : (n.level % 2 ≡ 1 → ⊥) → SignsOnly 0 (meaning ns n.low) → SignsOnly 0 (meaning ns n.high) → SignsOnly 0 (meaning ns h)
  even_signs even a b =
      let f = fit_at ns h n s.formed x.outcome in
      let j : ℕ = n.level / 2 - 1 in
      signs_by_sides (sides_at ns s.formed h n x.outcome) 0 j (omega arith) (omega (arith, f.last)) (omega (arith, f.first, even)) a b

  pub signs_low_issued : Issued ns n.low
  signs_low_issued = (fit_at ns h n s.formed x.outcome).low_issued

  pub signs_high_issued : Issued ns n.high
  signs_high_issued = (fit_at ns h n s.formed x.outcome).high_issued

  pub signs_low_falls : 25 - level_of ns n.low < 25 - level_of ns h
  signs_low_falls = omega (arith, (fit_at ns h n s.formed x.outcome).low_deeper, level_at ns h n x.outcome, level_most ns n.low s.formed)

  pub signs_high_falls : 25 - level_of ns n.high < 25 - level_of ns h
  signs_high_falls = omega (arith, (fit_at ns h n s.formed x.outcome).high_deeper, level_at ns h n x.outcome, level_most ns n.high s.formed)

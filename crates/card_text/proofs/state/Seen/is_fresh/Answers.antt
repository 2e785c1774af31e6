use Rattle.std.proofs.Common.{◌≡◌, ℕ, List, Bor, true, false, refl, ◌∙◌, rules}
use Rattle.std.proofs.lemmas.Iterator.{YieldsList-from_slice, cases_from_any}
use Rattle.std.proofs.lemmas.Slice.Eq.{slice_eq-Decides}
use Rattle.std.proofs.lemmas.Bool.{false≢true}
use Rattle.std.proofs.lemmas.Bool.Decides.{Decides-eqb}
use Rattle.card_text.proofs.Searches.{fresh_decided}
use Rattle.card_text.proofs.state.Seen.is_fresh.Goals as goal

pub returns : goal.returns
returns c = fresh_decided _ c.args.name.now _ (cases_from_any _ _ _ (λ (x : Bor (List ℕ)). x.now ≡ c.args.name.now) (λ (x : Bor (List ℕ)). x.now ≡ c.args.name.now → ⊥) c.any.ensures.ran (YieldsList-from_slice c.args.self.now.names.items (c.iter.ensures.rest ∙ c.deref.ensures.0))
    (λ x q k. (slice_eq-Decides Decides-eqb x.now.now c.args.name.now true (search rules)).0 refl)
    (λ x q k. (search rules, λ e. false≢true ((slice_eq-Decides Decides-eqb x.now.now c.args.name.now false (search rules)).1 e))))

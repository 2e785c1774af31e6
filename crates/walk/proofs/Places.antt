-- What the places of a cache hold after a write. Assumes nothing.
use Rattle.std.proofs.Common.{◌≡◌, ℕ, zero, suc, ◌<◌, ◌⊎◌, List, length, get_or, set, replicate, Some, None, Option, sym, refl, ap, ◌∙◌, inl, inr, arith, length-set, get_or-set_other, get_or-set_same}
use Rattle.std.proofs.lemmas.Bool.{cases_eq}
use Rattle.walk.specs.declared.cache.Entry.{Entry}
use Rattle.walk.specs.Places.{Keeps}

abbrev nothing : Option Entry
nothing = None

empty_at : (n i : ℕ) → get_or (replicate n nothing) i None ≡ None
empty_at zero i = refl
empty_at (suc n) zero = refl
empty_at (suc n) (suc i) = empty_at n i

apart : (e : Entry) → None ≡ Some e → ⊥
apart e p = let z : ◌≡◌ {A = ℕ} 0 1 = cc in omega arith

pub empty_keeps : (n : ℕ) (e : Entry) → Keeps (replicate n None) e → ⊥
empty_keeps n e k = apart e (sym (empty_at n k.at) ∙ k.is)

same_entry : (e d : Entry) → Some e ≡ Some d → d ≡ e
same_entry e d p = cc

pub set_keeps : (places : List (Option Entry)) (i : ℕ) (e d : Entry) → Keeps (set places i (Some e)) d → Keeps places d ⊎ (d ≡ e)
set_keeps places i e d k =
    let within : k.at < length places = simp length-set at k.within in
    elim (cases_eq k.at i) [
      | inl p ↦
          let lt : i < length places = omega (arith, within, p) in
          inr (same_entry e d (sym (get_or-set_same places i (Some e) None lt) ∙ ap (λ z. get_or (set places i (Some e)) z None) (sym p) ∙ k.is))
      | inr p ↦ inl (record { at = k.at; within = within; is = sym (get_or-set_other places i k.at (Some e) None p) ∙ k.is })
    ]

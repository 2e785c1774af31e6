-- What searches over a list answer. Assumes nothing.
use Rattle.std.proofs.Common.{◌≡◌, ℕ, ◌<◌, ◌↔◌, IsTrue, not, Bool, true, false, List, [], ◌∷◌, map, length, get_or, take, Decides, MatchBool, MatchOption, Option, Some, None, sym, refl, subst, arith, Bor}
use Rattle.std.specs.List.{AllByRecursion, AllWithin, HoldsAt}
use Rattle.std.proofs.ByRecursion.{All-get_or, All-map, all_from_every}
use Rattle.std.proofs.lemmas.List.{length-take, get_or-take}
use Rattle.std.proofs.lemmas.Bool.{false≢true}
use Rattle.card_text.specs.Card.{Fresh}

pub when_decides : (P : Type 0) (r : Bool) → Decides r P → MatchBool r P (P → ⊥)
when_decides P true d = d.0 refl
when_decides P false d = λ p. false≢true (d.1 p)

all_unmap : {X Y : Type 0} (P : Y → Type 0) (f : X → Y) (xs : List X) → AllByRecursion P (map f xs) → AllByRecursion (λ x. P (f x)) xs
all_unmap P f [] h = tt
all_unmap P f (x ∷ xs) h = (h.0, all_unmap P f xs h.1)

apart : (refs : List (Bor (List ℕ))) (name : List ℕ) (k : ℕ) → k < length refs → Fresh (map (λ x. x.now) refs) name → HoldsAt (λ (x : Bor (List ℕ)). x.now ≡ name) refs k → ⊥
apart [] name k lt fresh same = omega arith
apart (x ∷ xs) name k lt fresh same = All-get_or (λ (y : Bor (List ℕ)). y.now ≡ name → ⊥) (x ∷ xs) k x lt (all_unmap (λ (other : List ℕ). other ≡ name → ⊥) (λ (y : Bor (List ℕ)). y.now) (x ∷ xs) fresh) (same x)

pub fresh_decided : (refs : List (Bor (List ℕ))) (name : List ℕ) (r : Bool) → MatchBool r ((k : ℕ) × (k < length refs) × HoldsAt (λ (x : Bor (List ℕ)). x.now ≡ name) refs k) (AllWithin (λ (x : Bor (List ℕ)). x.now ≡ name → ⊥) refs 0 (length refs)) → IsTrue (not r) ↔ Fresh (map (λ x. x.now) refs) name
fresh_decided refs name true (k, lt, same) = (λ e. cc, λ fresh. absurd (apart refs name k lt fresh same))
fresh_decided refs name false none = (λ e. All-map (λ (other : List ℕ). other ≡ name → ⊥) (λ (x : Bor (List ℕ)). x.now) refs (all_from_every (λ (x : Bor (List ℕ)). x.now ≡ name → ⊥) refs none), λ fresh. refl)

-- the first byte that a search finds, or none
pub first_at : (Yes No Found : ℕ → Type 0) {xs : List ℕ} (r : Option ℕ) → ((i : ℕ) → i < length xs → Yes (get_or xs i 0) → AllByRecursion No (take i xs) → Found i) → MatchOption r (AllWithin No xs 0 (length xs)) (λ i. (i < length xs) × HoldsAt Yes xs i × AllWithin No xs 0 i) → MatchOption r (AllByRecursion No xs) Found
first_at Yes No Found {xs} None f h = all_from_every No xs h
first_at Yes No Found {xs} (Some i) f (lt, here, before) =
    f i lt (here 0) (all_from_every No (take i xs) (λ k d low high. let inside : k < i = omega (arith, length-take {A = ℕ}) in subst No (sym (get_or-take i xs k d inside)) (before k d low inside)))

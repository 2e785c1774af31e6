-- A condition has one list, and its products cover the condition. Assumes nothing.
use Rattle.std.proofs.Common.{◌≡◌, ◌+◌, Bool, true, false, cond, List, [], ◌∷◌, ◌++◌, length, count_by, sym, refl, ap, ◌∙◌, subst, inl, inr}
use Rattle.std.proofs.lemmas.List.Sums.{sum_by-cons}
use Rattle.product.specs.Words.{Words}
use Rattle.product.specs.Lists.{In}
use Rattle.implicant.proofs.Primes.{primes_cover}
use Rattle.listing.specs.Listing.{row, last_row, rows, listing}
use Rattle.listing.specs.Theorems.{OneList, ListsCover}
use Rattle.listing.proofs.Rising.{rising_same}

same_bool : (a b : Bool) → (a ≡ true → b ≡ true) → (b ≡ true → a ≡ true) → a ≡ b
same_bool true b f g = sym (f refl)
same_bool false true f g = g refl
same_bool false false f g = refl

-- two ways of marking that agree on a list
module _ (y z : Words 12 → Bool) where
  same_rows : (ps : List (Words 12)) → ((p : Words 12) → In 12 p ps → y p ≡ z p) → rows y ps ≡ rows z ps
  unfolding rows
  same_rows [] e = refl
  same_rows (p ∷ ps) e = λ i. row p (e p (inl refl) i) ++ same_rows ps (λ q j. e q (inr j)) i

  same_count : (ps : List (Words 12)) → ((p : Words 12) → In 12 p ps → y p ≡ z p) → count_by y ps ≡ count_by z ps
  same_count [] e = refl
  same_count (p ∷ ps) e =
      sum_by-cons (λ (q : Words 12). cond (y q) 1 0) p ps
      ∙ (λ i. cond (e p (inl refl) i) 1 0 + same_count ps (λ q j. e q (inr j)) i)
      ∙ sym (sum_by-cons (λ (q : Words 12). cond (z q) 1 0) p ps)

  same_listing : (ps : List (Words 12)) → ((p : Words 12) → In 12 p ps → y p ≡ z p) → listing y ps ≡ listing z ps
  unfolding listing
  same_listing ps e = λ i. same_rows ps e i ++ last_row (length ps) (same_count ps e i)

pub one_list : OneList
one_list f a b x y = x.are ∙ same_listing x.marked y.marked x.products marks ∙ ap (listing y.marked) same ∙ sym y.are
  where
    same : x.products ≡ y.products
    same = rising_same 12 x.products y.products x.rising y.rising (λ p. ((λ i. (y.primes p).0 ((x.primes p).1 i)), λ i. (x.primes p).0 ((y.primes p).1 i)))

    marks : (p : Words 12) → In 12 p x.products → x.marked p ≡ y.marked p
    marks p i =
        let j : In 12 p y.products = subst (In 12 p) same i in
        same_bool (x.marked p) (y.marked p) (λ e. (y.essential p j).1 ((x.essential p i).0 e)) (λ e. (x.essential p i).1 ((y.essential p j).0 e))

pub lists_cover : ListsCover
lists_cover f bytes list v = (
  (λ e. let w = (primes_cover 12 f v).0 e in (w.0, (list.primes w.0).0 w.1, w.2)),
  (λ w. (primes_cover 12 f v).1 (w.0, (list.primes w.0).1 w.1, w.2)),
)

-- What is proved of lists.
use Rattle.std.specs.Prelude.{◌≡◌, ℕ, true, ◌↔◌, List}
use Rattle.product.specs.Words.{Words, Version, meets}
use Rattle.product.specs.Lists.{In}
use Rattle.implicant.specs.Implicants.{Condition}
use Rattle.listing.specs.Listing.{IsList}

-- A condition has one list.
abbrev pub OneList : Type 0
OneList = (f : Condition 12) (a b : List ℕ) → IsList f a → IsList f b → a ≡ b

-- A version has the condition exactly when it meets some product of its list.
abbrev pub ListsCover : Type 0
ListsCover = (f : Condition 12) (bytes : List ℕ) (list : IsList f bytes) (v : Version 12)
    → (f v ≡ true) ↔ ((p : Words 12) × In 12 p list.products × (meets 12 p v ≡ true))

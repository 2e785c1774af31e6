-- What a call leaves of a table's room.
use Rattle.std.specs.Prelude.{◌≡◌, ℕ, List, refl}
use Rattle.std.proofs.Common.{◌∙◌}

-- the table has the size that it had, and what is never touched of its memory holds what it held
pub record SameRoom {S C : Type 0} (limit : S → ℕ) (untouched : S → List C) (old new : S) : Type 0 where
  pub size : limit new ≡ limit old
  pub rest : untouched new ≡ untouched old

pub same_room_refl : {S C : Type 0} {limit : S → ℕ} {untouched : S → List C} (t : S) → SameRoom limit untouched t t
same_room_refl t = record { size = refl; rest = refl }

pub same_room_trans : {S C : Type 0} {limit : S → ℕ} {untouched : S → List C} {a b c : S} → SameRoom limit untouched a b → SameRoom limit untouched b c → SameRoom limit untouched a c
same_room_trans p q = record { size = q.size ∙ p.size; rest = q.rest ∙ p.rest }

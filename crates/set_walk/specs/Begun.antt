-- What a walk's choices are so far. Inner.
use Rattle.std.specs.Prelude.{ℕ, ◌+◌, ◌-◌, ◌≤◌}
use Rattle.product.specs.Words.{Words}
use Rattle.product.specs.Masks.{named_mask, sign_mask, Masks}

-- Masks that hold the words of the first `gone` options: whatever is said of the options left, they become those of a product.
pub record Begun (gone named sign : ℕ) : Type 0 where
  pub few : gone ≤ 12
  pub masks : (p : Words (12 - gone)) → Masks (named + named_mask (12 - gone) p) (sign + sign_mask (12 - gone) p)

-- How many products each version meets: none, one or many. Inner contracts only. Assumes nothing.
use Rattle.std.specs.Prelude.{◌≡◌, ℕ, zero, suc, ◌+◌, ◌*◌, ◌/◌, ◌^◌, Bool, true, false, cond, ◌||◌, List, count_by, ◌≢◌, slice_index_or}
use Rattle.product.specs.Words.{absent, refused, wanted, Words, Version, meets}
use Rattle.listing.specs.declared.counts.Count.{Count}
use Rattle.listing.specs.declared.counts.Count.TheVariants.{Zero, One, Many}

-- A number in base 2, one sign longer.
abbrev pub next : ℕ → Bool → ℕ
next prefix sign = cond sign (2 * prefix + 1) (2 * prefix)

-- The place of a version of n options: its signs in base 2, after those of the options before them.
abbrev pub place : (n prefix : ℕ) → Version n → ℕ
place zero prefix v = prefix
place (suc n) prefix v = place n (next prefix v.0) v.1

-- How many products of a list a version meets.
abbrev pub met : (n : ℕ) → List (Words n) → Version n → ℕ
met n ps v = count_by (λ (p : Words n). meets n p v) ps

-- The count of a number.
abbrev pub count_of : ℕ → Count
count_of zero = Zero
count_of (suc zero) = One
count_of (suc (suc n)) = Many

-- One more.
abbrev pub one_more : Count → Count
one_more Zero = One
one_more One = Many
one_more Many = Many

-- The count is one.
abbrev pub is_one : Count → Bool
is_one Zero = false
is_one One = true
is_one Many = false

-- A product is counted once more, at the places of the versions that have the prefix and meet it, and nowhere else.
pub record Marked (n prefix : ℕ) (p : Words n) (old new : List Count) : Type 0 where
  pub inside : (v : Version n) → slice_index_or new (place n prefix v) Zero ≡ cond (meets n p v) (one_more (slice_index_or old (place n prefix v) Zero)) (slice_index_or old (place n prefix v) Zero)
  pub outside : (i : ℕ) → (i / 2 ^ n ≢ prefix) → slice_index_or new i Zero ≡ slice_index_or old i Zero

-- The counts of a list of products, for each version.
pub record Counted (ps : List (Words 12)) (counts : List Count) : Type 0 where
  pub each : (v : Version 12) → slice_index_or counts (place 12 0 v) Zero ≡ count_of (met 12 ps v)

-- Some version that has the prefix and meets the product has the count one.
unfoldable pub alone : (n : ℕ) → List Count → ℕ → Words n → Bool
alone zero counts prefix p = is_one (slice_index_or counts prefix Zero)
alone (suc n) counts prefix (absent, p) = alone n counts (2 * prefix) p || alone n counts (2 * prefix + 1) p
alone (suc n) counts prefix (refused, p) = alone n counts (2 * prefix) p
alone (suc n) counts prefix (wanted, p) = alone n counts (2 * prefix + 1) p

-- The same over the twelve options, sealed so that goals stay short.
unfoldable pub alone_of : List Count → Words 12 → Bool
alone_of counts p = alone 12 counts 0 p

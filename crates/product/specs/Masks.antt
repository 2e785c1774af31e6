-- Products and versions as masks, the last option at bit 0. Assumes nothing.
use Rattle.std.specs.Prelude.{◌≡◌, ℕ, zero, suc, ◌+◌, ◌-◌, ◌^◌, ◌<◌, Bool, true, false, cond, List, bit_and}
use Rattle.product.specs.Bits.{bit}
use Rattle.product.specs.Words.{Word, absent, refused, wanted, Words, Version, names, spell, letters}

-- The word of a named bit and a sign bit.
abbrev pub word : Bool → Bool → Word
word name sign = cond name (cond sign wanted refused) absent

-- What two masks of n bits say of n options.
abbrev pub words : (n : ℕ) → ℕ → ℕ → Words n
words zero named sign = tt
words (suc n) named sign = (word (bit named n) (bit sign n), words n named sign)

-- The signs that a mask of n bits gives to n options.
abbrev pub signs : (n : ℕ) → ℕ → Version n
signs zero m = tt
signs (suc n) m = (bit m n, signs n m)

-- The bytes of the option at bit j, whose letter is 108 - j: bit 11 has a, bit 0 has l.
unfoldable pub literal : ℕ → ℕ → ℕ → List ℕ
literal named sign j = spell (word (bit named j) (bit sign j)) (108 - j)

-- The bytes of the last n of the twelve options, which lie at the bits below n.
unfoldable pub last_letters : ℕ → ℕ → ℕ → List ℕ
last_letters n named sign = letters n (109 - n) (words n named sign)

-- The word wants its option.
abbrev pub wants : Word → Bool
wants absent = false
wants refused = false
wants wanted = true

-- The mask of the named options.
abbrev pub named_mask : (n : ℕ) → Words n → ℕ
named_mask zero p = 0
named_mask (suc n) p = cond (names p.0) (2 ^ n) 0 + named_mask n p.1

-- The mask of the wanted options.
abbrev pub sign_mask : (n : ℕ) → Words n → ℕ
sign_mask zero p = 0
sign_mask (suc n) p = cond (wants p.0) (2 ^ n) 0 + sign_mask n p.1

-- The mask of a version.
abbrev pub version_mask : (n : ℕ) → Version n → ℕ
version_mask zero v = 0
version_mask (suc n) v = cond v.0 (2 ^ n) 0 + version_mask n v.1

-- Masks of twelve bits with no sign bit where the named bit is 0.
pub record Masks (named sign : ℕ) : Type 0 where
  pub low : named < 4096
  pub signed : sign < 4096
  pub within : bit_and sign named ≡ sign

-- Products of twelve options, sealed so that goals stay short. Assumes nothing.
use Rattle.std.specs.Prelude.{ℕ, Bool, List}
use Rattle.product.specs.declared.masks.Product.{Product}
use Rattle.product.specs.Words.{Words, Version, meets, number, size, letters}
use Rattle.product.specs.Masks.{words, signs}

-- What a product says of the twelve options.
unfoldable pub words_of : Product → Words 12
words_of p = words 12 p.named p.sign

-- The signs that a mask gives to the twelve options.
unfoldable pub version_of : ℕ → Version 12
version_of m = signs 12 m

-- The number of a product of twelve options.
unfoldable pub number_of : Words 12 → ℕ
number_of p = number 12 p

-- How many of the twelve options are named.
unfoldable pub size_of : Words 12 → ℕ
size_of p = size 12 p

-- The bytes of a product of twelve options, from the letter a (97) on.
unfoldable pub letters_of : Words 12 → List ℕ
letters_of p = letters 12 97 p

-- The version has every literal of the product.
unfoldable pub meets_of : Words 12 → Version 12 → Bool
meets_of p v = meets 12 p v

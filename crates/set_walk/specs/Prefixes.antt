-- What a walk over products has chosen so far, and which products it hands over. Inner.
use Rattle.std.specs.Prelude.{◌≡◌, ℕ, ◌+◌, ◌-◌, ◌^◌, cond, List, map}
use Rattle.product.specs.Words.{Word, Words, names}
use Rattle.product.specs.Masks.{words, wants, named_mask, sign_mask}
use Rattle.diagram.specs.Functions.{Fun}
use Rattle.implicant.specs.Lists.{listed}
use Rattle.implicant.specs.Variables.{products}
use Rattle.set_walk.specs.declared.prefix.Prefix.{Prefix}

-- Nothing is chosen.
pub record IsEmpty (b : Prefix) : Type 0 where
  pub gone : b.gone ≡ 0
  pub named : b.named ≡ 0
  pub sign : b.sign ≡ 0

-- x is the prefix b with the word w for one option more.
pub record Longer (b : Prefix) (w : Word) (x : Prefix) : Type 0 where
  pub gone : x.gone ≡ b.gone + 1
  pub named : x.named ≡ b.named + cond (names w) (2 ^ (11 - b.gone)) 0
  pub sign : x.sign ≡ b.sign + cond (wants w) (2 ^ (11 - b.gone)) 0

-- What two masks say of the twelve options, the last n of them as in p.
unfoldable pub joined : (n named sign : ℕ) → Words n → Words 12
joined n named sign p = words 12 (named + named_mask n p) (sign + sign_mask n p)

-- What a prefix of all options says of them.
unfoldable pub whole : Prefix → Words 12
whole b = words 12 b.named b.sign

-- The products that f has of the options after the first `gone`, in rising number, each behind the masks.
unfoldable pub behind : (gone named sign : ℕ) → Fun → List (Words 12)
behind gone named sign f = map (joined (12 - gone) named sign) (listed (12 - gone) (products (12 - gone) gone f))

-- Those behind a prefix.
unfoldable pub handed : Prefix → Fun → List (Words 12)
handed b f = behind b.gone b.named b.sign f

-- What is proved of implicants, and of conditions and sets of products as functions of the variables.
use Rattle.std.specs.Prelude.{◌≡◌, ℕ, suc, ◌+◌, ◌*◌, Bool, true, ◌↔◌}
use Rattle.product.specs.declared.masks.Product.{Product}
use Rattle.product.specs.Words.{absent, refused, wanted, Words, Version, meets}
use Rattle.product.specs.Lists.{In, Once, Rising}
use Rattle.product.specs.Products.{words_of, version_of}
use Rattle.diagram.specs.Functions.{Setting, Fun, Constant, occurrence_level, sign_level}
use Rattle.implicant.specs.Implicants.{Condition, Prime, Maximal, Essential, Irreplaceable, low, high, both}
use Rattle.implicant.specs.Lists.{listed}
use Rattle.implicant.specs.Variables.{signs_from, product_from, condition, condition_of, SignsOnly, OptionsOnly, Tidy, ProductSet, products, products_of, mask_setting, ArePrimes, PrimeRestrictions, PrimeNodes}

-- The primes of f are its maximal implicants.
abbrev pub PrimeBothWays : Type 0
PrimeBothWays = (n : ℕ) (f : Condition n) (p : Words n) → Prime n f p ↔ Maximal n f p

-- A prime is essential exactly when the sum of the others differs from f.
abbrev pub EssentialBothWays : Type 0
EssentialBothWays = (n : ℕ) (f : Condition n) (p : Words n) → Essential n f p ↔ Irreplaceable n f p

-- A version has f exactly when it meets some prime.
abbrev pub PrimesCover : Type 0
PrimesCover = (n : ℕ) (f : Condition n) (v : Version n) → (f v ≡ true) ↔ ((p : Words n) × Prime n f p × (meets n p v ≡ true))

-- The primes of f, by those of its two halves and of the "and" of both.
abbrev pub PrimeRecursion : Type 0
PrimeRecursion = (n : ℕ) (f : Condition (suc n)) (p : Words n)
    → (Prime (suc n) f (absent, p) ↔ Prime n (both n f) p)
    × (Prime (suc n) f (refused, p) ↔ (Prime n (low n f) p × (¬ Prime n (both n f) p)))
    × (Prime (suc n) f (wanted, p) ↔ (Prime n (high n f) p × (¬ Prime n (both n f) p)))

-- The levels of option k + 1.
abbrev pub LevelsOfOptions : Type 0
LevelsOfOptions = (k : ℕ) → (occurrence_level (k + 1) ≡ 2 * k + 1) × (sign_level (k + 1) ≡ 2 * k + 2)

-- A function of the last n signs alone is its condition, read at the signs of the setting.
abbrev pub SignsAreVersions : Type 0
SignsAreVersions = (n k : ℕ) (f : Fun) → n + k ≡ 12 → SignsOnly k f → (s : Setting) → f s ≡ condition n k f (signs_from n k s)

-- A condition, read at the signs of the setting, depends on the last n signs alone, and is the condition of that function.
abbrev pub VersionsAreSigns : Type 0
VersionsAreSigns = (n k : ℕ) (c : Condition n) → n + k ≡ 12
    → SignsOnly k (λ s. c (signs_from n k s)) × ((v : Version n) → condition n k (λ s. c (signs_from n k s)) v ≡ c v)

-- A product set is the set of its products, read at the product of the setting.
abbrev pub SetsHaveProducts : Type 0
SetsHaveProducts = (n k : ℕ) (f : Fun) → n + k ≡ 12 → OptionsOnly k f → Tidy k f → (s : Setting) → f s ≡ products n k f (product_from n k s)

-- Products, read at the product of the setting, make a product set, and are its products.
abbrev pub ProductsMakeSets : Type 0
ProductsMakeSets = (n k : ℕ) (c : Words n → Bool) → n + k ≡ 12
    → OptionsOnly k (λ s. c (product_from n k s)) × ProductSet (λ s. c (product_from n k s)) × ((p : Words n) → products n k (λ s. c (product_from n k s)) p ≡ c p)

-- The primes of a condition have one function.
abbrev pub PrimesHaveOneSet : Type 0
PrimesHaveOneSet = (n k : ℕ) (c : Condition n) → (g : Fun) × ArePrimes n k c g × ((h : Fun) → ArePrimes n k c h → h ≡ g)

-- It is a product set, and its products are the primes.
abbrev pub PrimesAreProductSet : Type 0
PrimesAreProductSet = (n k : ℕ) (c : Condition n) (g : Fun) → n + k ≡ 12 → ArePrimes n k c g
    → OptionsOnly k g × ProductSet g × ((p : Words n) → (products n k g p ≡ true) ↔ Prime n c p)

-- A function of the variables answers at the masks of a product as at its words.
abbrev pub MasksAreWords : Type 0
MasksAreWords = (f : Fun) → OptionsOnly 0 f → (p : Product) → f (mask_setting p.named p.sign) ≡ products_of f (words_of p)

-- A function of the signs alone answers at the mask of a version as at the version; the named mask makes no difference.
abbrev pub MasksAreVersions : Type 0
MasksAreVersions = (f : Fun) → SignsOnly 0 f → (named m : ℕ) → f (mask_setting named m) ≡ condition_of f (version_of m)

-- The working nodes of the primes are the working functions that are not constant.
abbrev pub NodesVary : Type 0
NodesVary = (n k : ℕ) (c : Condition n) (u : Fun) → PrimeNodes n k c u ↔ (PrimeRestrictions n k c u × (¬ Constant u))

-- The list of a set has each product of the set once, and they stand in rising number.
abbrev pub ListedOnce : Type 0
ListedOnce = (n : ℕ) (c : Words n → Bool) → Once n c (listed n c) × Rising n (listed n c)

-- The primes of a condition are the products that stand in the list of their set.
abbrev pub PrimesListed : Type 0
PrimesListed = (c : Condition 12) (g : Fun) → ArePrimes 12 0 c g → (p : Words 12) → Prime 12 c p ↔ In 12 p (listed 12 (products_of g))

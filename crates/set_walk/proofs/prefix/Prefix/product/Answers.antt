use Rattle.std.proofs.Common.{Result, Ok, Err, refl}
use Rattle.std.specs.Result.{MatchResult, IsOk}
use Rattle.std.proofs.lemmas.Result.{MatchResult-at_ok}
use Rattle.product.specs.declared.masks.Product.{Product}
use Rattle.product.specs.declared.faults.ProductFault.{ProductFault}
use Rattle.product.specs.Masks.{words}
use Rattle.product.specs.Products.{words_of}
use Rattle.set_walk.specs.Prefixes.{whole}
use Rattle.set_walk.proofs.Walking.{begun_last}
use Rattle.set_walk.proofs.prefix.Prefix.product.Goals as goal

-- a result that is an error only where P is false
is_ok : {P : Type 0} (A : Product → Type 0) (B : ProductFault → Type 0) (r : Result Product ProductFault) → MatchResult r A (λ e. (P → ⊥) × B e) → P → IsOk r
is_ok A B (Ok x) h p = refl
is_ok A B (Err e) h p = absurd (h.0 p)

pub unwrap-requires : goal.unwrap-requires
unwrap-requires c = is_ok _ _ c.new.result c.new.ensures (begun_last c.args.self.begun c.requires)

pub returns : goal.returns
unfolding words_of whole
returns c = let made = MatchResult-at_ok _ _ c.unwrap.result c.unwrap.ensures c.new.ensures in λ i. words 12 (made.1 i) (made.2 i)

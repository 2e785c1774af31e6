use Rattle.implicant.proofs.Sets.{sets_have_products, products_make_sets}
use Rattle.implicant.proofs.product_sets_have_products.Goals as goal

pub returns : goal.returns
returns c = record { products = sets_have_products; set = products_make_sets }

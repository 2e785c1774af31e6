use Rattle.product.proofs.weights.weight.Goals as goal

-- the test of the rule is computed here, over the whole table
pub entry-requires : goal.entry-requires
entry-requires c = record { long = c.requires; rule = tt }

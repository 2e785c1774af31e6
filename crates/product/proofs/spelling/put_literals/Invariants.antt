use Rattle.std.proofs.Common.{◌≡◌, List, ℕ, ◌++◌}
use Rattle.decimal.specs.Outputs.{Puts}
use Rattle.product.specs.Masks.{last_letters}
use Rattle.product.specs.Products.{words_of, letters_of}
use Rattle.product.proofs.spelling.put_literals.Given as goal

abbrev pub invariant-loop-j : goal.invariant-loop-j
invariant-loop-j l =
    (bytes : List ℕ) × (bytes ++ last_letters l.j l.product.named l.product.sign ≡ letters_of (words_of l.product)) × Puts bytes l.initial.output l.output

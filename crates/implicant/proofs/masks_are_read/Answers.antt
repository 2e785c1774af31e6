use Rattle.implicant.proofs.Masking.{masks_are_words, masks_are_versions}
use Rattle.implicant.proofs.masks_are_read.Goals as goal

pub returns : goal.returns
returns c = record { products = masks_are_words; versions = masks_are_versions }

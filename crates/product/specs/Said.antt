-- What a product says of one option, as the code has it. Assumes nothing.
use Rattle.product.specs.declared.words.Word.{Word as CodeWord}
use Rattle.product.specs.declared.words.Word.TheVariants.{Absent, Refused, Wanted}
use Rattle.product.specs.Words.{Word, absent, refused, wanted}

-- The word that the code's value means.
abbrev pub word_of : CodeWord → Word
word_of Absent = absent
word_of Refused = refused
word_of Wanted = wanted

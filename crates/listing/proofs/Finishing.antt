-- The whole list, by what the three passes leave. Assumes nothing.
use Rattle.std.proofs.Common.{◌≡◌, ℕ, ◌+◌, ◌*◌, ◌<◌, ◌≤◌, Bool, List, [], ◌∷◌, ◌++◌, length, drop, Ok, Err, sym, refl, ap, ◌∙◌, subst, arith, length-append}
use Rattle.std.proofs.lemmas.Fmt.{length-decimal-le}
use Rattle.std.proofs.lemmas.List.Sums.{count_by-le-length}
use Rattle.product.specs.Words.{Words}
use Rattle.product.specs.Lists.{Rising}
use Rattle.product.specs.Products.{number_of, size_of, letters_of}
use Rattle.decimal.specs.declared.outputs.Output.{Output}
use Rattle.decimal.specs.Put.{Put}
use Rattle.decimal.specs.Outputs.{Puts}
use Rattle.decimal.proofs.Putting.{put_first}
use Rattle.decimal.proofs.Writing.{puts_two, puts_as}
use Rattle.product.proofs.Sealed.{of_words, number_few, size_by_ones, ones_few, letters_by_ones}
use Rattle.diagram.specs.Functions.{Fun}
use Rattle.implicant.specs.Implicants.{Condition}
use Rattle.implicant.specs.Lists.{listed}
use Rattle.implicant.specs.Variables.{products_of, ArePrimes}
use Rattle.implicant.proofs.Ordering.{listed_once, primes_listed}
use Rattle.listing.specs.declared.faults.ListFault.TheVariants.{ShortOutput}
use Rattle.listing.specs.declared.counts.Count.{Count}
use Rattle.listing.specs.declared.totals.Totals.{Totals}
use Rattle.listing.specs.Counts.{Counted, alone_of}
use Rattle.listing.specs.Listing.{row, last_row, rows, listing, IsList}
use Rattle.listing.specs.Received.{Sized, Measured, Begun}
use Rattle.listing.specs.Outcome.{Listed}
use Rattle.listing.proofs.Essentials.{essential_is}
use Rattle.listing.proofs.Rising.{rising_few}
use Rattle.listing.proofs.Rowing.{field_length, row_length}

-- a row has at most 39 bytes
row_few : (p : Words 12) (marked : Bool) → length (row p marked) ≤ 39
row_few p marked =
    let own = of_words p in
    let q = own.0 in
    let size : size_of p ≤ 12 = subst (λ (z : Words 12). size_of z ≤ 12) own.1 (omega (arith, size_by_ones q, ones_few q)) in
    let letters : length (letters_of p) ≤ 24 = subst (λ (z : Words 12). length (letters_of z) ≤ 24) own.1 (omega (arith, letters_by_ones q, ones_few q)) in
    let number = number_few p in
    omega (
      arith,
      row_length p marked (number_of p) (size_of p) refl refl,
      field_length (number_of p),
      field_length (size_of p),
      length-decimal-le 6 (number_of p) (omega arith) (omega arith) (omega arith),
      length-decimal-le 2 (size_of p) (omega arith) (omega arith) (omega arith),
      letters,
    )

rows_few : (marked : Words 12 → Bool) (ps : List (Words 12)) → length (rows marked ps) ≤ 39 * length ps
unfolding rows
rows_few marked [] = omega arith
rows_few marked (p ∷ ps) =
    omega (arith, length-append (row p (marked p)) (rows marked ps), row_few p (marked p), rows_few marked ps)

-- nothing was so long or so many that a sum stopped
pub measured : (marked : Words 12 → Bool) (ps : List (Words 12)) (t : Totals) → Rising 12 ps → Sized marked ps t → Measured marked ps t
measured marked ps t rising s =
    let few = rising_few 12 ps rising in
    let long = rows_few marked ps in
    let some = count_by-le-length marked ps in
    let size : t.bytes ≡ length (rows marked ps) = omega (arith, s.size) in
    record { size = size; few = omega arith; all = omega (arith, s.all); some = omega (arith, s.some) }

-- ps are the products of the set g, and their counts and totals are known
module _ (g : Fun) (counts : List Count) (t : Totals) (counted : Counted (listed 12 (products_of g)) counts) (totals : Measured (alone_of counts) (listed 12 (products_of g)) t) where
  abbrev ps : List (Words 12)
  ps = listed 12 (products_of g)

  -- the bytes of the list
  whole : List ℕ
  whole = listing (alone_of counts) ps

  whole_is : rows (alone_of counts) ps ++ last_row t.primes t.essential ≡ whole
  unfolding listing whole
  whole_is = λ i. rows (alone_of counts) ps ++ last_row (totals.all i) (totals.some i)

  whole_length : length whole ≡ t.bytes + length (last_row t.primes t.essential)
  whole_length = sym (ap length whole_is) ∙ length-append (rows (alone_of counts) ps) (last_row t.primes t.essential) ∙ ap (λ (z : ℕ). z + length (last_row t.primes t.essential)) (sym totals.size)

  is_list : (f : Condition 12) → ArePrimes 12 0 f g → IsList f whole
  unfolding whole
  is_list f are =
      let once = listed_once 12 (products_of g) in
      let primes = primes_listed f g are in
      record { products = ps; primes = primes; rising = once.1; marked = alone_of counts; essential = essential_is f ps counts primes once.1 counted; are = refl }

  pub refused : (old : List ℕ) → length old < t.bytes + length (last_row t.primes t.essential) → Listed g (Err ShortOutput) old old
  refused old short = record { bytes = whole; are = is_list; outcome = (omega (arith, whole_length), refl, refl) }

  -- the whole list fits, and its rows are written onto an output that began with nothing
  module _ {start now : Output} (none : start.at ≡ 0) (fits : t.bytes + length (last_row t.primes t.essential) ≤ length start.run.now) (begun : Begun (alone_of counts) ps start now) where
    first : Puts (rows (alone_of counts) ps) start now
    first = begun.puts (omega (arith, totals.size))

    pub finished : (n : ℕ) (old out : List ℕ) {new : Output} → Puts (last_row t.primes t.essential) now new → n ≡ new.at → old ≡ start.run.now → out ≡ new.run.now → Listed g (Ok n) old out
    finished n old out {new} x is was became =
        let all = (puts_as whole_is (puts_two first x)).put in
        let put : Put whole 0 old out n = coe 0 1 (i. Put whole (none i) (sym was i) (sym became i) (sym is i)) all in
        let end : n ≡ length whole = omega (arith, put.value) in
        record { bytes = whole; are = is_list; outcome = (end, omega (arith, whole_length, ap length was), put_first whole old out n put ∙ ap (λ (z : ℕ). whole ++ drop z old) end) }

use Rattle.std.proofs.Common.{◌≡◌, ◌+◌, ℕ, List, [], ◌∷◌, cond, length, IsOk, refl, ap, subst, arith}
use Rattle.decimal.specs.Outputs.{Puts}
use Rattle.decimal.proofs.Writing.{puts_two, puts_as}
use Rattle.product.specs.Products.{words_of, number_of, size_of, letters_of}
use Rattle.listing.specs.Listing.{field, row}
use Rattle.listing.proofs.Rowing.{row_length, row_is, added}
use Rattle.listing.proofs.rows.put_row.Goals as goal
use Rattle.listing.proofs.rows.put_row.Goals.{After-length, Joined-marked, After-put_letters, then-marked, else-marked}

-- the row's length, by the fields that are written
long : (c : After-length) → length (row (words_of c.args.product) c.args.marked) ≡ 5 + length (field c.number.result) + length (field c.length.result) + length (letters_of (words_of c.args.product))
long c = row_length (words_of c.args.product) c.args.marked c.number.result c.length.result c.number.ensures.value c.length.ensures.value

-- the two bytes that tell of the mark
mark : (c : Joined-marked) → c.if-marked.bytes.now ≡ cond c.args.marked 89 78 ∷ 44 ∷ []
mark c =
    elim c.if-marked.branch [
      | then-marked w ↦ rw w.if-marked.true (ap (λ b. b.now) w.bytes-is)
      | else-marked w ↦ rw w.if-marked.false (ap (λ b. b.now) w.bytes-is)
    ]

-- the letters are written, since there is room for the whole row
letters : (c : After-put_letters) → length c.if-marked.bytes.now ≡ 2
    → length (row (words_of c.args.product) c.args.marked) ≡ 5 + length (field c.number.result) + length (field c.length.result) + length (letters_of (words_of c.args.product))
    → IsOk c.put_letters.result × Puts (letters_of (words_of c.args.product)) c.bytes-2.new.self c.put_letters.new.output
letters c two whole = added _ _ _ c.put_letters.result c.put_letters.ensures (omega (arith, c.requires))

pub bytes-requires : goal.bytes-requires
bytes-requires c = let p = words_of c.args.product in omega (arith, row_length p c.args.marked (number_of p) (size_of p) refl refl, c.requires)

pub put_field-requires : goal.put_field-requires
put_field-requires c = let p = words_of c.args.product in omega (arith, row_length p c.args.marked c.number.result (size_of p) c.number.ensures.value refl, c.requires)

pub put_field-requires-2 : goal.put_field-requires-2
put_field-requires-2 c = omega (arith, long (goal.at.put_field-requires-2 c).After-length, c.requires)

pub bytes-requires-2 : goal.bytes-requires-2
bytes-requires-2 c = omega (arith, long (goal.at.bytes-requires-2 c).After-length, ap length (mark c), c.requires)

pub unwrap-requires : goal.unwrap-requires
unwrap-requires c = let at = goal.at.unwrap-requires c in (letters c (ap length (mark at.Joined-marked)) (long at.After-length)).0

pub byte-requires : goal.byte-requires
byte-requires c =
    let at = goal.at.byte-requires c in
    let two = ap length (mark at.Joined-marked) in
    let whole = long at.After-length in
    let put = (letters at.After-put_letters two whole).1 in
    omega (arith, put.long, put.put.value, c.requires)

pub returns : goal.returns
returns c =
    let at = goal.at.returns c in
    let is = mark at.Joined-marked in
    let put = (letters at.After-put_letters (ap length is) (long at.After-length)).1 in
    let marked = subst (λ (bytes : List ℕ). Puts bytes c.put_field-2.new.output c.bytes-2.new.self) is c.bytes-2.ensures in
    puts_as (row_is (words_of c.args.product) c.args.marked c.number.result c.length.result c.number.ensures.value c.length.ensures.value)
    (puts_two (puts_two (puts_two (puts_two (puts_two c.bytes.ensures c.put_field.ensures) c.put_field-2.ensures) marked) put) c.byte.ensures)

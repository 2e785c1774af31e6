-- The CARD record before a list. Assumes nothing.
use Rattle.std.proofs.Common.{◌≡◌, ℕ, ◌+◌, ◌-◌, ◌<◌, ◌≤◌, min, List, [], ◌∷◌, ◌++◌, length, take, drop, Ok, Err, count_by, Result, sym, refl, ap, ◌∙◌, subst, append_assoc, append-nil, arith, length-append, length-drop, drop_of_length-le, length-take}
use Rattle.std.proofs.lemmas.List.{drop_at, drop-drop, take_all}
use Rattle.diagram.specs.Functions.{Fun}
use Rattle.decimal.specs.Put.{Put}
use Rattle.decimal.specs.declared.outputs.Output.{Output}
use Rattle.decimal.specs.Outputs.{Puts}
use Rattle.decimal.proofs.Putting.{put_first}
use Rattle.decimal.proofs.Writing.{puts_two, puts_as}
use Rattle.implicant.specs.Implicants.{Condition}
use Rattle.implicant.specs.Variables.{ArePrimes}
use Rattle.card_text.specs.Grammar.{card_row, spell}
use Rattle.listing.specs.declared.faults.ListFault.{ListFault}
use borrow.Rule.Slice.PartMut.{put_mid, put_same}
use Rattle.listing.specs.Listing.{IsList, listing, last_row, rows}
use Rattle.listing.specs.Outcome.{Listed}
use Rattle.card_walk.specs.Shown.{heading, IsShown, CardWritten}

pub heading_put : (title : List ℕ) {a b c d : Output} → Puts (spell (card_row [])) a b → Puts title b c → Puts (10 ∷ []) c d → Puts (heading title) a d
unfolding heading
heading_put title x y z = puts_as refl (puts_two x (puts_two y z))

heading_length : (title : List ℕ) → length (heading title) ≡ length title + 8
unfolding heading
heading_length title = omega (arith, length-append title (10 ∷ []))

last_some : (n m : ℕ) → 0 < length (last_row n m)
unfolding last_row
last_some n m = omega arith

list_some : (f : Condition 12) (bytes : List ℕ) → IsList f bytes → 0 < length bytes
unfolding listing
list_some f bytes l =
    let n = length l.products in
    let m = count_by l.marked l.products in
    omega (arith, ap length l.are, length-append (rows l.marked l.products) (last_row n m), last_some n m)

-- what a list in the part behind the heading makes of the whole
module _ (title old : List ℕ) (g : Fun) (from : ℕ) (at : from ≡ min (length title + 8) (length old)) where
  abbrev part : List ℕ
  part = take (length old - from) (drop from old)

  whole_part : part ≡ drop from old
  whole_part = take_all (length old - from) (drop from old) (omega (arith, length-drop from old))

  shows : (r : Result ℕ ListFault) (sub : List ℕ) (l : Listed g r part sub) (f : Condition 12) → ArePrimes 12 0 f g → IsShown title f (heading title ++ l.bytes)
  shows r sub l f a = record { rows = l.bytes; list = l.are f a; are = refl }

  long : (bytes : List ℕ) → length (heading title ++ bytes) ≡ length title + 8 + length bytes
  long bytes = length-append (heading title) bytes ∙ ap (λ (n : ℕ). n + length bytes) (heading_length title)

  pub card_refused : (e : ListFault) (r : Result ℕ ListFault) (sub new : List ℕ) → r ≡ Err e → Listed g (Err e) part sub → new ≡ put_mid from (length old - from) old sub → CardWritten title g r old new
  card_refused e r sub new is l put =
      let o = l.outcome in
      let kept : new ≡ old = put ∙ ap (put_mid from (length old - from) old) o.2 ∙ put_same from (length old - from) old in
      let short : length old < length (heading title ++ l.bytes) = omega (arith, o.0, long l.bytes, at, ap length whole_part, length-drop from old) in
      subst (λ (x : Result ℕ ListFault). CardWritten title g x old new) (sym is) (record { bytes = heading title ++ l.bytes; shows = shows (Err e) sub l; outcome = (short, o.1, kept) })

  module _ (f : Condition 12) (a : ArePrimes 12 0 f g) (n : ℕ) (sub : List ℕ) (l : Listed g (Ok n) part sub) where
    -- the heading fits, since the list takes room behind it
    pub head_fits : length title + 8 ≤ length old
    head_fits = omega (arith, l.outcome.1, list_some f l.bytes (l.are f a), at, ap length whole_part, length-drop from old)

    head_is : from ≡ length (heading title)
    head_is = omega (arith, head_fits, at, heading_length title)

    pub card_written : {before after : Output} {new : List ℕ} → before.at ≡ 0 → before.run.now ≡ put_mid from (length old - from) old sub → Puts (heading title) before after → new ≡ after.run.now → CardWritten title g (Ok (length title + 8 + n)) old new
    card_written {before} {after} {new} start lent p last =
        let o = l.outcome in
        let bytes = l.bytes in
        let whole = put_mid from (length old - from) old sub in
        let end : drop (length old - from) (drop from old) ≡ [] = drop_of_length-le (drop from old) (omega (arith, length-drop from old)) in
        let at_r : after.at ≡ from = omega (arith, p.put.value, start, head_is) in
        let behind : drop from whole ≡ sub =
        drop_at (take from old) (sub ++ drop (length old - from) (drop from old)) from (omega (arith, length-take from old, at))
        ∙ ap (λ (z : List ℕ). sub ++ z) end ∙ append-nil sub in
        let rest : drop (length bytes) part ≡ drop (length (heading title ++ bytes)) old =
        ap (drop (length bytes)) whole_part ∙ drop-drop (length bytes) from old ∙ ap (λ (m : ℕ). drop m old) (omega (arith, long bytes, head_is, heading_length title)) in
        let written : new ≡ (heading title ++ bytes) ++ drop (length (heading title ++ bytes)) old =
        last ∙ put_first (heading title) before.run.now after.run.now after.at (subst (λ (m : ℕ). Put (heading title) m before.run.now after.run.now after.at) start p.put)
        ∙ ap (λ (z : List ℕ). heading title ++ z) ((λ i. drop (at_r i) (lent i)) ∙ behind ∙ o.2 ∙ ap (λ (z : List ℕ). bytes ++ z) rest)
        ∙ sym (append_assoc (heading title) bytes (drop (length (heading title ++ bytes)) old)) in
        record {
          bytes = heading title ++ bytes;
          shows = shows (Ok n) sub l;
          outcome = (omega (arith, o.0, long bytes), omega (arith, o.1, long bytes, head_fits, head_is, heading_length title, ap length whole_part, length-drop from old), written);
        }

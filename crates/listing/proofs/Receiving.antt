-- What the receivers hold before any product, and after one more. Assumes nothing.
use Rattle.std.proofs.Common.{◌≡◌, ℕ, ◌+◌, ◌<◌, min, Bool, cond, List, [], ◌∷◌, ◌++◌, length, count_by, sym, refl, ap, ◌∙◌, arith, length-append}
use Rattle.std.proofs.lemmas.List.{flat_map_more}
use Rattle.std.proofs.lemmas.List.Sums.{sum_by_push}
use Rattle.product.specs.Words.{Words}
use Rattle.decimal.specs.declared.outputs.Output.{Output}
use Rattle.decimal.specs.Outputs.{HasRoom, Puts}
use Rattle.decimal.proofs.Writing.{puts_two, puts_as}
use Rattle.listing.specs.declared.totals.Totals.{Totals}
use Rattle.listing.specs.Listing.{row, rows}
use Rattle.listing.specs.Received.{Grown, Sized, Begun}

-- a sum that stops at a limit, after one more part
stopped : (limit old part new a b : ℕ) → old ≡ min limit a → part ≡ b → new ≡ min (old + part) limit → new ≡ min limit (a + b)
stopped limit old part new a b p q r = omega arith

module _ (marked : Words 12 → Bool) where
  pub sized_none : (t : Totals) → t.bytes ≡ 0 → t.primes ≡ 0 → t.essential ≡ 0 → Sized marked [] t
  unfolding rows
  sized_none t a b c = record { size = omega arith; all = omega arith; some = omega arith }

  module _ (ps : List (Words 12)) (p : Words 12) where
    rows_more : rows marked (ps ++ (p ∷ [])) ≡ rows marked ps ++ row p (marked p)
    unfolding rows
    rows_more = sym (flat_map_more (λ (q : Words 12). row q (marked q)) [] ps p)

    longer : length (rows marked (ps ++ (p ∷ []))) ≡ length (rows marked ps) + length (row p (marked p))
    longer = ap length rows_more ∙ length-append (rows marked ps) (row p (marked p))

    count_more : count_by marked (ps ++ (p ∷ [])) ≡ count_by marked ps + cond (marked p) 1 0
    count_more = sum_by_push (λ (q : Words 12). cond (marked q) 1 0) ps p

    pub sized_more : {len : ℕ} {old new : Totals} → Sized marked ps old → len ≡ length (row p (marked p)) → Grown len (marked p) old new → Sized marked (ps ++ (p ∷ [])) new
    sized_more s e g = record {
      size = stopped 18446744073709551615 _ _ _ (length (rows marked ps)) (length (row p (marked p))) s.size e g.size ∙ ap (min 18446744073709551615) (sym longer);
      all = stopped 4294967295 _ 1 _ (length ps) 1 s.all refl g.all ∙ ap (min 4294967295) (sym (length-append ps (p ∷ [])));
      some = stopped 4294967295 _ _ _ (count_by marked ps) (cond (marked p) 1 0) s.some refl g.some ∙ ap (min 4294967295) (sym count_more);
    }

    module _ {start now : Output} (begun : Begun marked ps start now) where
      pub begun_more : {new : Output} → Puts (row p (marked p)) now new → Begun marked (ps ++ (p ∷ [])) start new
      begun_more x = record {
        lent = x.lent ∙ begun.lent;
        long = x.long ∙ begun.long;
        puts = λ fits. puts_as (sym rows_more) (puts_two (begun.puts (omega (arith, fits, longer))) x);
      }

      -- a row that does not fit is the last that could
      pub begun_past : length now.run.now < now.at + length (row p (marked p)) → Begun marked (ps ++ (p ∷ [])) start now
      begun_past full = record { lent = begun.lent; long = begun.long; puts = λ fits. absurd (never fits) }
        where
          never : HasRoom start (length (rows marked (ps ++ (p ∷ [])))) → ⊥
          never fits =
              let put = (begun.puts (omega (arith, fits, longer))).put in
              omega (arith, put.value, longer, fits, full, begun.long)

-- The end of a card, from its first USE record on. Assumes nothing.
use Rattle.std.proofs.Common.{◌≡◌, ℕ, Bool, true, false, T, ◌⊎◌, List, [], ◌∷◌, ◌++◌, length, drop, codes, sym, refl, ap, ◌∙◌, subst, inl, inr, append_assoc, append-nil, arith}
use lib.Seq.{drop-append_seam}
use Rattle.card_text.specs.declared.records.Use.{Use}
use Rattle.card_text.specs.declared.state.Stage.{Stage}
use Rattle.card_text.specs.declared.state.Stage.TheVariants.{Start, Options, Uses, Done}
use Rattle.card_text.specs.Grammar.{Row, card_row, opt_row, use_row, end_row, spell, Begins}
use Rattle.card_text.specs.Card.{spelled, formulas, front_rows, stage_after, Good, IsCard, Tail}
use Rattle.card_text.specs.Reads.{UseAt, NoUse}
use Rattle.card_text.proofs.Lines.{word_feed, last_line}
use Rattle.card_text.proofs.Once.{begins_one}

-- the stage is one of those marked true
abbrev pub Among : Bool → Bool → Bool → Bool → Stage → Type 0
Among a b c d Start = T a
Among a b c d Options = T b
Among a b c d Uses = T c
Among a b c d Done = T d

-- no USE has been read
abbrev pub Early : Stage → Type 0
Early = Among true true false false

-- USE may stand next
abbrev pub Opened : Stage → Type 0
Opened = Among false true true false

-- END has been read
abbrev pub Ended : Stage → Type 0
Ended = Among false false false true

pub opened : (s : Stage) → (s ≡ Options) ⊎ (s ≡ Uses) → Opened s
opened s (inl e) = subst Opened (sym e) tt
opened s (inr e) = subst Opened (sym e) tt

pub no_formulas : (rows : List Row) → Good rows → Early (stage_after rows) → formulas rows ≡ []
no_formulas [] good e = refl
no_formulas (card_row t ∷ rows) good e = no_formulas rows good.0 (subst Early (sym good.2.fits) tt)
no_formulas (opt_row l n ∷ rows) good e = no_formulas rows good.0 (subst Early (sym good.2.fits.0) tt)
no_formulas (use_row f ∷ rows) good e = absurd e
no_formulas (end_row ∷ rows) good e = absurd e

-- from the first USE on: the formulas of the rows, and then what `rest` holds
record Back (rows : List Row) (fs : List (List ℕ)) (rest : List ℕ) : Type 0 where
  back : List ℕ
  same : spelled rows ++ rest ≡ spelled (front_rows rows) ++ back
  tail : Tail (formulas rows ++ fs) back

-- where no USE has been read, that is `rest`
back_here : (rows : List Row) (fs : List (List ℕ)) (rest : List ℕ) → front_rows rows ≡ rows → formulas rows ≡ [] → Tail fs rest → Back rows fs rest
back_here rows fs rest front none t = record {
  back = rest;
  same = ap (λ l. spelled l ++ rest) (sym front);
  tail = subst (λ l. Tail (l ++ fs) rest) (sym none) t;
}

back_of : (rows : List Row) (fs : List (List ℕ)) (rest : List ℕ) → Good rows → Opened (stage_after rows) → Tail fs rest → Back rows fs rest
back_of [] fs rest good at t = absurd at
back_of (card_row title ∷ rows) fs rest good at t = back_here (card_row title ∷ rows) fs rest refl (no_formulas (card_row title ∷ rows) good tt) t
back_of (opt_row letter name ∷ rows) fs rest good at t = back_here (opt_row letter name ∷ rows) fs rest refl (no_formulas (opt_row letter name ∷ rows) good tt) t
back_of (use_row f ∷ rows) fs rest good at t =
    let line : Begins (spell (use_row f) ++ 10 ∷ rest) (use_row f) rest = record { line = refl; whole = good.1 } in
    let b = back_of rows (f ∷ fs) (spell (use_row f) ++ 10 ∷ rest) good.0 (opened (stage_after rows) good.2.fits) (rest, line, t) in
    record {
      back = b.back;
      same = last_line rows (use_row f) rest ∙ b.same;
      tail = subst (λ l. Tail l b.back) (sym (append_assoc (formulas rows) (f ∷ []) fs)) b.tail;
    }
back_of (end_row ∷ rows) fs rest good at t = absurd at

closed : (rows : List Row) → Good rows → Ended (stage_after rows) → Back rows [] []
closed [] good e = absurd e
closed (card_row t ∷ rows) good e = absurd e
closed (opt_row l n ∷ rows) good e = absurd e
closed (use_row f ∷ rows) good e = absurd e
closed (end_row ∷ rows) good e =
    let b = back_of rows [] (spell end_row ++ 10 ∷ []) good.0 (opened (stage_after rows) (inr good.2.fits)) refl in
    record { back = b.back; same = append-nil (spelled (end_row ∷ rows)) ∙ b.same; tail = b.tail }

-- what stands from the first USE record of a card on
pub card_tail : (text : List ℕ) (rows : List Row) (uses : ℕ) → IsCard text rows → uses ≡ length (spelled (front_rows rows)) → Tail (formulas rows) (drop uses text)
card_tail text rows uses card at =
    let b = closed rows card.good (subst Ended (sym card.ended) tt) in
    let whole : text ≡ spelled (front_rows rows) ++ b.back = card.holds ∙ sym (append-nil (spelled rows)) ∙ b.same in
    let cut : drop uses text ≡ b.back = (λ i. drop (at i) (whole i)) ∙ drop-append_seam (spelled (front_rows rows)) b.back in
    subst (λ l. Tail l (drop uses text)) (append-nil (formulas rows)) (subst (Tail (formulas rows ++ [])) (sym cut) b.tail)

module _ (text : List ℕ) (at : ℕ) where
  end_begins : Tail [] (drop at text) → Begins (drop at text) end_row []
  end_begins e = record { line = e; whole = word_feed (codes "END") tt }

  -- a USE record at the place is the first of the tail, which goes on behind it
  pub tail_use : (fs : List (List ℕ)) (u : Use) → Tail fs (drop at text) → UseAt text at u → (rest : List (List ℕ)) × (fs ≡ u.formula.bytes.now ∷ rest) × Tail rest (drop u.to text)
  tail_use [] u t r =
      let same = (begins_one (drop at text) end_row (use_row u.formula.bytes.now) [] (drop u.to text) (end_begins t) r.begins).0 in
      let z : ◌≡◌ {A = ℕ} 0 1 = cc in
      absurd (omega arith)
  tail_use (f ∷ fs) u t r =
      let same = begins_one (drop at text) (use_row f) (use_row u.formula.bytes.now) t.0 (drop u.to text) t.1 r.begins in
      let first = same.0 in
      (fs, cc, subst (Tail fs) same.1 t.2)

  -- where none stands, the tail is over
  pub tail_none : (fs : List (List ℕ)) → Tail fs (drop at text) → NoUse text at → fs ≡ []
  tail_none [] t none = refl
  tail_none (f ∷ fs) t none = absurd (none f t.0 t.1)

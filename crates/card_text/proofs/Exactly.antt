-- The rules decide a text in one way. Assumes nothing.
use Rattle.std.proofs.Common.{◌≡◌, ℕ, ◌+◌, ◌<◌, ◌⊎◌, List, [], ◌∷◌, ◌++◌, length, take, sym, refl, ap, ◌∙◌, subst, subst₂, inl, inr, ⊎_elim, append-nil, arith, length-append, length-take}
use Rattle.std.proofs.ByRecursion.{All-get_or}
use Rattle.std.proofs.lemmas.List.{get_or-take}
use Rattle.std.proofs.lemmas.Bool.{cases_order}
use Rattle.card_text.specs.declared.faults.TextFault.{TextFault}
use Rattle.card_text.specs.declared.faults.TextFault.TheVariants.{LooseLetter}
use Rattle.card_text.specs.declared.state.Stage.{Stage}
use Rattle.card_text.specs.Grammar.{Row, card_row, opt_row, use_row, end_row, spell, Begins}
use Rattle.card_text.specs.Card.{spelled, option_names, stage_after, Loose, Sound, Good, IsCard}
use Rattle.card_text.specs.Faults.{First, Misread, broken, loose, Wrong, Faulty, form, inside, Upto, long, leftmost}
use Rattle.card_text.specs.Exact.{OneCard, CardKept, OneFault}
use Rattle.card_text.proofs.Formulas.{formula_whole, moved_once}
use Rattle.card_text.proofs.Lines.{last_line}
use Rattle.card_text.proofs.Once.{begins_one}

-- from some rows and what stands behind them, sound record by sound record, to the rows R and r behind them
data Onward (R : List Row) (r : List ℕ) : List Row → List ℕ → Type 0 where
  here : {rows : List Row} {rest : List ℕ} → rows ≡ R → rest ≡ r → Onward R r rows rest
  next : {rows : List Row} {rest : List ℕ} (row : Row) (more : List ℕ) → Begins rest row more → Sound (stage_after rows) (option_names rows) row → Onward R r (row ∷ rows) more → Onward R r rows rest

from_start : (R : List Row) (r : List ℕ) (rows : List Row) (rest : List ℕ) → Good rows → Onward R r rows rest → Onward R r [] (spelled rows ++ rest)
from_start R r [] rest good e = e
from_start R r (row ∷ rows) rest good e =
    let begins : Begins (spell row ++ 10 ∷ rest) row rest = record { line = refl; whole = good.1 } in
    subst (Onward R r []) (sym (last_line rows row rest)) (from_start R r rows (spell row ++ 10 ∷ rest) good.0 (next row rest begins good.2 e))

-- of two ways from one start, one goes on from where the other ended
linear : (R Q : List Row) (r q : List ℕ) (rows : List Row) (rest : List ℕ) → Onward R r rows rest → Onward Q q rows rest → Onward Q q R r ⊎ Onward R r Q q
linear R Q r q rows rest (here a b) f = inl (subst₂ (Onward Q q) a b f)
linear R Q r q rows rest (next row more b s e) (here c d) = inr (subst₂ (Onward R r) c d (next row more b s e))
linear R Q r q rows rest (next row more b s e) (next row' more' b' s' f) =
    let same = begins_one rest row' row more' more b' b in
    linear R Q r q (row ∷ rows) more e (subst₂ (λ x y. Onward Q q (x ∷ rows) y) same.0 same.1 f)

-- no sound record goes on from here
abbrev Stop : List Row → List ℕ → Type 0
Stop rows rest = (row : Row) (more : List ℕ) → Begins rest row more → Sound (stage_after rows) (option_names rows) row → ⊥

stays : (R Q : List Row) (r q : List ℕ) → Stop R r → Onward Q q R r → (R ≡ Q) × (r ≡ q)
stays R Q r q stop (here a b) = (a, b)
stays R Q r q stop (next row more b s e) = absurd (stop row more b s)

-- good rows at which a text stops are the only ones
one_stop : (text : List ℕ) (R Q : List Row) (r q : List ℕ) → Upto text R r → Upto text Q q → Stop R r → Stop Q q → (R ≡ Q) × (r ≡ q)
one_stop text R Q r q u v stop halt =
    let e = subst (Onward R r []) (sym u.holds) (from_start R r R r u.good (here refl refl)) in
    let f = subst (Onward Q q []) (sym v.holds) (from_start Q q Q q v.good (here refl refl)) in
    ⊎_elim (λ x. stays R Q r q stop x) (λ y. let same = stays Q R q r halt y in (sym same.0, sym same.1)) (linear R Q r q [] text e f)

-- a sound record is not wrong
not_wrong : (s : Stage) (names : List (List ℕ)) (row : Row) (at : ℕ) (e : TextFault) → Sound s names row → Wrong names row at e → ⊥
not_wrong s names (card_row t) at e sound w = w.0 sound.ruled
not_wrong s names (opt_row l n) at e sound w = w.0 sound.ruled
not_wrong s names (use_row f) at e sound (broken x b m) = formula_whole f (at + 4) x e sound.meant.0 b m
not_wrong s names (use_row f) at e sound (loose i p first q) = All-get_or (λ b. Loose (length names) b → ⊥) f i 0 first.inside sound.meant.1 first.loose
not_wrong s names end_row at e sound w = w

module _ (k : ℕ) (f : List ℕ) where
  first_once : (i j : ℕ) → First k f i → First k f j → i < j → ⊥
  first_once i j p q lt =
      let long : i < length (take j f) = simp length-take (omega (arith, p.inside)) in
      All-get_or (λ b. Loose k b → ⊥) (take j f) i 0 long q.before (subst (Loose k) (sym (get_or-take j f i 0 lt)) p.loose)

  misread_once : (at : ℕ) (e d : TextFault) → Misread k f at e → Misread k f at d → e ≡ d
  misread_once at e d (broken x b m) (broken y c n) = moved_once f at x y e d b c m n
  misread_once at e d (broken x b m) (loose j w second q) = absurd (formula_whole f at x e w b m)
  misread_once at e d (loose i w first p) (broken y c n) = absurd (formula_whole f at y d w c n)
  misread_once at e d (loose i w first p) (loose j v second q) = ⊎_elim (λ same. p ∙ ap (λ n. LooseLetter (at + n)) same ∙ sym q) (λ apart. absurd (⊎_elim (first_once i j first second) (first_once j i second first) apart)) (cases_order i j)

wrong_once : (names : List (List ℕ)) (row : Row) (at : ℕ) (e d : TextFault) → Wrong names row at e → Wrong names row at d → e ≡ d
wrong_once names (card_row t) at e d w v = w.1 ∙ sym v.1
wrong_once names (opt_row l n) at e d w v = w.1 ∙ sym v.1
wrong_once names (use_row f) at e d w v = misread_once (length names) f (at + 4) e d w v
wrong_once names end_row at e d w v = absurd w

faulty_stops : (rows : List Row) (rest : List ℕ) (at : ℕ) (e : TextFault) → Faulty (stage_after rows) (option_names rows) rest at e → Stop rows rest
faulty_stops rows rest at e (form none p) row more b sound = none row more b sound.fits
faulty_stops rows rest at e (inside row' more' b' f w) row more b sound = not_wrong (stage_after rows) (option_names rows) row' at e (subst (Sound (stage_after rows) (option_names rows)) (begins_one rest row row' more more' b b').0 sound) w

faulty_once : (s : Stage) (names : List (List ℕ)) (rest : List ℕ) (at : ℕ) (e d : TextFault) → Faulty s names rest at e → Faulty s names rest at d → e ≡ d
faulty_once s names rest at e d (form none p) (form none' q) = p ∙ sym q
faulty_once s names rest at e d (form none p) (inside row more b f w) = absurd (none row more b f)
faulty_once s names rest at e d (inside row more b f w) (form none q) = absurd (none row more b f)
faulty_once s names rest at e d (inside row more b f w) (inside row' more' b' f' w') = wrong_once names row at e d w (subst (λ x. Wrong names x at d) (begins_one rest row' row more' more b' b).0 w')

ended_stops : (rows : List Row) → Stop rows []
ended_stops rows row more b sound = omega (arith, ap length b.line, length-append (spell row) (10 ∷ more))

card_upto : (text : List ℕ) (rows : List Row) → IsCard text rows → Upto text rows []
card_upto text rows c = record { short = c.short; holds = c.holds ∙ sym (append-nil (spelled rows)); good = c.good }

pub one_card : OneCard
one_card text rows others c d = (one_stop text rows others [] [] (card_upto text rows c) (card_upto text others d) (ended_stops rows) (ended_stops others)).0

pub card_kept : CardKept
card_kept text rows fault c (long large p) = omega (arith, c.short)
card_kept text rows fault c (leftmost others rest u unended f) =
    let same = one_stop text rows others [] rest (card_upto text rows c) u (ended_stops rows) (faulty_stops others rest _ fault f) in
    unended (ap stage_after (sym same.0) ∙ c.ended) (sym same.1)

pub one_fault : OneFault
one_fault text fault other (long large p) (long large' q) = p ∙ sym q
one_fault text fault other (long large p) (leftmost rows rest u n f) = absurd (omega (arith, u.short))
one_fault text fault other (leftmost rows rest u n f) (long large q) = absurd (omega (arith, u.short))
one_fault text fault other (leftmost rows rest u n f) (leftmost rows' rest' u' n' f') =
    let same = one_stop text rows' rows rest' rest u' u (faulty_stops rows' rest' _ other f') (faulty_stops rows rest _ fault f) in
    faulty_once (stage_after rows) (option_names rows) rest (length (spelled rows)) fault other f (subst₂ (λ x y. Faulty (stage_after x) (option_names x) y (length (spelled x)) other) same.0 same.1 f')

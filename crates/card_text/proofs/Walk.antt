-- The reader's way through a text, record by record, and what its end shows. Assumes nothing.
use Rattle.std.proofs.Common.{◌≡◌, ℕ, ◌<◌, ◌≤◌, List, [], ◌∷◌, ◌++◌, length, drop, sym, ap, ◌∙◌, subst, subst₂, append_assoc, append-nil, arith, length-append, length-drop}
use Rattle.std.proofs.lemmas.List.{drop_all}
use Rattle.card_text.specs.declared.faults.TextFault.{TextFault}
use Rattle.card_text.specs.declared.faults.TextFault.TheVariants.{Form}
use Rattle.card_text.specs.declared.state.Seen.{Seen}
use Rattle.card_text.specs.declared.state.Stage.TheVariants.{Done}
use Rattle.card_text.specs.Grammar.{Row, card_row, opt_row, use_row, end_row, spell}
use Rattle.card_text.specs.Card.{spelled, option_names, add_name, card_title, add_title, mark, front_rows, stage_after, Sound, Good, IsCard}
use Rattle.card_text.specs.Faults.{Faulty, form, Upto, Refused, leftmost}
use Rattle.card_text.specs.State.{held}
use Rattle.card_text.specs.Steps.{Stepped}
use Rattle.card_text.proofs.Lines.{past_end}

-- the reader stands at `at`, with these rows behind it
pub record Arrived (text : List ℕ) (at : ℕ) (seen : Seen) (rows : List Row) : Type 0 where
  pub holds : text ≡ spelled rows ++ drop at text
  pub place : length (spelled rows) ≡ at
  pub good : Good rows
  pub stage_is : seen.stage ≡ stage_after rows
  pub held_is : held seen ≡ option_names rows
  pub title_is : seen.title.now ≡ card_title rows
  pub uses_at : seen.uses ≡ length (spelled (front_rows rows))
  pub within : at ≤ length text

-- the mark is the place of the rows that it moves with
marked : (was here : List Row) (row : Row) (n m : ℕ) → n ≡ length (spelled was) → m ≡ length (spelled here) → mark n row m ≡ length (spelled (mark was row here))
marked was here (card_row t) n m p q = q
marked was here (opt_row l k) n m p q = q
marked was here (use_row f) n m p q = p
marked was here end_row n m p q = p

module _ (text : List ℕ) (at : ℕ) (seen : Seen) (rows : List Row) (a : Arrived text at seen rows) where
  pub arrived_more : (to : ℕ) (later : Seen) → (s : Stepped text at seen later to) → Arrived text to later (s.row ∷ rows)
  arrived_more to later s =
      let line = spell s.row ++ 10 ∷ [] in
      let whole : text ≡ spelled (s.row ∷ rows) ++ drop to text = a.holds ∙ ap (λ l. spelled rows ++ l) (s.begins.line ∙ sym (append_assoc (spell s.row) (10 ∷ []) (drop to text))) ∙ sym (append_assoc (spelled rows) line (drop to text)) in
      let there : length (spelled (s.row ∷ rows)) ≡ to = omega (arith, ap length whole, length-append (spelled (s.row ∷ rows)) (drop to text), length-drop to text, s.inside) in
      record {
        holds = whole;
        place = there;
        good = (a.good, s.begins.whole, subst₂ (λ t g. Sound t g s.row) a.stage_is a.held_is s.sound);
        stage_is = s.stage_then;
        held_is = s.names_then ∙ ap (λ g. add_name g s.row) a.held_is;
        title_is = s.title_then ∙ ap (λ t. add_title t s.row) a.title_is;
        uses_at = s.uses_then ∙ marked (front_rows rows) (s.row ∷ rows) s.row seen.uses to a.uses_at (sym there);
        within = s.inside;
      }

  module _ (short : length text ≤ 4096) where
    upto : Upto text rows (drop at text)
    upto = record { short = short; holds = a.holds; good = a.good }

    -- the next record is faulty
    pub refused : (e : TextFault) → at < length text → Faulty seen.stage (held seen) (drop at text) at e → Refused text e
    refused e lt f = leftmost rows (drop at text) upto (λ done empty. omega (arith, ap length empty, length-drop at text)) (subst (λ p. Faulty (stage_after rows) (option_names rows) (drop at text) p e) (sym a.place) (subst₂ (λ t g. Faulty t g (drop at text) at e) a.stage_is a.held_is f))

    -- nothing is left
    module _ (le : length text ≤ at) where
      pub ended : seen.stage ≡ Done → IsCard text rows
      ended done = record {
        short = short;
        holds = a.holds ∙ ap (λ l. spelled rows ++ l) (drop_all at text le) ∙ append-nil (spelled rows);
        good = a.good;
        ended = sym a.stage_is ∙ done;
      }

      pub no_end : (seen.stage ≡ Done → ⊥) → Refused text (Form at)
      no_end open' = leftmost rows (drop at text) upto (λ done empty. open' (a.stage_is ∙ done)) (form (λ row more b fits. past_end text at le row more b) (ap Form (sym a.place)))

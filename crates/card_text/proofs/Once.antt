-- A text begins with one record at most. Assumes nothing.
use Rattle.std.proofs.Common.{◌≡◌, ℕ, ◌≤◌, cond, eqb, List, ◌∷◌, ◌++◌, length, get_or, drop, sym, refl, ap, ◌∙◌, arith, Bor, length-append, length-drop}
use Rattle.std.proofs.lemmas.List.{length-map}
use Rattle.arrayvec.specs.ArrayVec.{array_vec_len}
use Rattle.card_text.specs.declared.records.Found.{Found}
use Rattle.card_text.specs.declared.records.Record.{Record}
use Rattle.card_text.specs.declared.records.Record.TheVariants.{Card, Opt, Use, End}
use Rattle.card_text.specs.declared.state.Seen.{Seen}
use Rattle.card_text.specs.Grammar.{Row, card_row, opt_row, use_row, end_row, spell, Begins}
use Rattle.card_text.specs.Reads.{row_of, Placed, RecordAt}
use Rattle.card_text.specs.State.{held, Near}
use Rattle.card_text.proofs.Lines.{one_line}

-- a line is one record at most: its first byte (C, O or U) tells which, and the fields stand at fixed places
unspell : List ℕ → Row
unspell l = cond (eqb (get_or l 0 0) 67) (card_row (drop 7 l)) (cond (eqb (get_or l 0 0) 79) (opt_row (get_or l 4 0) (drop 6 l)) (cond (eqb (get_or l 0 0) 85) (use_row (drop 4 l)) end_row))

read_back : (r : Row) → unspell (spell r) ≡ r
unfolding unspell
read_back (card_row t) = refl
read_back (opt_row l n) = refl
read_back (use_row f) = refl
read_back end_row = refl

pub spell_one : (r q : Row) → spell r ≡ spell q → r ≡ q
spell_one r q e = sym (read_back r) ∙ ap unspell e ∙ read_back q

pub begins_one : (t : List ℕ) (r q : Row) (m n : List ℕ) → Begins t r m → Begins t q n → (r ≡ q) × (m ≡ n)
begins_one t r q m n b d =
    let same = one_line (spell r) (spell q) m n b.whole d.whole (sym b.line ∙ d.line) in
    (spell_one r q same.0, same.1)

-- as many names are held as there are options
pub held_len : (seen : Seen) → length (held seen) ≡ array_vec_len seen.names
held_len seen = length-map seen.names.items (λ (r : Bor (List ℕ)). r.now)

module _ (text : List ℕ) (at : ℕ) (found : Found) (reads : RecordAt text at found) where
  -- the formula of a record in a short text ends there
  near_at : (x : Record) → drop at text ≡ spell (row_of x) ++ 10 ∷ drop found.to text → Placed at x → length text ≤ 4096 → Near x
  near_at (Card title) e p s = tt
  near_at (Opt letter name) e p s = tt
  near_at (Use formula) e p s = omega (arith, ap length e, length-drop at text, length-append formula.bytes.now (10 ∷ drop found.to text))
  near_at End e p s = tt

  pub near : length text ≤ 4096 → Near found.record
  near s = near_at found.record reads.begins.line reads.places s

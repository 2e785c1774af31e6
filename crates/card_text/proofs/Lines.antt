use Rattle.std.proofs.Common.{◌≡◌, ℕ, ◌+◌, ◌-◌, ◌<◌, ◌≤◌, Bool, true, false, cond, T, eqb, List, [], ◌∷◌, ◌++◌, length, get_or, take, drop, sym, refl, ap, ◌∙◌, append_assoc, arith, length-append, length-drop, take-append-drop}
use Rattle.std.proofs.lemmas.Bool.{eqb-false}
use Rattle.std.proofs.lemmas.List.{drop_more}
use Rattle.card_text.specs.Grammar.{Row, spell, NoFeed, Begins}
use Rattle.card_text.specs.Card.{spelled}
use Rattle.card_text.specs.Reads.{NoRecord}

-- a word that a test shows to have no line feed
abbrev pub free : List ℕ → Bool
free [] = true
free (b ∷ bs) = cond (eqb b 10) false (free bs)

free_parts : (b : ℕ) (bs : List ℕ) (t : Bool) → eqb b 10 ≡ t → T (cond t false (free bs)) → (b ≡ 10 → ⊥) × T (free bs)
free_parts b bs true e h = absurd h
free_parts b bs false e h = (eqb-false b 10 e, h)

pub word_feed : (word : List ℕ) → T (free word) → NoFeed word
word_feed [] h = tt
word_feed (b ∷ bs) h = let p = free_parts b bs (eqb b 10) refl h in (p.0, word_feed bs p.1)

-- a list with a line feed in it
pub feed_inside : (l m : List ℕ) → NoFeed (l ++ 10 ∷ m) → ⊥
feed_inside [] m free = free.0 refl
feed_inside (x ∷ l) m free = feed_inside l m free.1

-- the first line feed parts a text in one way
pub one_line : (l k m n : List ℕ) → NoFeed l → NoFeed k → l ++ 10 ∷ m ≡ k ++ 10 ∷ n → (l ≡ k) × (m ≡ n)
one_line [] [] m n fl fk e = (refl, cc)
one_line [] (y ∷ k) m n fl fk e = let first : y ≡ 10 = cc in absurd (fk.0 first)
one_line (x ∷ l) [] m n fl fk e = let first : x ≡ 10 = cc in absurd (fl.0 first)
one_line (x ∷ l) (y ∷ k) m n fl fk e =
    let head : x ≡ y = cc in
    let tail : l ++ 10 ∷ m ≡ k ++ 10 ∷ n = cc in
    let rest = one_line l k m n fl.1 fk.1 tail in
    let same = rest.0 in
    (cc, rest.1)

-- the newest row behind the others
pub last_line : (rows : List Row) (row : Row) (rest : List ℕ) → spelled (row ∷ rows) ++ rest ≡ spelled rows ++ (spell row ++ 10 ∷ rest)
last_line rows row rest = append_assoc (spelled rows) (spell row ++ 10 ∷ []) rest ∙ ap (λ l. spelled rows ++ l) (append_assoc (spell row) (10 ∷ []) rest)

-- a text cut at a line feed
pub cut_at : (t : List ℕ) (n : ℕ) → n < length t → get_or t n 0 ≡ 10 → t ≡ take n t ++ 10 ∷ drop (n + 1) t
cut_at t n lt feed =
    sym (take-append-drop n t) ∙ ap (λ l. take n t ++ l) (drop_more t n 0 lt ∙ ap (λ b. b ∷ drop (n + 1) t) feed)

-- where a line ends, a record is the line
pub on_line : (t : List ℕ) (n : ℕ) (row : Row) (more : List ℕ) → n < length t → get_or t n 0 ≡ 10 → NoFeed (take n t) → Begins t row more → take n t ≡ spell row
on_line t n row more lt feed free b =
    (one_line (take n t) (spell row) (drop (n + 1) t) more free b.whole (sym (cut_at t n lt feed) ∙ b.line)).0

-- the first line feed of the text stands at n
abbrev pub Ends : List ℕ → ℕ → Type 0
Ends t n = (n < length t) × (get_or t n 0 ≡ 10) × NoFeed (take n t)

-- what `&t[0..n]` holds
abbrev pub line_of : List ℕ → ℕ → List ℕ
line_of t n = take (n - 0) t

line_is : (t : List ℕ) (n : ℕ) → line_of t n ≡ take n t
line_is t n = let zero : n - 0 ≡ n = omega arith in ap (λ k. take k t) zero

pub unread_line : (text : List ℕ) (at : ℕ) (rest : List ℕ) (n : ℕ) → rest ≡ drop at text → Ends rest n → ((row : Row) → line_of rest n ≡ spell row → ⊥) → NoRecord text at
unread_line text at rest n same ends none row more b =
    none row (line_is rest n ∙ on_line rest n row more ends.0 ends.1 ends.2 (record { line = same ∙ b.line; whole = b.whole }))

-- nothing begins at the end of a text, or past it
pub past_end : (text : List ℕ) (at : ℕ) → length text ≤ at → NoRecord text at
past_end text at le row more b = omega (arith, ap length b.line, length-drop at text, length-append (spell row) (10 ∷ more))

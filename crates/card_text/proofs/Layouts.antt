-- Cards are the texts that are written as a card. Assumes nothing.
use Rattle.std.proofs.Common.{◌≡◌, ℕ, ◌+◌, ◌<◌, ◌≤◌, true, false, ◌⊎◌, List, [], ◌∷◌, ◌++◌, length, codes, sym, refl, ap, ◌∙◌, subst, inl, inr, append_assoc, append-nil, arith, length-append}
use Rattle.std.specs.List.{AllByRecursion}
use Rattle.std.proofs.ByRecursion.{All-push, All-weaker, All-append}
use Rattle.std.proofs.lemmas.List.{length_push}
use Rattle.card_text.specs.declared.state.Stage.TheVariants.{Start, Options, Uses}
use Rattle.card_text.specs.Grammar.{Row, card_row, opt_row, use_row, end_row, spell, NoFeed}
use Rattle.card_text.specs.Card.{spelled, option_names, formulas, card_title, stage_of, stage_after, Plain, Within, Fresh, IsFormula, Sound, Good, IsCard}
use Rattle.card_text.specs.Layout.{line, opt_lines, use_lines, Named, Usable, Written, CardsAreWritten, WrittenCard}
use Rattle.card_text.proofs.Formulas.{formula_feed}
use Rattle.card_text.proofs.Lines.{word_feed}
use Rattle.card_text.proofs.Tails.{Among, Opened, Ended, opened, no_formulas}

-- one more at the end of the lines, and of the names
opts_push : (k : ℕ) (ns : List (List ℕ)) (n : List ℕ) (l : ℕ) → l ≡ k + length ns → opt_lines k (ns ++ n ∷ []) ≡ opt_lines k ns ++ line (opt_row l n)
opts_push k [] n l e = let same : k ≡ l = omega arith in append-nil (line (opt_row k n)) ∙ ap (λ x. line (opt_row x n)) same
opts_push k (m ∷ ns) n l e =
    let next : l ≡ k + 1 + length ns = omega arith in
    ap (λ x. line (opt_row k m) ++ x) (opts_push (k + 1) ns n l next) ∙ sym (append_assoc (line (opt_row k m)) (opt_lines (k + 1) ns) (line (opt_row l n)))

uses_push : (fs : List (List ℕ)) (f : List ℕ) → use_lines (fs ++ f ∷ []) ≡ use_lines fs ++ line (use_row f)
uses_push [] f = append-nil (line (use_row f))
uses_push (g ∷ fs) f = ap (λ x. line (use_row g) ++ x) (uses_push fs f) ∙ sym (append_assoc (line (use_row g)) (use_lines fs) (line (use_row f)))

named_push : (earlier ns : List (List ℕ)) (n : List ℕ) → Named earlier ns → Within 1 20 n → Fresh (earlier ++ ns) n → Named earlier (ns ++ n ∷ [])
named_push earlier [] n h w f = (w, subst (λ l. Fresh l n) (append-nil earlier) f, tt)
named_push earlier (m ∷ ns) n h w f = (h.0, h.1, named_push (earlier ++ m ∷ []) ns n h.2 w (subst (λ l. Fresh l n) (sym (append_assoc earlier (m ∷ []) ns)) f))

-- what the records before the first USE spell
abbrev front_lines : List Row → List ℕ
front_lines rows = line (card_row (card_title rows)) ++ opt_lines 97 (option_names rows)

record Fronted (rows : List Row) : Type 0 where
  titled : Within 0 40 (card_title rows)
  few : length (option_names rows) ≤ 12
  named : Named [] (option_names rows)

-- CARD or OPT was read last
abbrev Before : List Row → Type 0
Before rows = Among false true false false (stage_after rows)

begun : (row : Row) → stage_of row ≡ Start → ⊥
begun (card_row t) e = subst (Among false true true true) e tt
begun (opt_row l n) e = subst (Among false true true true) e tt
begun (use_row f) e = subst (Among false true true true) e tt
begun end_row e = subst (Among false true true true) e tt

fronted : (rows : List Row) → Good rows → Before rows → Fronted rows × (spelled rows ≡ front_lines rows)
fronted [] good e = absurd e
fronted (card_row t ∷ []) good e = (record { titled = good.2.ruled; few = omega arith; named = tt }, sym (append-nil (line (card_row t))))
fronted (card_row t ∷ (row ∷ rows)) good e = absurd (begun row good.2.fits)
fronted (opt_row l n ∷ rows) good e =
    let f = fronted rows good.0 (subst (Among false true false false) (sym good.2.fits.0) tt) in
    let ns = option_names rows in
    let last = line (opt_row l n) in (
      record {
        titled = f.0.titled;
        few = omega (arith, length_push ns n, good.2.fits.1);
        named = named_push [] ns n f.0.named good.2.ruled.0 good.2.ruled.1;
      },
      ap (λ x. x ++ last) f.1 ∙ append_assoc (line (card_row (card_title rows))) (opt_lines 97 ns) last ∙ ap (λ x. line (card_row (card_title rows)) ++ x) (sym (opts_push 97 ns n l good.2.fits.2)),
    )
fronted (use_row f ∷ rows) good e = absurd e
fronted (end_row ∷ rows) good e = absurd e

-- what the records before END spell
record Body (rows : List Row) : Type 0 where
  front : Fronted rows
  holds : spelled rows ≡ front_lines rows ++ use_lines (formulas rows)
  meant : AllByRecursion (Usable (length (option_names rows))) (formulas rows)

early_body : (rows : List Row) → Good rows → Before rows → formulas rows ≡ [] → Body rows
early_body rows good e none =
    let f = fronted rows good e in
    record {
      front = f.0;
      holds = f.1 ∙ sym (append-nil (front_lines rows)) ∙ ap (λ x. front_lines rows ++ use_lines x) (sym none);
      meant = subst (AllByRecursion (Usable (length (option_names rows)))) (sym none) tt;
    }

body : (rows : List Row) → Good rows → Opened (stage_after rows) → Body rows
body [] good e = absurd e
body (card_row t ∷ rows) good e = early_body (card_row t ∷ rows) good tt (no_formulas (card_row t ∷ rows) good tt)
body (opt_row l n ∷ rows) good e = early_body (opt_row l n ∷ rows) good tt (no_formulas (opt_row l n ∷ rows) good tt)
body (use_row f ∷ rows) good e =
    let b = body rows good.0 (opened (stage_after rows) good.2.fits) in
    record {
      front = record { titled = b.front.titled; few = b.front.few; named = b.front.named };
      holds = ap (λ x. x ++ line (use_row f)) b.holds ∙ append_assoc (front_lines rows) (use_lines (formulas rows)) (line (use_row f)) ∙ ap (λ x. front_lines rows ++ x) (sym (uses_push (formulas rows) f));
      meant = All-push (Usable (length (option_names rows))) (formulas rows) f b.meant (record { reads = good.2.meant.0; given = good.2.meant.1 });
    }
body (end_row ∷ rows) good e = absurd e

some_use : (rows : List Row) → Among false false true false (stage_after rows) → 0 < length (formulas rows)
some_use [] e = absurd e
some_use (card_row t ∷ rows) e = absurd e
some_use (opt_row l n ∷ rows) e = absurd e
some_use (use_row f ∷ rows) e = omega (arith, length_push (formulas rows) f)
some_use (end_row ∷ rows) e = absurd e

-- the four parts of a text, grouped to the right
regroup : (a b c d : List ℕ) → ((a ++ b) ++ c) ++ d ≡ a ++ (b ++ (c ++ d))
regroup a b c d = append_assoc (a ++ b) c d ∙ append_assoc a b (c ++ d)

is_written : (text : List ℕ) (rows : List Row) → length text ≤ 4096 → text ≡ spelled rows → Good rows → Ended (stage_after rows) → Written text (card_title rows) (option_names rows) (formulas rows)
is_written text [] short e good done = absurd done
is_written text (card_row t ∷ rows) short e good done = absurd done
is_written text (opt_row l n ∷ rows) short e good done = absurd done
is_written text (use_row f ∷ rows) short e good done = absurd done
is_written text (end_row ∷ rows) short e good done =
    let b = body rows good.0 (opened (stage_after rows) (inr good.2.fits)) in
    record {
      short = short;
      holds = e ∙ ap (λ x. x ++ line end_row) b.holds ∙ regroup (line (card_row (card_title rows))) (opt_lines 97 (option_names rows)) (use_lines (formulas rows)) (line end_row);
      titled = b.front.titled;
      few = b.front.few;
      named = b.front.named;
      some = some_use rows (subst (Among false false true false) (sym good.2.fits) tt);
      meant = b.meant;
    }

pub card_written : CardsAreWritten
card_written text rows c = is_written text rows c.short c.holds c.good (subst Ended (sym c.ended) tt)

-- every formula of a card is one, and no longer than the text
lines_long : (fs : List (List ℕ)) → AllByRecursion (λ f. length f ≤ length (use_lines fs)) fs
lines_long [] = tt
lines_long (f ∷ fs) =
    let whole = length-append (line (use_row f)) (use_lines fs) in
    let first = length-append f (10 ∷ []) in
    (omega (arith, whole, first), All-weaker (λ g. length g ≤ length (use_lines fs)) (λ g. length g ≤ length (use_lines (f ∷ fs))) (λ g le. omega (arith, whole, le)) fs (lines_long fs))

all_both : {X : Type 0} (P Q : X → Type 0) (xs : List X) → AllByRecursion P xs → AllByRecursion Q xs → AllByRecursion (λ x. P x × Q x) xs
all_both P Q [] p q = tt
all_both P Q (x ∷ xs) p q = ((p.0, q.0), all_both P Q xs p.1 q.1)

pub formulas_read : (text : List ℕ) (rows : List Row) → IsCard text rows → AllByRecursion (λ f. IsFormula f × (length f ≤ 4096)) (formulas rows)
formulas_read text rows c =
    let w = card_written text rows c in
    let fs = formulas rows in
    let ls = opt_lines 97 (option_names rows) in
    let tail = length-append (use_lines fs) (line end_row) in
    let middle = length-append ls (use_lines fs ++ line end_row) in
    let all = length-append (line (card_row (card_title rows))) (ls ++ (use_lines fs ++ line end_row)) in
    let short : length (use_lines fs) ≤ 4096 = omega (arith, w.short, ap length w.holds, tail, middle, all) in
    all_both IsFormula (λ f. length f ≤ 4096) fs (All-weaker (Usable (length (option_names rows))) IsFormula (λ f u. u.reads) fs w.meant) (All-weaker (λ f. length f ≤ length (use_lines fs)) (λ f. length f ≤ 4096) (λ f le. omega (arith, le, short)) fs (lines_long fs))

-- the other way: rows for what is written
plain_feed : (l : List ℕ) → AllByRecursion Plain l → NoFeed l
plain_feed l h = All-weaker Plain (λ b. b ≡ 10 → ⊥) (λ b p e. omega (arith, p.low)) l h

record Opted (rows : List Row) (ns : List (List ℕ)) : Type 0 where
  out : List Row
  good : Good out
  at : stage_after out ≡ Options
  holds : spelled out ≡ spelled rows ++ opt_lines (97 + length (option_names rows)) ns
  titled : card_title out ≡ card_title rows
  named : option_names out ≡ option_names rows ++ ns
  used : formulas out ≡ formulas rows

opted : (ns : List (List ℕ)) (rows : List Row) → Good rows → stage_after rows ≡ Options → Named (option_names rows) ns → length (option_names rows) + length ns ≤ 12 → Opted rows ns
opted [] rows good at named few = record {
  out = rows;
  good = good;
  at = at;
  holds = sym (append-nil (spelled rows));
  titled = refl;
  named = sym (append-nil (option_names rows));
  used = refl;
}
opted (n ∷ ns) rows good at named few =
    let k = length (option_names rows) in
    let row = opt_row (97 + k) n in
    let feed : NoFeed (spell row) = All-append _ (codes "OPT,") ((97 + k) ∷ 44 ∷ n) (word_feed (codes "OPT,") tt) (λ e. omega arith, (λ e. omega arith, plain_feed n named.0.plain)) in
    let sound : Sound (stage_after rows) (option_names rows) row = record { fits = (at, omega arith, refl); ruled = (named.0, named.1); meant = tt } in
    let o = opted ns (row ∷ rows) (good, feed, sound) refl named.2 (omega (arith, length_push (option_names rows) n)) in
    let next : 97 + length (option_names rows ++ n ∷ []) ≡ 97 + k + 1 = omega (arith, length_push (option_names rows) n) in
    record {
      out = o.out;
      good = o.good;
      at = o.at;
      holds = o.holds ∙ append_assoc (spelled rows) (line row) (opt_lines (97 + length (option_names rows ++ n ∷ [])) ns) ∙ ap (λ x. spelled rows ++ (line row ++ opt_lines x ns)) next;
      titled = o.titled;
      named = o.named ∙ append_assoc (option_names rows) (n ∷ []) ns;
      used = o.used;
    }

record Used (rows : List Row) (fs : List (List ℕ)) : Type 0 where
  out : List Row
  good : Good out
  at : stage_after out ≡ Uses
  holds : spelled out ≡ spelled rows ++ use_lines fs
  titled : card_title out ≡ card_title rows
  named : option_names out ≡ option_names rows
  used : formulas out ≡ formulas rows ++ fs

used : (fs : List (List ℕ)) (rows : List Row) → Good rows → (stage_after rows ≡ Options) ⊎ (stage_after rows ≡ Uses) → (stage_after rows ≡ Uses) ⊎ (0 < length fs) → AllByRecursion (Usable (length (option_names rows))) fs → Used rows fs
used [] rows good at (inl e) meant = record {
  out = rows;
  good = good;
  at = e;
  holds = sym (append-nil (spelled rows));
  titled = refl;
  named = refl;
  used = sym (append-nil (formulas rows));
}
used [] rows good at (inr e) meant = absurd (omega arith)
used (f ∷ fs) rows good at late meant =
    let row = use_row f in
    let reads = meant.0.reads in
    let feed : NoFeed (spell row) = All-append _ (codes "USE,") f (word_feed (codes "USE,") tt) (formula_feed reads.derived) in
    let sound : Sound (stage_after rows) (option_names rows) row = record { fits = at; ruled = tt; meant = (reads, meant.0.given) } in
    let o = used fs (row ∷ rows) (good, feed, sound) (inr refl) (inl refl) meant.1 in
    record {
      out = o.out;
      good = o.good;
      at = o.at;
      holds = o.holds ∙ append_assoc (spelled rows) (line row) (use_lines fs);
      titled = o.titled;
      named = o.named;
      used = o.used ∙ append_assoc (formulas rows) (f ∷ []) fs;
    }

pub written_card : WrittenCard
written_card text title names fs w =
    let first = card_row title in
    let feed : NoFeed (spell first) = All-append _ (codes "CARD,1,") title (word_feed (codes "CARD,1,") tt) (plain_feed title w.titled.plain) in
    let sound : Sound Start [] first = record { fits = refl; ruled = w.titled; meant = tt } in
    let o = opted names (first ∷ []) (tt, feed, sound) refl w.named (omega (arith, w.few)) in
    let u = used fs o.out o.good (inl o.at) (inr w.some) (subst (λ l. AllByRecursion (Usable (length l)) fs) (sym o.named) w.meant) in
    let last : Sound (stage_after u.out) (option_names u.out) end_row = record { fits = u.at; ruled = tt; meant = tt } in
    let front : spelled u.out ≡ (line first ++ opt_lines 97 names) ++ use_lines fs = u.holds ∙ ap (λ x. x ++ use_lines fs) o.holds in (
      end_row ∷ u.out,
      record {
        short = w.short;
        holds = w.holds ∙ sym (ap (λ x. x ++ line end_row) front ∙ regroup (line first) (opt_lines 97 names) (use_lines fs) (line end_row));
        good = (u.good, word_feed (codes "END") tt, last);
        ended = refl;
      },
      u.titled ∙ o.titled,
      u.named ∙ o.named,
      u.used ∙ ap (λ x. x ++ fs) o.used,
    )

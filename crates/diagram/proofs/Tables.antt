-- Lookups in a sequence of nodes. Assumes nothing.
use Rattle.std.proofs.Common.{◌≡◌, ℕ, ◌+◌, ◌<◌, ◌≤◌, true, false, cond, eqb, List, [], ◌∷◌, ◌++◌, length, sym, refl, ap, ◌∙◌, subst, inl, inr, arith, length-append}
use Rattle.std.proofs.lemmas.Bool.Decides.{eqb_tells}
use Rattle.std.proofs.lemmas.Bool.{ne_eqb, eq-eqb, cases_eq}
use Rattle.diagram.specs.declared.Node.{Node}
use Rattle.diagram.specs.Functions.{Fun, choice, Ignores}
use Rattle.diagram.specs.Nodes.{Issued, meaning, level_of, node_at, At, Fit, WellFormed, Split}
use Rattle.diagram.specs.Theorems.{LevelsOnly}
use Rattle.diagram.proofs.Settings.{choice_same}
use Rattle.diagram.proofs.Restrictions.{Sides}

-- What a node means, by what its children mean.
abbrev pub node_function : List Node → Node → Fun
node_function ns n = choice n.level (meaning ns n.low) (meaning ns n.high)

-- The constants.
pub level_constant : (ns : List Node) (h : ℕ) → h < 2 → level_of ns h ≡ 25
unfolding level_of
level_constant [] h p = refl
level_constant (n ∷ ns) h p = rw (ne_eqb h (length ns + 2) (omega arith)) (level_constant ns h p)

pub meaning_constant : (ns : List Node) (h : ℕ) → h < 2 → meaning ns h ≡ (λ _. eqb h 1)
unfolding meaning
meaning_constant [] h p = refl
meaning_constant (n ∷ ns) h p = rw (ne_eqb h (length ns + 2) (omega arith)) (meaning_constant ns h p)

-- What older handles are is not changed by nodes above them.
pub issued_more : (more ns : List Node) (h : ℕ) → Issued ns h → Issued (more ++ ns) h
issued_more more ns h p = omega (arith, length-append more ns)

pub meaning_more : (more ns : List Node) (h : ℕ) → Issued ns h → meaning (more ++ ns) h ≡ meaning ns h
unfolding meaning
meaning_more [] ns h p = refl
meaning_more (n ∷ more) ns h p = rw (ne_eqb h (length (more ++ ns) + 2) (omega (arith, length-append more ns))) (meaning_more more ns h p)

pub level_more : (more ns : List Node) (h : ℕ) → Issued ns h → level_of (more ++ ns) h ≡ level_of ns h
unfolding level_of
level_more [] ns h p = refl
level_more (n ∷ more) ns h p = rw (ne_eqb h (length (more ++ ns) + 2) (omega (arith, length-append more ns))) (level_more more ns h p)

pub node_more : (more ns : List Node) (h : ℕ) → Issued ns h → node_at (more ++ ns) h ≡ node_at ns h
unfolding node_at
node_more [] ns h p = refl
node_more (n ∷ more) ns h p = rw (ne_eqb h (length (more ++ ns) + 2) (omega (arith, length-append more ns))) (node_more more ns h p)

pub fit_more : (more ns : List Node) (n : Node) → Fit ns n → Fit (more ++ ns) n
fit_more more ns n f = record {
  first = f.first;
  last = f.last;
  differ = f.differ;
  low_issued = issued_more more ns n.low f.low_issued;
  high_issued = issued_more more ns n.high f.high_issued;
  low_deeper = rw (level_more more ns n.low f.low_issued) f.low_deeper;
  high_deeper = rw (level_more more ns n.high f.high_issued) f.high_deeper;
}

pub at_more : (more ns : List Node) (h : ℕ) (n : Node) → At ns h n → At (more ++ ns) h n
at_more more ns h n a = record { issued = issued_more more ns h a.issued; two = a.two; is = node_more more ns h a.issued ∙ a.is }

-- The newest node, and those that are not the newest.
pub newest_meaning : (m : Node) (ns : List Node) (h : ℕ) → h ≡ length ns + 2 → meaning (m ∷ ns) h ≡ node_function ns m
unfolding meaning
newest_meaning m ns h e = rw (eq-eqb h (length ns + 2) e)

pub newest_level : (m : Node) (ns : List Node) (h : ℕ) → h ≡ length ns + 2 → level_of (m ∷ ns) h ≡ m.level
unfolding level_of
newest_level m ns h e = rw (eq-eqb h (length ns + 2) e)

pub newest_node : (m : Node) (ns : List Node) (h : ℕ) → h ≡ length ns + 2 → node_at (m ∷ ns) h ≡ m
unfolding node_at
newest_node m ns h e = rw (eq-eqb h (length ns + 2) e)

pub newest_is : (m : Node) (ns : List Node) (h : ℕ) (n : Node) → h ≡ length ns + 2 → At (m ∷ ns) h n → m ≡ n
newest_is m ns h n e a = sym (newest_node m ns h e) ∙ a.is

pub older : (m : Node) (ns : List Node) (h : ℕ) (n : Node) → (h ≡ length ns + 2 → ⊥) → At (m ∷ ns) h n → At ns h n
older m ns h n ne a =
    let i : Issued ns h = omega (arith, ne, a.issued) in
    record { issued = i; two = a.two; is = sym (node_more (m ∷ []) ns h i) ∙ a.is }

-- What a handle's node says of it.
pub has_node : (ns : List Node) (h : ℕ) → 2 ≤ h → Issued ns h → At ns h (node_at ns h)
has_node ns h p q = record { issued = q; two = p; is = refl }

pub fit_at : (ns : List Node) (h : ℕ) (n : Node) → WellFormed ns → At ns h n → Fit ns n
fit_at [] h n w a = absurd (omega (arith, a.issued, a.two))
fit_at (m ∷ ns) h n w a =
    elim (cases_eq h (length ns + 2)) [
      | inl e ↦ subst (Fit (m ∷ ns)) (newest_is m ns h n e a) (fit_more (m ∷ []) ns m w.0)
      | inr e ↦ fit_more (m ∷ []) ns n (fit_at ns h n w.2 (older m ns h n e a))
    ]

pub level_at : (ns : List Node) (h : ℕ) (n : Node) → At ns h n → level_of ns h ≡ n.level
level_at [] h n a = absurd (omega (arith, a.issued, a.two))
level_at (m ∷ ns) h n a =
    elim (cases_eq h (length ns + 2)) [
      | inl e ↦ newest_level m ns h e ∙ ap (λ x. x.level) (newest_is m ns h n e a)
      | inr e ↦ let b = older m ns h n e a in level_more (m ∷ []) ns h b.issued ∙ level_at ns h n b
    ]

pub meaning_at : (ns : List Node) (h : ℕ) (n : Node) → WellFormed ns → At ns h n → meaning ns h ≡ node_function ns n
meaning_at [] h n w a = absurd (omega (arith, a.issued, a.two))
meaning_at (m ∷ ns) h n w a =
    elim (cases_eq h (length ns + 2)) [
      | inl e ↦ subst Holds (newest_is m ns h n e a) (newest_meaning m ns h e ∙ sym (sides m w.0))
      | inr e ↦ let b = older m ns h n e a in meaning_more (m ∷ []) ns h b.issued ∙ meaning_at ns h n w.2 b ∙ sym (sides n (fit_at ns h n w.2 b))
    ]
  where
    Holds : Node → Type 0
    Holds x = meaning (m ∷ ns) h ≡ node_function (m ∷ ns) x

    sides : (x : Node) → Fit ns x → node_function (m ∷ ns) x ≡ node_function ns x
    sides x f = rw (meaning_more (m ∷ []) ns x.low f.low_issued, meaning_more (m ∷ []) ns x.high f.high_issued) refl

pub split_at : (ns : List Node) (h : ℕ) (n : Node) → WellFormed ns → At ns h n → Split ns n.level h n.low n.high
split_at ns h n w a =
    let f = fit_at ns h n w a in
    record { lo_issued = f.low_issued; hi_issued = f.high_issued; lo_deeper = f.low_deeper; hi_deeper = f.high_deeper; value = meaning_at ns h n w a }

pub split_none : (ns : List Node) (l h : ℕ) → Issued ns h → l < level_of ns h → Split ns l h h h
split_none ns l h p q = record { lo_issued = p; hi_issued = p; lo_deeper = q; hi_deeper = q; value = choice_same l (meaning ns h) }

-- Levels are 1 to 25, and those of nodes are below 25.
pub level_node : (ns : List Node) (h : ℕ) → WellFormed ns → 2 ≤ h → Issued ns h → level_of ns h < 25
level_node ns h w p q = let a = has_node ns h p q in omega (arith, level_at ns h _ a, (fit_at ns h _ w a).last)

pub level_most : (ns : List Node) (h : ℕ) → WellFormed ns → level_of ns h ≤ 25
unfolding level_of
level_most [] h w = omega arith
level_most (m ∷ ns) h w =
    elim (eqb_tells h (length ns + 2)) [
      | inl e ↦ rw e.0 (omega (arith, w.0.last))
      | inr e ↦ rw e.0 (level_most ns h w.2)
    ]

pub level_least : (ns : List Node) (h : ℕ) → WellFormed ns → 1 ≤ level_of ns h
unfolding level_of
level_least [] h w = omega arith
level_least (m ∷ ns) h w =
    elim (eqb_tells h (length ns + 2)) [
      | inl e ↦ rw e.0 w.0.first
      | inr e ↦ rw e.0 (level_least ns h w.2)
    ]

-- A handle's meaning ignores the variables above its level.
pub ignores : (ns : List Node) (h l : ℕ) → WellFormed ns → Issued ns h → l < level_of ns h → Ignores l (meaning ns h)
unfolding meaning level_of
ignores [] h l w p q s t a = refl
ignores (m ∷ ns) h l w p q s t a =
    elim (eqb_tells h (length ns + 2)) [
      | inl e ↦
          let f = w.0 in
          let above : l < m.level = rw e.0 at q in
          let x = ignores ns m.low l w.2 f.low_issued (omega (arith, f.low_deeper)) s t a in
          let y = ignores ns m.high l w.2 f.high_issued (omega (arith, f.high_deeper)) s t a in
          rw (e.0, x, y, a m.level above) refl
      | inr e ↦
          let q' : l < level_of ns h = rw e.0 at q in
          rw e.0 (ignores ns h l w.2 (omega (arith, e.1)) q' s t a)
    ]

-- The function of a node that fits, by its two sides.
pub fit_sides : (ns : List Node) (n : Node) → WellFormed ns → Fit ns n → Sides n.level (node_function ns n) (meaning ns n.low) (meaning ns n.high)
fit_sides ns n w f = record {
  is = refl;
  low = ignores ns n.low n.level w f.low_issued f.low_deeper;
  high = ignores ns n.high n.level w f.high_issued f.high_deeper;
  first = f.first;
  last = f.last;
}

pub split_sides : (ns : List Node) (l h lo hi : ℕ) → WellFormed ns → 1 ≤ l → l ≤ 24 → Split ns l h lo hi → Sides l (meaning ns h) (meaning ns lo) (meaning ns hi)
split_sides ns l h lo hi w p q r = record {
  is = r.value;
  low = ignores ns lo l w r.lo_issued r.lo_deeper;
  high = ignores ns hi l w r.hi_issued r.hi_deeper;
  first = p;
  last = q;
}

-- What a handle means depends on the variables at levels 1 to 24 alone.
pub levels_only : LevelsOnly
unfolding meaning
levels_only [] w h s t e = refl
levels_only (n ∷ ns) w h s t e =
    let f = w.0 in
    let low = levels_only ns w.2 n.low s t e in
    let high = levels_only ns w.2 n.high s t e in
    let here : choice n.level (meaning ns n.low) (meaning ns n.high) s ≡ choice n.level (meaning ns n.low) (meaning ns n.high) t =
    (λ i. cond (e n.level f.first f.last i) (high i) (low i)) in
    elim (eqb h (length ns + 2)) as (λ b. cond b (choice n.level (meaning ns n.low) (meaning ns n.high)) (meaning ns h) s ≡ cond b (choice n.level (meaning ns n.low) (meaning ns n.high)) (meaning ns h) t) [ true ↦ here | false ↦ levels_only ns w.2 h s t e ]

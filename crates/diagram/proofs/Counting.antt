-- Counts of distinct functions. Assumes nothing.
use Rattle.std.proofs.Common.{◌≡◌, ℕ, zero, suc, ◌+◌, ◌-◌, ◌≤◌, ◌⊎◌, ◌↔◌, List, [], ◌∷◌, length, drop, sym, refl, ap, ◌∙◌, subst, inl, inr, arith, length-drop}
use Rattle.std.proofs.lemmas.Bool.{cases_eq}
use Rattle.diagram.specs.declared.Node.{Node}
use Rattle.diagram.specs.Functions.{Fun, Constant}
use Rattle.diagram.specs.Nodes.{Issued, meaning, WellFormed}
use Rattle.diagram.specs.Counts.{Held, Among, Distinct, Count, AtLeast}
use Rattle.diagram.specs.Theorems.{HeldCounted}
use Rattle.diagram.proofs.Tables.{meaning_more}
use Rattle.diagram.proofs.Canon.{canonical, varies_at}

-- A list without one place of a function.
without : (g : Fun) (fs : List Fun) → Among g fs → List Fun
without g [] a = []
without g (f ∷ fs) (inl e) = fs
without g (f ∷ fs) (inr a) = f ∷ without g fs a

without_length : (g : Fun) (fs : List Fun) (a : Among g fs) → length fs ≡ suc (length (without g fs a))
unfolding without
without_length g [] a = absurd a
without_length g (f ∷ fs) (inl e) = refl
without_length g (f ∷ fs) (inr a) = ap suc (without_length g fs a)

among_without : (g : Fun) (fs : List Fun) (a : Among g fs) (h : Fun) → Among h fs → ¬ (g ≡ h) → Among h (without g fs a)
unfolding without
among_without g [] a h b ne = b
among_without g (f ∷ fs) (inl e) h (inl d) ne = absurd (ne (sym e ∙ d))
among_without g (f ∷ fs) (inl e) h (inr b) ne = b
among_without g (f ∷ fs) (inr a) h (inl d) ne = inl d
among_without g (f ∷ fs) (inr a) h (inr b) ne = inr (among_without g fs a h b ne)

-- Distinct functions are no more than those of a list that has them all.
pub pigeonhole : (fs gs : List Fun) → Distinct fs → ((h : Fun) → Among h fs → Among h gs) → length fs ≤ length gs
pigeonhole [] gs d into = omega arith
pigeonhole (f ∷ fs) gs d into =
    let a : Among f gs = into f (inl refl) in
    let le = pigeonhole fs (without f gs a) d.1 (λ h m. among_without f gs a h (into h (inr m)) (λ e. d.0 (subst (λ x. Among x fs) (sym e) m))) in
    omega (arith, without_length f gs a, le)

-- The last functions of a list.
distinct_drop : (k : ℕ) (fs : List Fun) → Distinct fs → Distinct (drop k fs)
distinct_drop zero fs d = d
distinct_drop (suc k) [] d = tt
distinct_drop (suc k) (f ∷ fs) d = distinct_drop k fs d.1

among_drop : (k : ℕ) (fs : List Fun) (g : Fun) → Among g (drop k fs) → Among g fs
among_drop zero fs g a = a
among_drop (suc k) [] g a = a
among_drop (suc k) (f ∷ fs) g a = inr (among_drop k fs g a)

-- What the nodes of a sequence mean, newest first.
pub functions : List Node → List Fun
functions [] = []
functions (n ∷ ns) = meaning (n ∷ ns) (length ns + 2) ∷ functions ns

pub functions_length : (ns : List Node) → length (functions ns) ≡ length ns
unfolding functions
functions_length [] = refl
functions_length (n ∷ ns) = ap suc (functions_length ns)

pub held_among : (ns : List Node) (g : Fun) → Held ns g → Among g (functions ns)
unfolding functions
held_among [] g h = absurd (omega (arith, h.two, h.issued))
held_among (n ∷ ns) g h =
    elim (cases_eq h.at (length ns + 2)) [
      | inl e ↦ inl (ap (meaning (n ∷ ns)) (sym e) ∙ h.is)
      | inr e ↦
          let i : Issued ns h.at = omega (arith, e, h.issued) in
          inr (held_among ns g (record { at = h.at; two = h.two; issued = i; is = sym (meaning_more (n ∷ []) ns h.at i) ∙ h.is }))
    ]

pub among_held : (ns : List Node) (g : Fun) → Among g (functions ns) → Held ns g
unfolding functions
among_held [] g a = absurd a
among_held (n ∷ ns) g (inl e) = record { at = length ns + 2; two = omega arith; issued = omega arith; is = e }
among_held (n ∷ ns) g (inr a) =
    let h = among_held ns g a in
    record { at = h.at; two = h.two; issued = omega (arith, h.issued); is = meaning_more (n ∷ []) ns h.at h.issued ∙ h.is }

pub functions_distinct : (ns : List Node) → WellFormed ns → Distinct (functions ns)
unfolding functions
functions_distinct [] w = tt
functions_distinct (n ∷ ns) w = (λ a. clash (among_held ns _ a), functions_distinct ns w.2)
  where
    clash : ¬ Held ns (meaning (n ∷ ns) (length ns + 2))
    clash h = omega (arith, h.issued, canonical (n ∷ ns) w h.at (length ns + 2) (omega (arith, h.issued)) (omega arith) (meaning_more (n ∷ []) ns h.at h.issued ∙ h.is))

pub held_counted : HeldCounted
held_counted ns w = record { functions = functions ns; count = functions_length ns; distinct = functions_distinct ns w; each = λ g. (held_among ns g, among_held ns g) }

-- What is held is not constant.
pub held_varies : (ns : List Node) (g : Fun) → WellFormed ns → Held ns g → ¬ Constant g
held_varies ns g w h = subst (λ (f : Fun). ¬ Constant f) h.is (varies_at ns w h.at h.two h.issued)

-- A count says how many functions there are at least.
pub count_decides : {P : Fun → Type 0} (m n : ℕ) (ns : List Node) → WellFormed ns → ((g : Fun) → P g → ¬ Constant g) → Count (λ g. Held ns g ⊎ P g) n → AtLeast m ns P ↔ (m ≤ n)
count_decides {P} m n ns w v c = (to, from)
  where
    to : AtLeast m ns P → m ≤ n
    to a = omega (arith, pigeonhole a.functions c.functions a.distinct (λ g x. (c.each g).0 (a.each g x).1), a.count, c.count)

    varies : (g : Fun) → Held ns g ⊎ P g → ¬ Constant g
    varies g (inl h) = held_varies ns g w h
    varies g (inr p) = v g p

    from : m ≤ n → AtLeast m ns P
    from le = record {
      functions = drop (n - m) c.functions;
      count = omega (arith, length-drop (n - m) c.functions, c.count, le);
      distinct = distinct_drop (n - m) c.functions c.distinct;
      each = λ g a. let x = (c.each g).1 (among_drop (n - m) c.functions g a) in (varies g x, x);
    }

-- Only functions that are not constant are counted, so a larger set need have only these.
pub at_least_varying : {P Q : Fun → Type 0} {n : ℕ} {ns : List Node} → ((g : Fun) → P g → ¬ Constant g → Q g) → AtLeast n ns P → AtLeast n ns Q
at_least_varying {P} {Q} {n} {ns} up a = record { functions = a.functions; count = a.count; distinct = a.distinct; each = λ g x. ((a.each g x).0, either g (a.each g x).0 (a.each g x).1) }
  where
    either : (g : Fun) → ¬ Constant g → Held ns g ⊎ P g → Held ns g ⊎ Q g
    either g v (inl h) = inl h
    either g v (inr p) = inr (up g p v)

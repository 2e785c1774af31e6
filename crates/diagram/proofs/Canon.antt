-- Two handles of a well-formed sequence that mean one function are one. Assumes nothing.
use Rattle.std.proofs.Common.{◌≡◌, ℕ, ◌+◌, ◌≤◌, false, List, [], ◌∷◌, length, sym, ap, ◌∙◌, subst, inl, inr, arith}
use mathlib.Core.Path.{fun_ext}
use Rattle.std.proofs.lemmas.Bool.Decides.{nat_tests}
use Rattle.std.proofs.lemmas.Bool.{cases_lt, cases_eq, cases_order}
use Rattle.diagram.specs.declared.Node.{Node}
use Rattle.diagram.specs.Functions.{Fun, choice, Ignores, Constant}
use Rattle.diagram.specs.Nodes.{Issued, meaning, node_at, At, Fit, WellFormed}
use Rattle.diagram.specs.Theorems.{Canonical}
use Rattle.diagram.proofs.Settings.{choice_same, choice_ignores, low_parts, high_parts}
use Rattle.diagram.proofs.Tables.{node_function, ignores, level_constant, meaning_constant, fit_at, meaning_at, meaning_more, newest_meaning, has_node, fit_sides}

-- Handles that mean one function are one number.
abbrev pub Canon : List Node → Type 0
Canon ns = (h k : ℕ) → Issued ns h → Issued ns k → meaning ns h ≡ meaning ns k → h ≡ k

abbrev pub node_path : (m n : Node) → m.level ≡ n.level → m.low ≡ n.low → m.high ≡ n.high → m ≡ n
node_path m n p q r = λ i. record { level = p i; low = q i; high = r i }

module _ (ns : List Node) (w : WellFormed ns) (canon : Canon ns) where
  -- A function that ignores a node's variable is not that node's.
  not_ignored : (n : Node) → Fit ns n → (v : Fun) → Ignores n.level v → ¬ (node_function ns n ≡ v)
  not_ignored n f v i e =
      let d = fit_sides ns n w f in
      let e' = e ∙ choice_same n.level v in
      f.differ (canon _ _ f.low_issued f.high_issued (low_parts _ _ _ _ _ e' d.low i ∙ sym (high_parts _ _ _ _ _ e' d.high i)))

  -- Nodes of one function and one level are equal.
  same_level : (m n : Node) → Fit ns m → Fit ns n → m.level ≡ n.level → node_function ns m ≡ node_function ns n → m ≡ n
  same_level m n f g y e =
      let e' = e ∙ ap (λ l. choice l (meaning ns n.low) (meaning ns n.high)) (sym y) in
      let d = fit_sides ns m w f in
      let c = fit_sides ns n w g in
      node_path m n y
      (canon _ _ f.low_issued g.low_issued (low_parts _ _ _ _ _ e' d.low (subst (λ l. Ignores l (meaning ns n.low)) (sym y) c.low)))
      (canon _ _ f.high_issued g.high_issued (high_parts _ _ _ _ _ e' d.high (subst (λ l. Ignores l (meaning ns n.high)) (sym y) c.high)))

  same_node : (m n : Node) → Fit ns m → Fit ns n → node_function ns m ≡ node_function ns n → m ≡ n
  same_node m n f g e =
      let d = fit_sides ns m w f in
      let c = fit_sides ns n w g in
      elim (cases_order m.level n.level) [
        | inl y ↦ same_level m n f g y e
        | inr z ↦
            elim z [
              | inl y ↦ absurd (not_ignored m f _ (choice_ignores n.level m.level _ _ y c.low c.high) e)
              | inr y ↦ absurd (not_ignored n g _ (choice_ignores m.level n.level _ _ y d.low d.high) (sym e))
            ]
      ]

  -- The handle that means the function of a node that fits is that node's.
  pub entered_at : (m : Node) → Fit ns m → (k : ℕ) → Issued ns k → node_function ns m ≡ meaning ns k → At ns k m
  entered_at m f k p e =
      elim (cases_lt k 2) [
        | inl z ↦ absurd (not_ignored m f _ (ignores ns k m.level w p (omega (arith, level_constant ns k z, f.last))) e)
        | inr z ↦
            let a = has_node ns k z p in
            subst (At ns k) (sym (same_node m (node_at ns k) f (fit_at ns k _ w a) (e ∙ meaning_at ns k _ w a))) a
      ]

pub canonical : (ns : List Node) → WellFormed ns → Canon ns
unfolding meaning
canonical [] w h k p q e = let x = ap (λ (f : Fun). f (λ _. false)) e in grind (arith, nat_tests, x)
canonical (m ∷ ns) w h k p q e =
    elim (cases_eq h (length ns + 2)) [
      | inl x ↦
          elim (cases_eq k (length ns + 2)) [
            | inl y ↦ x ∙ sym y
            | inr y ↦ absurd (new_or_old w h k x (omega (arith, y)) (canonical ns w.2) e)
          ]
      | inr x ↦
          let p' : Issued ns h = omega (arith, x) in
          elim (cases_eq k (length ns + 2)) [
            | inl y ↦ absurd (new_or_old w k h y p' (canonical ns w.2) (sym e))
            | inr y ↦
                let q' : Issued ns k = omega (arith, y) in
                canonical ns w.2 h k p' q' (sym (meaning_more (m ∷ []) ns h p') ∙ e ∙ meaning_more (m ∷ []) ns k q')
          ]
    ]
  where
    new_or_old : WellFormed (m ∷ ns) → (h k : ℕ) → h ≡ length ns + 2 → Issued ns k → Canon ns → ¬ (meaning (m ∷ ns) h ≡ meaning (m ∷ ns) k)
    new_or_old w h k x q canon e = w.1 k (entered_at ns w.2 canon m w.0 k q (sym (newest_meaning m ns h x) ∙ e ∙ meaning_more (m ∷ []) ns k q))

pub handles_canonical : Canonical
handles_canonical ns w h k p q = (λ e s. ap (λ x. meaning ns x s) e, λ a. canonical ns w h k p q (fun_ext a))

-- A handle from 2 up is not constant.
pub varies_at : (ns : List Node) → WellFormed ns → (k : ℕ) → 2 ≤ k → Issued ns k → ¬ Constant (meaning ns k)
varies_at ns w k p q (inl a) = omega (arith, canonical ns w k 0 q (omega arith) (fun_ext a ∙ sym (meaning_constant ns 0 (omega arith))))
varies_at ns w k p q (inr a) = omega (arith, canonical ns w k 1 q (omega arith) (fun_ext a ∙ sym (meaning_constant ns 1 (omega arith))))

-- A handle of a function that is not constant is from 2 up.
pub two_at : (ns : List Node) (k : ℕ) → ¬ Constant (meaning ns k) → 2 ≤ k
two_at ns k v =
    elim (cases_lt k 2) [
      | inr z ↦ z
      | inl z ↦
          elim (cases_eq k 0) [
            | inl y ↦ absurd (v (inl (λ s. ap (λ (f : Fun). f s) (ap (meaning ns) y ∙ meaning_constant ns 0 (omega arith)))))
            | inr y ↦ let one : k ≡ 1 = omega (arith, y, z) in absurd (v (inr (λ s. ap (λ (f : Fun). f s) (ap (meaning ns) one ∙ meaning_constant ns 1 (omega arith)))))
          ]
    ]

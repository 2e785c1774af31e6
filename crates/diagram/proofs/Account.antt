-- Outcomes of calls that make one function, composed over its two sides. Assumes nothing.
use Rattle.std.proofs.Common.{◌≡◌, ℕ, ◌+◌, ◌≤◌, List, length, sym, ap, ◌∙◌, subst, arith}
use Rattle.diagram.specs.declared.Node.{Node}
use Rattle.diagram.specs.Functions.{Fun, choice, Restriction}
use Rattle.diagram.specs.Nodes.{Issued, meaning, At, Fit, WellFormed, Extends, Stands}
use Rattle.diagram.specs.Outcomes.{Grows, Grants, Denies, Gives}
use Rattle.diagram.proofs.Restrictions.{Sides, restriction_self, restriction_trans, low_restriction, high_restriction}
use Rattle.diagram.proofs.Tables.{node_function, level_at, meaning_at}
use Rattle.diagram.proofs.Canon.{canonical, entered_at}
use Rattle.diagram.proofs.Growth.{meaning_kept}
use Rattle.diagram.proofs.Descent.{restriction_handle}
use Rattle.diagram.proofs.Outcome.{grows_none, grows_up, grows_trans, denies_up, denies_after}

-- A handle that is there already.
pub gives_held : {ns : List Node} {l h : ℕ} {f : Fun} → WellFormed ns → Stands ns l h f → Gives ns ns l h f
gives_held {ns} {l} {h} {f} w s = record { grows = grows_none (Restriction f) ns w; stands = s }

-- A function's handle reaches all of its restrictions.
pub gives_grants : {a b : List Node} {l h : ℕ} {f : Fun} → Gives a b l h f → Grants (Restriction f) a b
gives_grants {a} {b} {l} {h} {f} x = record { grows = x.grows; all = λ g r. restriction_handle b h f g x.grows.well_formed x.stands.issued x.stands.value r }

-- A node that fits, found or entered.
pub entered_gives : (old new : List Node) (h : ℕ) (n : Node) → WellFormed new → Fit old n → Extends old new → At new h n
    → ((k : ℕ) → length old + 2 ≤ k → Issued new k → k ≡ h) → Gives old new n.level h (node_function old n)
entered_gives old new h n w f x a only = record {
  grows = record { extends = x; well_formed = w; fresh = λ k p q. subst (Restriction _) (sym value ∙ ap (meaning new) (sym (only k p q))) (restriction_self _) };
  stands = record { issued = a.issued; level = omega (arith, level_at new h n a); value = value };
}
  where
    value : meaning new h ≡ node_function old n
    value =
        meaning_at new h n w a
        ∙ ap (λ u. choice n.level u (meaning new n.high)) (meaning_kept x n.low f.low_issued)
        ∙ ap (choice n.level (meaning old n.low)) (meaning_kept x n.high f.high_issued)

-- A node that fits, is not there, and has no room.
pub absent_denies : (limit : ℕ) (ns : List Node) (n : Node) → WellFormed ns → Fit ns n → length ns ≡ limit → ((h : ℕ) → ¬ At ns h n)
    → Denies limit (Restriction (node_function ns n)) ns ns
absent_denies limit ns n w f full absent = record {
  grows = grows_none _ ns w;
  full = full;
  node = node_function ns n;
  of = restriction_self (node_function ns n);
  missing = λ x. absent x.at (entered_at ns w (canonical ns w) n f x.at x.issued (sym x.is));
}

-- One side after the other, and then their choice.
module _ {l : ℕ} {f lo hi : Fun} (d : Sides l f lo hi) where
  pub grows_low : {a b : List Node} → Grows (Restriction lo) a b → Grows (Restriction f) a b
  grows_low x = grows_up (λ g r. restriction_trans (low_restriction d) r) x

  pub grows_high : {a b : List Node} → Grows (Restriction hi) a b → Grows (Restriction f) a b
  grows_high x = grows_up (λ g r. restriction_trans (high_restriction d) r) x

  pub denies_low : {limit : ℕ} {a b : List Node} → Denies limit (Restriction lo) a b → Denies limit (Restriction f) a b
  denies_low x = denies_up (λ g r. restriction_trans (low_restriction d) r) x

  pub denies_high : {limit i x : ℕ} {a b c : List Node} → Gives a b i x lo → Denies limit (Restriction hi) b c → Denies limit (Restriction f) a c
  denies_high g x = denies_after (grows_low g.grows) (denies_up (λ u r. restriction_trans (high_restriction d) r) x)

  module _ {i j x y : ℕ} {a b c : List Node} (p : Gives a b i x lo) (q : Gives b c j y hi) where
    grows_sides : Grows (Restriction f) a c
    grows_sides = grows_trans (grows_low p.grows) (grows_high q.grows)

    made_is : choice l (meaning c x) (meaning c y) ≡ f
    made_is = ap (λ u. choice l u (meaning c y)) (meaning_kept q.grows.extends x p.stands.issued ∙ p.stands.value) ∙ ap (choice l lo) q.stands.value ∙ sym d.is

    pub join_ok : {h m : ℕ} {e : List Node} → l ≡ m → Gives c e l h (choice l (meaning c x) (meaning c y)) → Gives a e m h f
    join_ok {h} {m} {e} s r = subst (λ z. Gives a e z h f) s (both (subst (Gives c e l h) made_is r))
      where
        both : Gives c e l h f → Gives a e l h f
        both t = record { grows = grows_trans grows_sides t.grows; stands = t.stands }

    pub join_err : {limit : ℕ} {e : List Node} → Denies limit (Restriction (choice l (meaning c x) (meaning c y))) c e → Denies limit (Restriction f) a e
    join_err {limit} {e} r = denies_after grows_sides (subst (λ (u : Fun). Denies limit (Restriction u) c e) made_is r)

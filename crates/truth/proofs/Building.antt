-- From what the graph call answers to what is printed. Assumes nothing.
use Rattle.std.proofs.Common.{◌≡◌, ℕ, List, [], is_err, Ok, Result, sym, ap, ◌∙◌, subst, ⊎_elim, true≢false}
use Rattle.packed.specs.Layout.{size_of}
use Rattle.engine.specs.declared.faults.GraphFault.{GraphFault}
use Rattle.engine.specs.Calls.{FormulaOut}
use Rattle.truth.specs.Report.{Formed, Printed, Builds, Report}

-- a text that was built is a formula
pub formed : (N : ℕ) (text : List ℕ) (r : Result ℕ GraphFault) (h n : ℕ) → r ≡ Ok h → Builds N text r n → Formed text
formed N text r h n e b =
    ⊎_elim
    (λ s. record { short = s.short; tree = s.tree; derived = s.derived })
    (λ u. absurd (true≢false (ap is_err (sym u.turned.is ∙ e))))
    b.call.outcome

-- over 65,536 bytes the size is 8,128
pub reported : (L : ℕ) (text out : List ℕ) (r q : Result ℕ GraphFault) (n : ℕ) → L ≡ 65536 → r ≡ q → Builds (size_of L) text r n → Printed text q n out → Report text out
reported L text out r q n l e b p = record {
  r = q;
  new = b.new;
  call = subst (λ a. FormulaOut 8128 text [] a b.new) e (subst (λ N. FormulaOut N text [] r b.new) (ap size_of l) b.call);
  printed = subst (λ m. Printed text q m out) b.count p;
}

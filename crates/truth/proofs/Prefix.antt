-- The first 4,098 bytes of an input decide what is printed. Assumes nothing.
use Rattle.std.proofs.Common.{◌≡◌, ℕ, ◌-◌, ◌<◌, ◌≤◌, Bool, true, false, cond, eqb, List, [], length, get_or, take, Err, Result, sym, refl, ap, ◌∙◌, subst, inr, ⊎_elim, arith}
use Rattle.std.proofs.lemmas.List.{take_all, length-take}
use Rattle.std.proofs.str.Laws.{order}
use Rattle.formula.specs.declared.faults.FormulaFault.{FormulaFault}
use Rattle.formula.specs.declared.faults.FormulaFault.TheVariants.{TooLong, ForeignByte, Unexpected, TooDeep}
use Rattle.formula.specs.Faults.{fault_number, fault_place}
use Rattle.formula.specs.Answer.{Refused}
use Rattle.diagram.specs.declared.Node.{Node}
use Rattle.engine.specs.declared.faults.GraphFault.{GraphFault}
use Rattle.engine.specs.declared.faults.GraphFault.TheVariants.{Formula}
use Rattle.engine.specs.Calls.{Unstated}
use Rattle.truth.specs.Report.{refusal, unended, Printed, Report}

long_cut : (b : Bool) (text : List ℕ) → 4098 ≤ length text → 4096 < length (cond b (take (length text - 1) text) text)
long_cut true text h = omega (arith, length-take (length text - 1) text)
long_cut false text h = omega arith

long_unended : (text : List ℕ) → 4098 ≤ length text → 4096 < length (unended text)
long_unended text h = long_cut (eqb (get_or text (length text - 1) 0) 10) text h

long_fault : (text : List ℕ) (e : FormulaFault) → 4096 < length text → Refused text e → refusal (fault_number e) (fault_place e) ≡ refusal 1 4096
long_fault text TooLong h r = λ i. refusal 1 4096
long_fault text (ForeignByte p) h r = let w : ⊥ = omega (arith, r.0.short) in absurd w
long_fault text (Unexpected p) h r = let w : ⊥ = omega (arith, r.0.short) in absurd w
long_fault text (TooDeep p) h r = let w : ⊥ = omega (arith, r.0.short) in absurd w

long_turned : (text out : List ℕ) (r : Result ℕ GraphFault) (new : List Node) (n : ℕ) → 4096 < length text → Unstated text [] r new → Printed text r n out → out ≡ refusal 1 4096
long_turned text out r new n h u p =
    let q : Printed text (Err (Formula u.fault)) n out = subst (λ a. Printed text a n out) u.turned.is p in
    q ∙ long_fault text u.fault h u.refused

long_printed : (text out : List ℕ) → 4096 < length text → Report text out → out ≡ refusal 1 4096
long_printed text out h p =
    ⊎_elim
    (λ s. let w : ⊥ = omega (arith, s.short) in absurd w)
    (λ u. long_turned text out p.r p.new (length p.new) h u p.printed)
    p.call.outcome

printed_long : (text out : List ℕ) → 4096 < length text → out ≡ refusal 1 4096 → Report text out
printed_long text out h e = record {
  r = Err (Formula TooLong);
  new = [];
  call = record { outcome = inr (record { fault = TooLong; refused = h; turned = record { is = refl; kept = refl } }) };
  printed = e;
}

-- an input of at most 4,098 bytes that another begins with
short_decided : (input all out : List ℕ) → input ≡ take 4098 all → Report (unended input) out → Report (unended all) out
short_decided input all out e r =
    ⊎_elim
    (λ long. let n : length input ≡ 4098 = ap length e ∙ omega (arith, length-take 4098 all) in
    printed_long (unended all) out (long_unended all (omega arith)) (long_printed (unended input) out (long_unended input (omega arith)) r))
    (λ short. subst (λ l. Report (unended l) out) (e ∙ take_all 4098 all short) r)
    (order 4098 (length all))

pub decided : (input all out : List ℕ) → take 4098 input ≡ take 4098 all → Report (unended input) out → Report (unended all) out
decided input all out e r =
    ⊎_elim
    (λ long. let n : length (take 4098 input) ≡ 4098 = omega (arith, length-take 4098 input) in
    let m : length (take 4098 all) ≡ 4098 = ap length (sym e) ∙ n in
    printed_long (unended all) out (long_unended all (omega (arith, length-take 4098 all, m))) (long_printed (unended input) out (long_unended input (omega arith)) r))
    (λ short. short_decided input all out (sym (take_all 4098 input short) ∙ e) r)
    (order 4098 (length input))

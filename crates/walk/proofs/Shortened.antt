-- Answers that need no descent. Assumes nothing.
use Rattle.std.proofs.Common.{◌≡◌, ℕ, ◌<◌, ◌≤◌, Bool, true, false, cond, not, eqb, List, Some, None, Option, sym, refl, ap, ◌∙◌, arith}
use mathlib.Core.Path.{fun_ext}
use mir.Val.{bool_byte}
use Rattle.std.specs.Bool.{beq, then_some}
use Rattle.std.proofs.lemmas.Bool.{true≢false}
use Rattle.std.proofs.lemmas.Bool.Decides.{nat_tests}
use Rattle.diagram.specs.declared.Node.{Node}
use Rattle.diagram.specs.Functions.{Fun}
use Rattle.diagram.specs.Nodes.{meaning, Stands}
use Rattle.diagram.proofs.Tables.{level_constant, meaning_constant, level_most}
use Rattle.formula.specs.declared.steps.Operator.TheVariants.{And, Or, Xor, Implies, Iff}
use Rattle.walk.specs.declared.ops.Op.{Op}
use Rattle.walk.specs.declared.ops.Op.TheVariants.{Infix, AndNot}
use Rattle.walk.specs.Ops.{answer}
use Rattle.walk.specs.Shortcuts.{Simple, Short}

-- A constant's handle.
byte_small : (b : Bool) → bool_byte b < 2
byte_small true = omega arith
byte_small false = omega arith

byte_is : (b : Bool) → eqb (bool_byte b) 1 ≡ b
byte_is true = refl
byte_is false = refl

same_ways : (x a : Bool) → a ≡ cond x a a
same_ways true a = refl
same_ways false a = refl

own_ways : (x : Bool) → x ≡ cond x true false
own_ways true = refl
own_ways false = refl

pub simple_constant : (a b : Bool) (h : ℕ) → a ≡ b → Simple a b h (Some (bool_byte a))
simple_constant a b h e = record {
  outcome = λ ns w p. record {
    issued = omega (arith, byte_small a);
    level = omega (arith, level_constant ns (bool_byte a) (byte_small a), level_most ns h w);
    value = meaning_constant ns (bool_byte a) (byte_small a) ∙ fun_ext (λ s. byte_is a ∙ same_ways (meaning ns h s) a ∙ ap (λ z. cond (meaning ns h s) z a) e);
  };
}

simple_own : (h : ℕ) → Simple false true h (Some h)
simple_own h = record { outcome = λ ns w i. record { issued = i; level = omega arith; value = fun_ext (λ s. own_ways (meaning ns h s)) } }

pub simple_rest : (a b : Bool) (h : ℕ) → beq a b ≡ false → Simple a b h (then_some b h)
simple_rest true true h ne = absurd (true≢false ne)
simple_rest true false h ne = record { outcome = (refl, refl) }
simple_rest false true h ne = simple_own h
simple_rest false false h ne = absurd (true≢false ne)

-- A function of one answer, by its two values.
ways : (F : Bool → Bool) (x a b : Bool) → a ≡ F false → b ≡ F true → cond x b a ≡ F x
ways F true a b p q = q
ways F false a b p q = p

-- The function of one answer that is its complement.
abbrev pub Complement : (Bool → Bool) → Type 0
Complement F = (F false ≡ true) × (F true ≡ false)

complement_at : (F : Bool → Bool) (x : Bool) → Complement F → F x ≡ not x
complement_at F true p = p.1
complement_at F false p = p.0

stands_as : {ns : List Node} {l m k : ℕ} {f g : Fun} → Stands ns l k f → m ≤ l → f ≡ g → Stands ns m k g
stands_as x p e = record { issued = x.issued; level = omega (arith, x.level); value = x.value ∙ e }

-- No operator here makes the complement of equal operands.
agrees : (op : Op) → answer op false false ≡ true → answer op true true ≡ false → ⊥
agrees (Infix And) p q = true≢false (sym p)
agrees (Infix Or) p q = true≢false q
agrees (Infix Xor) p q = true≢false (sym p)
agrees (Infix Implies) p q = true≢false q
agrees (Infix Iff) p q = true≢false q
agrees AndNot p q = true≢false (sym p)

pub short_equal : (op : Op) (f g : ℕ) (a b : Bool) (r : Option ℕ) → f ≡ g → a ≡ answer op false false → b ≡ answer op true true → Simple a b f r → Short op f g r
short_equal op f g a b (Some k) e p q x = record {
  outcome = λ ns w i j.
      stands_as (x.outcome ns w i) (omega arith)
      (fun_ext (λ s. ways (λ z. answer op z z) (meaning ns f s) a b p q ∙ ap (λ z. answer op (meaning ns f s) (meaning ns z s)) e));
}
short_equal op f g a b None e p q x = record { outcome = absurd (agrees op (sym p ∙ x.outcome.0) (sym q ∙ x.outcome.1)) }

pub short_left : (op : Op) (f g k : ℕ) (a b : Bool) → f < 2 → a ≡ answer op (eqb f 1) false → b ≡ answer op (eqb f 1) true → Simple a b g (Some k) → Short op f g (Some k)
short_left op f g k a b lt p q x = record {
  outcome = λ ns w i j.
      stands_as (x.outcome ns w j) (omega arith)
      (fun_ext (λ s. ways (answer op (eqb f 1)) (meaning ns g s) a b p q ∙ ap (λ (u : Fun). answer op (u s) (meaning ns g s)) (sym (meaning_constant ns f lt))));
}

pub short_right : (op : Op) (f g : ℕ) (a b : Bool) (r : Option ℕ) → (f ≡ g → ⊥) → (f < 2 → Complement (answer op (eqb f 1))) → g < 2
    → a ≡ answer op false (eqb g 1) → b ≡ answer op true (eqb g 1) → Simple a b f r → Short op f g r
short_right op f g a b (Some k) ne left lt p q x = record {
  outcome = λ ns w i j.
      stands_as (x.outcome ns w i) (omega arith)
      (fun_ext (λ s. ways (λ z. answer op z (eqb g 1)) (meaning ns f s) a b p q ∙ ap (λ (u : Fun). answer op (meaning ns f s) (u s)) (sym (meaning_constant ns g lt))));
}
short_right op f g a b None ne left lt p q x = record {
  outcome = λ small.
      let u = complement_at (answer op (eqb f 1)) (eqb g 1) (left small) in
      let v = complement_at (λ z. answer op z (eqb g 1)) (eqb f 1) (sym p ∙ x.outcome.0, sym q ∙ x.outcome.1) in
      let e : not (eqb g 1) ≡ not (eqb f 1) = sym u ∙ v in
      absurd (ne (grind (arith, nat_tests, e)));
}

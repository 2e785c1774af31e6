use Rattle.std.proofs.Common.{◌≡◌, ℕ, ◌+◌, ◌-◌, ◌/◌, ◌%◌, Bool, true, false, cond, eqb, sym, refl, ap, ◌∙◌, arith}
use Rattle.std.proofs.lemmas.Bool.Decides.{nat_tests}
use Rattle.product.specs.declared.masks.Product.{Product}
use Rattle.product.specs.Bits.{bit}
use Rattle.product.specs.Words.{Word, absent, refused, wanted, names}
use Rattle.product.specs.Masks.{word, wants}
use Rattle.product.proofs.Bitwise.{bit_below, within_bit}
use Rattle.implicant.specs.Variables.{mask_setting}
use Rattle.set_walk.proofs.sets.value_at.Goals as goal

-- What the code answers of a word, at an odd level or another.
abbrev told : Word → Bool → Bool
told absent odd = false
told refused odd = odd
told wanted odd = true

module _ (p : Product) (j : ℕ) where
  -- No sign stands but under a name.
  sign_within : bit p.named j ≡ false → bit p.sign j ≡ false
  sign_within e =
      let at = within_bit p.named p.sign j p.within in
      let few = bit_below p.named j in
      grind (arith, nat_tests)

  bits : (w : Word) (name sign : Bool) → (name ≡ false → sign ≡ false) → w ≡ word name sign → (name ≡ names w) × (sign ≡ wants w)
  bits w true true within e = (ap names (sym e), ap wants (sym e))
  bits w true false within e = (ap names (sym e), ap wants (sym e))
  bits w false sign within e = (ap names (sym e), within refl ∙ ap wants (sym e))

  at_word : (w : Word) (odd : Bool) → w ≡ word (bit p.named j) (bit p.sign j) → told w odd ≡ bit (cond odd p.named p.sign) j
  at_word w odd e = let b = bits w _ _ sign_within e in either w odd b.0 b.1
    where
      either : (w : Word) (odd : Bool) → bit p.named j ≡ names w → bit p.sign j ≡ wants w → told w odd ≡ bit (cond odd p.named p.sign) j
      either absent true x y = sym x
      either absent false x y = sym y
      either refused true x y = sym x
      either refused false x y = sym y
      either wanted true x y = sym x
      either wanted false x y = sym y

valued : (p : Product) (l : ℕ) (w : Word) → w ≡ word (bit p.named (12 - (l + 1) / 2)) (bit p.sign (12 - (l + 1) / 2)) → told w (eqb (l % 2) 1) ≡ mask_setting p.named p.sign l
unfolding mask_setting
valued p l w = at_word p (12 - (l + 1) / 2) w (eqb (l % 2) 1)

pub returns-in-Absent : goal.returns-in-Absent
returns-in-Absent c = valued c.args.product c.args.level absent c.in-Absent.ensures

pub returns-in-Refused : goal.returns-in-Refused
returns-in-Refused c = valued c.args.product c.args.level refused c.in-Refused.ensures

pub returns-in-Wanted : goal.returns-in-Wanted
returns-in-Wanted c = valued c.args.product c.args.level wanted c.in-Wanted.ensures

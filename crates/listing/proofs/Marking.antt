-- Counting one product more, and the test for the count one, by what the product says of its first option. Assumes nothing.
use Rattle.std.proofs.Common.{◌≡◌, ℕ, zero, suc, ◌+◌, ◌-◌, ◌*◌, ◌/◌, ◌^◌, ◌<◌, ◌≤◌, Bool, true, false, cond, ◌||◌, List, get_or, sym, refl, ap, ◌∙◌, subst, pow-suc, arith}
use Rattle.std.proofs.lemmas.Nat.{shr-shr}
use Rattle.product.specs.Bits.{bit}
use Rattle.product.specs.Words.{Word, absent, refused, wanted, Words, Version, meets}
use Rattle.product.specs.Masks.{word, words}
use Rattle.listing.specs.declared.counts.Count.{Count}
use Rattle.listing.specs.declared.counts.Count.TheVariants.{Zero}
use Rattle.listing.specs.Counts.{next, place, one_more, is_one, Marked, alone}

-- a prefix one sign longer has its bound
pub next_below : (n prefix : ℕ) (b : Bool) → n ≤ 12 → (n ≡ 0 → ⊥) → prefix < 2 ^ (12 - n) → next prefix b < 2 ^ (12 - (n - 1))
next_below n prefix b few least low =
    let e : 12 - (n - 1) ≡ suc (12 - n) = omega (arith, least) in
    let half : 2 ^ (12 - (n - 1)) ≡ 2 ^ (12 - n) * 2 = ap (λ (z : ℕ). 2 ^ z) e ∙ pow-suc 2 (12 - n) in
    below b (2 ^ (12 - n)) (2 ^ (12 - (n - 1))) low half
  where
    below : (b : Bool) (x y : ℕ) → prefix < x → y ≡ x * 2 → next prefix b < y
    below true x y p q = omega arith
    below false x y p q = omega arith

halved : (i n : ℕ) → i / 2 ^ suc n ≡ i / 2 ^ n / 2
halved i n = ap (λ (z : ℕ). i / 2 ^ z) (omega arith) ∙ sym (shr-shr i n 1)

shorter : (prefix : ℕ) (b : Bool) → next prefix b / 2 ≡ prefix
shorter prefix true = omega arith
shorter prefix false = omega arith

-- what does not begin with a prefix does not begin with a longer one
above : (n prefix i : ℕ) (b : Bool) → (i / 2 ^ suc n ≡ prefix → ⊥) → i / 2 ^ n ≡ next prefix b → ⊥
above n prefix i b off e = off (halved i n ∙ ap (λ (z : ℕ). z / 2) e ∙ shorter prefix b)

-- a version's place begins with its prefix
place_top : (n prefix : ℕ) (v : Version n) → place n prefix v / 2 ^ n ≡ prefix
place_top zero prefix v = omega arith
place_top (suc n) prefix (b, v) =
    halved (place n (next prefix b) v) n ∙ ap (λ (z : ℕ). z / 2) (place_top n (next prefix b) v) ∙ shorter prefix b

-- and not with another one
beside : (n a b : ℕ) (v : Version n) → (a ≡ b → ⊥) → place n a v / 2 ^ n ≡ b → ⊥
beside n a b v ne e = ne (sym (place_top n a v) ∙ e)

-- the word that a named option has by its sign
by_sign : Bool → Word
by_sign b = cond b wanted refused

first_named : (n prefix : ℕ) (b : Bool) (p : Words n) (old new : List Count) → Marked n (next prefix b) p old new → Marked (suc n) prefix (by_sign b, p) old new
unfolding by_sign
first_named n prefix b p old new a = record { inside = inside b a; outside = λ i off. a.outside i (above n prefix i b off) }
  where
    inside : (b : Bool) → Marked n (next prefix b) p old new → (v : Version (suc n))
        → get_or new (place (suc n) prefix v) Zero ≡ cond (meets (suc n) (by_sign b, p) v) (one_more (get_or old (place (suc n) prefix v) Zero)) (get_or old (place (suc n) prefix v) Zero)
    inside true a (true, v) = a.inside v
    inside true a (false, v) = a.outside (place n (2 * prefix) v) (beside n (2 * prefix) (2 * prefix + 1) v (λ e. omega arith))
    inside false a (true, v) = a.outside (place n (2 * prefix + 1) v) (beside n (2 * prefix + 1) (2 * prefix) v (λ e. omega arith))
    inside false a (false, v) = a.inside v

first_absent : (n prefix : ℕ) (p : Words n) (old mid new : List Count) → Marked n (2 * prefix) p old mid → Marked n (2 * prefix + 1) p mid new → Marked (suc n) prefix (absent, p) old new
first_absent n prefix p old mid new a b = record {
  inside = inside;
  outside = λ i off. b.outside i (above n prefix i true off) ∙ a.outside i (above n prefix i false off);
}
  where
    inside : (v : Version (suc n)) → get_or new (place (suc n) prefix v) Zero ≡ cond (meets (suc n) (absent, p) v) (one_more (get_or old (place (suc n) prefix v) Zero)) (get_or old (place (suc n) prefix v) Zero)
    inside (true, v) =
        b.inside v
        ∙ ap (λ (z : Count). cond (meets n p v) (one_more z) z) (a.outside (place n (2 * prefix + 1) v) (beside n (2 * prefix + 1) (2 * prefix) v (λ e. omega arith)))
    inside (false, v) = b.outside (place n (2 * prefix) v) (beside n (2 * prefix) (2 * prefix + 1) v (λ e. omega arith)) ∙ a.inside v

-- by the word of the first of n options
module _ (n named sign : ℕ) (least : n ≡ 0 → ⊥) where
  -- what holds of the words of masks, by the first of them
  by_first : (P : (k : ℕ) → Words k → Type 0) (w : Word) → w ≡ word (bit named (n - 1)) (bit sign (n - 1)) → P (suc (n - 1)) (w, words (n - 1) named sign) → P n (words n named sign)
  by_first P w e h =
      let more : suc (n - 1) ≡ n = omega (arith, least) in
      subst (λ (z : ℕ). P z (words z named sign)) more (subst (λ (z : Word). P (suc (n - 1)) (z, words (n - 1) named sign)) e h)

  module _ (prefix : ℕ) (old new : List Count) where
    pub marked_refused : refused ≡ word (bit named (n - 1)) (bit sign (n - 1)) → Marked (n - 1) (2 * prefix) (words (n - 1) named sign) old new → Marked n prefix (words n named sign) old new
    unfolding by_sign
    marked_refused e a = by_first (λ (k : ℕ) (p : Words k). Marked k prefix p old new) refused e (first_named (n - 1) prefix false (words (n - 1) named sign) old new a)

    pub marked_wanted : wanted ≡ word (bit named (n - 1)) (bit sign (n - 1)) → Marked (n - 1) (2 * prefix + 1) (words (n - 1) named sign) old new → Marked n prefix (words n named sign) old new
    unfolding by_sign
    marked_wanted e a = by_first (λ (k : ℕ) (p : Words k). Marked k prefix p old new) wanted e (first_named (n - 1) prefix true (words (n - 1) named sign) old new a)

    pub marked_absent : (mid : List Count) → absent ≡ word (bit named (n - 1)) (bit sign (n - 1))
        → Marked (n - 1) (2 * prefix) (words (n - 1) named sign) old mid → Marked (n - 1) (2 * prefix + 1) (words (n - 1) named sign) mid new → Marked n prefix (words n named sign) old new
    marked_absent mid e a b = by_first (λ (k : ℕ) (p : Words k). Marked k prefix p old new) absent e (first_absent (n - 1) prefix (words (n - 1) named sign) old mid new a b)

  module _ (counts : List Count) (prefix : ℕ) (r : Bool) where
    pub alone_refused : refused ≡ word (bit named (n - 1)) (bit sign (n - 1)) → r ≡ alone (n - 1) counts (2 * prefix) (words (n - 1) named sign) → r ≡ alone n counts prefix (words n named sign)
    unfolding alone
    alone_refused e h = by_first (λ (k : ℕ) (p : Words k). r ≡ alone k counts prefix p) refused e h

    pub alone_wanted : wanted ≡ word (bit named (n - 1)) (bit sign (n - 1)) → r ≡ alone (n - 1) counts (2 * prefix + 1) (words (n - 1) named sign) → r ≡ alone n counts prefix (words n named sign)
    unfolding alone
    alone_wanted e h = by_first (λ (k : ℕ) (p : Words k). r ≡ alone k counts prefix p) wanted e h

    pub alone_absent : (x y : Bool) → absent ≡ word (bit named (n - 1)) (bit sign (n - 1))
        → x ≡ alone (n - 1) counts (2 * prefix) (words (n - 1) named sign) → y ≡ alone (n - 1) counts (2 * prefix + 1) (words (n - 1) named sign) → r ≡ (x || y) → r ≡ alone n counts prefix (words n named sign)
    unfolding alone
    alone_absent x y e f g h = by_first (λ (k : ℕ) (p : Words k). r ≡ alone k counts prefix p) absent e (h ∙ λ i. f i || g i)

pub alone_none : (n : ℕ) (counts : List Count) (prefix named sign : ℕ) → n ≡ 0 → is_one (get_or counts prefix Zero) ≡ alone n counts prefix (words n named sign)
unfolding alone
alone_none zero counts prefix named sign e = refl
alone_none (suc n) counts prefix named sign e = absurd (omega arith)

-- Prefixes of products, and the lists of the products behind them. Assumes nothing.
use Rattle.std.proofs.Common.{◌≡◌, ℕ, suc, ◌+◌, ◌-◌, ◌*◌, ◌^◌, ◌<◌, ◌≤◌, Bool, true, false, cond, List, [], ◌∷◌, ◌++◌, map, sym, refl, ap, ◌∙◌, subst, inl, inr, append_assoc, add-zero, add_assoc, zero-add, arith}
use mathlib.Core.Path.{fun_ext}
use mathlib.Core.List.{map-append}
use Rattle.std.proofs.lemmas.Bool.{cases_lt, eq-eqb}
use Rattle.product.specs.Words.{Word, absent, refused, wanted, Words, names}
use Rattle.product.specs.Masks.{words, wants, named_mask, sign_mask, Masks}
use Rattle.product.proofs.Inverse.{words_back, masks_back}
use Rattle.diagram.specs.declared.Node.{Node}
use Rattle.diagram.specs.Functions.{Fun, Always}
use Rattle.diagram.specs.Nodes.{Issued, meaning, level_of, WellFormed}
use Rattle.diagram.proofs.Restrictions.{Sides}
use Rattle.diagram.proofs.Tables.{meaning_constant, level_node}
use Rattle.implicant.specs.Examples.{blank}
use Rattle.implicant.specs.Lists.{prefixed, listed}
use Rattle.implicant.specs.Variables.{products, products_of}
use Rattle.implicant.proofs.Ordering.{listed_none}
use Rattle.implicant.proofs.Tidying.{products_unsigned, products_refused, products_wanted}
use Rattle.set_walk.specs.declared.prefix.Prefix.{Prefix}
use Rattle.set_walk.specs.Begun.{Begun}
use Rattle.set_walk.specs.Prefixes.{IsEmpty, Longer, joined, whole, behind, handed}

masks_by : {a b c d : ℕ} → a ≡ c → b ≡ d → Masks a b → Masks c d
masks_by {a} {b} {c} {d} p q m = subst (λ (n : ℕ). Masks n d) p (subst (Masks a) q m)

-- The start: nothing is chosen, and all that is handed over is the list of the set.
pub begun_none : Begun 0 0 0
begun_none = record { few = omega arith; masks = λ p. masks_by (sym (zero-add (named_mask 12 p))) (sym (zero-add (sign_mask 12 p))) (masks_back p) }

pub handed_all : (b : Prefix) (f : Fun) → IsEmpty b → handed b f ≡ listed 12 (products_of f)
unfolding handed behind joined products_of
handed_all b f e = (λ i. behind (e.gone i) (e.named i) (e.sign i) f) ∙ same (listed 12 (products_of f))
  where
    same : (ps : List (Words 12)) → map (joined 12 0 0) ps ≡ ps
    same [] = refl
    same (p ∷ ps) = λ i. ((λ j. words 12 (zero-add (named_mask 12 p) j) (zero-add (sign_mask 12 p) j)) ∙ words_back 12 p) i ∷ same ps i

-- Once all options are chosen, the masks are those of a product.
pub begun_last : {gone named sign : ℕ} → Begun gone named sign → gone ≡ 12 → Masks named sign
begun_last {gone} {named} {sign} x e =
    let z : 12 - gone ≡ 0 = omega arith in
    let m = subst (λ (n : ℕ). (p : Words n) → Masks (named + named_mask n p) (sign + sign_mask n p)) z x.masks tt in
    masks_by (add-zero named) (add-zero sign) m

-- Nothing is handed over of no, and one product of yes once all options are chosen.
pub handed_none : (b : Prefix) (f : Fun) → Always false f → handed b f ≡ []
unfolding handed behind
handed_none b f h = ap (map (joined (12 - b.gone) b.named b.sign)) (listed_none (12 - b.gone) (products (12 - b.gone) b.gone f) (λ p. h _))

pub handed_last : (b : Prefix) (f : Fun) → b.gone ≡ 12 → Always true f → handed b f ≡ whole b ∷ []
unfolding handed behind listed joined whole
handed_last b f e h =
    let z : 12 - b.gone ≡ 0 = omega arith in
    ap (λ (n : ℕ). map (joined n b.named b.sign) (listed n (products n b.gone f))) z
    ∙ ap (λ t. map (joined 0 b.named b.sign) (cond t (tt ∷ []) [])) (h (λ _. false))
    ∙ λ i. words 12 (add-zero b.named i) (add-zero b.sign i) ∷ []

-- Handle 0 answers no, and any other handle that is past the variables answers yes.
pub no_answers : (ns : List Node) (h : ℕ) → h ≡ 0 → Always false (meaning ns h)
no_answers ns h e s = ap (λ (k : ℕ). meaning ns k s) e ∙ ap (λ (f : Fun). f s) (meaning_constant ns 0 (omega arith))

pub last_answers : (ns : List Node) (h : ℕ) → WellFormed ns → Issued ns h → 25 ≤ level_of ns h → (h ≡ 0 → ⊥) → Always true (meaning ns h)
last_answers ns h w p deep ne s =
    let two : h < 2 = elim (cases_lt h 2) [ inl z ↦ z | inr z ↦ absurd (omega (arith, level_node ns h w z p)) ] in
    ap (λ (f : Fun). f s) (meaning_constant ns h two) ∙ eq-eqb h 1 (omega (arith, ne))

-- The masks with a word for one option more, after which n are left.
module _ (gone named sign : ℕ) (next : gone < 12) where
  abbrev n : ℕ
  n = 12 - (gone + 1)

  -- what the word adds to the masks
  abbrev adds : Bool → ℕ
  adds b = cond b (2 ^ (11 - gone)) 0

  one_more : 12 - gone ≡ suc n
  one_more = omega arith

  bit_is : 2 ^ (11 - gone) ≡ 2 ^ n
  bit_is = let e : 11 - gone ≡ n = omega arith in ap (λ (z : ℕ). 2 ^ z) e

  named_more : (w : Word) (p : Words n) → named + named_mask (suc n) (w, p) ≡ named + adds (names w) + named_mask n p
  named_more w p = sym ((λ i. named + cond (names w) (bit_is i) 0 + named_mask n p) ∙ add_assoc named (cond (names w) (2 ^ n) 0) (named_mask n p))

  sign_more : (w : Word) (p : Words n) → sign + sign_mask (suc n) (w, p) ≡ sign + adds (wants w) + sign_mask n p
  sign_more w p = sym ((λ i. sign + cond (wants w) (bit_is i) 0 + sign_mask n p) ∙ add_assoc sign (cond (wants w) (2 ^ n) 0) (sign_mask n p))

  pub begun_more : Begun gone named sign → (w : Word) → Begun (gone + 1) (named + adds (names w)) (sign + adds (wants w))
  begun_more x w = record {
    few = omega arith;
    masks = λ p.
        let old = subst (λ z. (q : Words z) → Masks (named + named_mask z q) (sign + sign_mask z q)) one_more x.masks (w, p) in
        masks_by (named_more w p) (sign_more w p) old;
  }

  -- The masks have room for the bit.
  pub named_room : Begun gone named sign → (w : Word) → named + adds (names w) < 4096
  named_room x w = omega (arith, ((begun_more x w).masks (blank n)).low)

  pub sign_room : Begun gone named sign → (w : Word) → sign + adds (wants w) < 4096
  sign_room x w = omega (arith, ((begun_more x w).masks (blank n)).signed)

  -- The products with the word w for the option.
  part : (w : Word) (c : Words (suc n) → Bool) (f : Fun) → ((p : Words n) → c (w, p) ≡ products n (gone + 1) f p)
      → map (joined (suc n) named sign) (prefixed n w (listed n (λ p. c (w, p)))) ≡ behind (gone + 1) (named + adds (names w)) (sign + adds (wants w)) f
  unfolding behind joined
  part w c f h = along (listed n (λ p. c (w, p))) ∙ ap (λ (s : Words n → Bool). map (joined n (named + adds (names w)) (sign + adds (wants w))) (listed n s)) (fun_ext h)
    where
      along : (ps : List (Words n)) → map (joined (suc n) named sign) (prefixed n w ps) ≡ map (joined n (named + adds (names w)) (sign + adds (wants w))) ps
      along [] = refl
      along (p ∷ ps) = λ i. words 12 (named_more w p i) (sign_more w p i) ∷ along ps i

  -- The products of a function by those of its parts at the option.
  module _ {f lo hi ab skip re wa : Fun} (d : Sides (2 * gone + 1) f lo hi) (x : Sides (2 * gone + 2) lo ab skip) (y : Sides (2 * gone + 2) hi re wa) where
    abbrev parted : Word → Fun → List (Words 12)
    parted w = behind (gone + 1) (named + adds (names w)) (sign + adds (wants w))

    pub behind_more : behind gone named sign f ≡ parted absent ab ++ (parted refused re ++ parted wanted wa)
    unfolding behind listed
    behind_more =
        let c = products (suc n) gone f in
        let all = joined (suc n) named sign in
        let u = part absent c ab (λ p. products_unsigned n gone d p x) in
        let v = part refused c re (λ p. products_refused n gone d p y) in
        let w = part wanted c wa (λ p. products_wanted n gone d p y) in
        let second = prefixed n refused (listed n (λ p. c (refused, p))) in
        let third = prefixed n wanted (listed n (λ p. c (wanted, p))) in
        ap (λ (z : ℕ). map (joined z named sign) (listed z (products z gone f))) one_more
        ∙ map-append all (prefixed n absent (listed n (λ p. c (absent, p)))) (second ++ third)
        ∙ λ i. u i ++ (map-append all second third ∙ λ j. v j ++ w j) i

-- What is handed over behind a longer prefix, by the masks before.
longer_handed : {b x : Prefix} {w : Word} → Longer b w x → (f : Fun) → handed x f ≡ behind (b.gone + 1) (b.named + cond (names w) (2 ^ (11 - b.gone)) 0) (b.sign + cond (wants w) (2 ^ (11 - b.gone)) 0) f
unfolding handed
longer_handed e f = λ i. behind (e.gone i) (e.named i) (e.sign i) f

-- What is handed over behind the three longer prefixes, one after the other, is what is handed over behind b.
pub walked_more : (b : Prefix) → b.gone < 12 → {f lo hi ab skip re wa : Fun} → Sides (2 * b.gone + 1) f lo hi → Sides (2 * b.gone + 2) lo ab skip → Sides (2 * b.gone + 2) hi re wa
    → {ba br bw : Prefix} → Longer b absent ba → Longer b refused br → Longer b wanted bw → (ps : List (Words 12)) → ps ++ handed ba ab ++ handed br re ++ handed bw wa ≡ ps ++ handed b f
unfolding handed
walked_more b next {ab} {re} {wa} d x y {ba} {br} {bw} p q r ps =
    append_assoc (ps ++ handed ba ab) (handed br re) (handed bw wa)
    ∙ append_assoc ps (handed ba ab) (handed br re ++ handed bw wa)
    ∙ ap (λ (l : List (Words 12)). ps ++ l) ((λ i. longer_handed p ab i ++ (longer_handed q re i ++ longer_handed r wa i)) ∙ sym (behind_more b.gone b.named b.sign next d x y))

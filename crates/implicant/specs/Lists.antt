-- The products of a set as a list. Assumes nothing.
use Rattle.std.specs.Prelude.{ℕ, zero, suc, Bool, cond, List, [], ◌∷◌, ◌++◌, map}
use Rattle.product.specs.Words.{Word, absent, refused, wanted, Words}

-- Each product of a list, with the word w for one option before.
abbrev pub prefixed : (n : ℕ) → Word → List (Words n) → List (Words (suc n))
prefixed n w ps = map (λ (p : Words n). (w, p)) ps

-- The products of the set c: those whose first option is absent, then those that refuse it, then those that want it.
unfoldable pub listed : (n : ℕ) → (Words n → Bool) → List (Words n)
listed zero c = cond (c tt) (tt ∷ []) []
listed (suc n) c =
    prefixed n absent (listed n (λ p. c (absent, p)))
    ++ (prefixed n refused (listed n (λ p. c (refused, p))) ++ prefixed n wanted (listed n (λ p. c (wanted, p))))

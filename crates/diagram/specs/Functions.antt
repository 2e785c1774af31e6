-- Yes/no functions of the 24 variables, which stand at levels 1 to 24, and their restrictions.
use Rattle.std.specs.Prelude.{◌≡◌, ℕ, ◌-◌, ◌*◌, ◌<◌, ◌≤◌, Bool, true, false, cond, ◌&&◌, ◌⊎◌, ◌==◌, nat_le}

-- The level of the occurrence variable of option k (1 to 12).
abbrev pub occurrence_level : ℕ → ℕ
occurrence_level k = 2 * k - 1

-- The level of the sign variable of option k (1 to 12).
abbrev pub sign_level : ℕ → ℕ
sign_level k = 2 * k

-- A setting gives a value to the variable of each level.
abbrev pub Setting : Type 0
Setting = ℕ → Bool

-- A function answers yes or no at each setting. (What handles mean depends on levels 1 to 24 alone: `LevelsOnly`.)
abbrev pub Fun : Type 0
Fun = Setting → Bool

-- f where the variable of level l is no, and g where it is yes.
abbrev pub choice : ℕ → Fun → Fun → Fun
choice l f g s = cond (s l) (g s) (f s)

-- s with the variable of level l set to b.
unfoldable pub put : ℕ → Bool → Setting → Setting
put l b s i = cond (i == l) b (s i)

-- f does not depend on the variables of level l or less.
abbrev pub Ignores : ℕ → Fun → Type 0
Ignores l f = (s t : Setting) → ((i : ℕ) → l < i → s i ≡ t i) → f s ≡ f t

-- s with the variables of the first j levels, 1 to j, set as in a.
unfoldable pub upto : ℕ → Setting → Setting → Setting
upto j a s i = cond (nat_le 1 i && nat_le i j) (a i) (s i)

-- f with the variables of its first j levels set as in a.
abbrev pub restrict : ℕ → Setting → Fun → Fun
restrict j a f s = f (upto j a s)

-- f answers b at every setting.
abbrev pub Always : Bool → Fun → Type 0
Always b f = (s : Setting) → f s ≡ b

-- f is always no or always yes.
abbrev pub Constant : Fun → Type 0
Constant f = Always false f ⊎ Always true f

-- g is a restriction of f by some setting of its first 0 to 24 levels.
pub record Restriction (f g : Fun) : Type 0 where
  pub depth : ℕ
  pub few : depth ≤ 24
  pub setting : Setting
  pub is : g ≡ restrict depth setting f

-- g is a node of f: a restriction of f that is not constant.
pub record NodeOf (f g : Fun) : Type 0 where
  pub restriction : Restriction f g
  pub varies : ¬ Constant g

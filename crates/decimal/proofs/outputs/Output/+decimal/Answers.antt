use Rattle.std.proofs.Common.{◌≡◌, ℕ, ◌+◌, ◌/◌, ◌%◌, List, [], ◌∷◌, ◌++◌, length, decimal, sym, ap, ◌∙◌, subst, arith, length-append}
use Rattle.std.proofs.lemmas.Fmt.{decimal_digit, decimal_step}
use Rattle.decimal.specs.declared.outputs.Output.{Output}
use Rattle.decimal.specs.Outputs.{Puts}
use Rattle.decimal.proofs.Writing.{puts_none, puts_two, puts_as}
use Rattle.decimal.proofs.outputs.Output.+decimal.Goals as goal
use Rattle.decimal.proofs.outputs.Output.+decimal.Goals.{Joined-n-ge10, then-n-ge10, else-n-ge10}

pub decimal-requires : goal.decimal-requires
decimal-requires t c =
    let n = c.args.n in
    let step = ap length (decimal_step n c.if-n-ge10.true (omega arith)) in
    (omega (arith, c.decreases), omega (arith, step, length-append (decimal (n / 10)) ((48 + n % 10) ∷ []), c.requires))

-- the digits but the last are written
abbrev Led : ℕ → Output → Output → Type 0
Led n old new = (ds : List ℕ) × (decimal n ≡ ds ++ ((48 + n % 10) ∷ [])) × Puts ds old new

led : (t : ℕ) (c : goal.Joined-n-ge10 t) → Led c.args.n c.args.self.now c.if-n-ge10.self
led t c =
    let n = c.args.n in
    let along = λ (ds : List ℕ) (o : Output) (e : c.if-n-ge10.self ≡ o) (p : Puts ds c.args.self.now o). subst (λ (x : Output). Puts ds c.args.self.now x) (sym e) p in
    elim c.if-n-ge10.branch [
      | then-n-ge10 w ↦ (decimal (n / 10), decimal_step n w.if-n-ge10.true (omega arith), along _ _ w.self-is w.decimal.ensures)
      | else-n-ge10 w ↦ ([], decimal_digit n w.if-n-ge10.false ∙ ap (λ (z : ℕ). (48 + z) ∷ []) (omega arith), along _ _ w.self-is (puts_none _))
    ]

pub byte-requires : goal.byte-requires
byte-requires t c =
    let l = led t (goal.at.byte-requires t c).Joined-n-ge10 in
    omega (arith, ap length l.1, length-append l.0 ((48 + c.args.n % 10) ∷ []), l.2.put.value, l.2.long, c.requires)

pub returns : goal.returns
returns t c = let l = led t (goal.at.returns t c).Joined-n-ge10 in puts_as (sym l.1) (puts_two l.2 c.byte.ensures)

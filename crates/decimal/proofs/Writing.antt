-- Bytes that are written onto an output one after another. Assumes nothing.
use Rattle.std.proofs.Common.{◌≡◌, List, ℕ, [], ◌++◌, refl, ◌∙◌, subst}
use Rattle.decimal.specs.declared.outputs.Output.{Output}
use Rattle.decimal.specs.Outputs.{Puts}
use Rattle.decimal.proofs.Putting.{put_none, put_two}

pub puts_none : (o : Output) → Puts [] o o
puts_none o = record { lent = refl; long = refl; put = put_none o.at o.run.now }

pub puts_two : {a b : List ℕ} {x y z : Output} → Puts a x y → Puts b y z → Puts (a ++ b) x z
puts_two p q = record {
  lent = q.lent ∙ p.lent;
  long = q.long ∙ p.long;
  put = put_two _ _ _ _ _ _ _ _ p.put q.put;
}

pub puts_as : {a b : List ℕ} {x y : Output} → a ≡ b → Puts a x y → Puts b x y
puts_as {x} {y} e = subst (λ (z : List ℕ). Puts z x y) e

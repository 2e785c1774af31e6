-- When a child fits, by what getting its handle answered.
use Rattle.std.proofs.Common.{◌≡◌, ℕ, ◌<◌, ltb, List, Ok, Decides, Result, subst, arith}
use Rattle.std.proofs.lemmas.Bool.{lt-ltb, ltb-true}
use Rattle.diagram.specs.declared.Node.{Node}
use Rattle.diagram.specs.Nodes.{Issued, level_of, At}
use Rattle.table.specs.declared.faults.TableFault.{TableFault}
use Rattle.table.specs.Model.{Got}

pub child_decides : (ns : List Node) (l h k : ℕ) → Issued ns h → level_of ns h ≡ k → Decides (ltb l k) (Issued ns h × (l < level_of ns h))
child_decides ns l h k i e = ((λ t. (i, (let x = ltb-true l k t in omega arith))), (λ p. lt-ltb l k (let x = p.1 in omega arith)))

pub got_at : {N : ℕ} {ns : List Node} {h : ℕ} {r : Result Node TableFault} (n : Node) → Got N ns h r → r ≡ Ok n → At ns h n
got_at {N} {ns} {h} n g e = (subst (Got N ns h) e g).outcome

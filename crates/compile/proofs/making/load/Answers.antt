use Rattle.std.proofs.Common.{sym, ap, ◌∙◌, subst, arith}
use Rattle.formula.specs.declared.steps.Step.TheVariants.{Load}
use Rattle.formula.specs.Grammar.{leaf}
use Rattle.compile.specs.Trees.{of_tree}
use Rattle.compile.specs.Steps.{Bounded}
use Rattle.compile.proofs.Stacks.{walked_as, constant_stands, constant_walked, option_function}
use Rattle.compile.proofs.making.load.Goals as goal

pub make-requires-clause-low : goal.make-requires-clause-low
make-requires-clause-low g c =
    let k = subst (λ a. Bounded (Load a)) c.in-Option.is c.requires.bounded in
    constant_stands (g.T.NodeTable.nodes c.args.manager.now.table) _ 0 (omega arith) (omega (arith, k.1))

pub make-requires-clause-high : goal.make-requires-clause-high
make-requires-clause-high g c =
    let k = subst (λ a. Bounded (Load a)) c.in-Option.is c.requires.bounded in
    constant_stands (g.T.NodeTable.nodes c.args.manager.now.table) _ 1 (omega arith) (omega (arith, k.1))

pub returns-in-Constant-clause-value : goal.returns-in-Constant-clause-value
returns-in-Constant-clause-value g c =
    let t = c.args.manager.now.table in
    rw (c.from.ensures, c.in-Constant.is) (constant_walked (g.T.NodeTable.limit t) (g.T.NodeTable.nodes t) c.in-Constant.b (g.met.T.NodeTable.sound t).formed)

pub returns-in-Option-clause-value : goal.returns-in-Option-clause-value
returns-in-Option-clause-value g c = walked_as _ (option_function (g.T.NodeTable.nodes c.args.manager.now.table) _ ∙ ap (λ a. of_tree (leaf a)) (sym c.in-Option.is)) c.make.ensures.value

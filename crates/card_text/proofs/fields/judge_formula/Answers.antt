use Rattle.std.proofs.Common.{◌≤◌, length, refl, arith}
use Rattle.card_text.specs.Faults.{broken, loose}
use Rattle.card_text.proofs.Formulas.{short_fault, place_inside}
use Rattle.card_text.proofs.fields.judge_formula.Goals as goal

pub returns-in-Some : goal.returns-in-Some
returns-in-Some c =
    let read = c.in-Ok.ensures in
    loose c.in-Some.i (record { tree = read.tree; derived = read.derived }) c.in-Some.ensures refl

pub returns-in-Err : goal.returns-in-Err
returns-in-Err c =
    let bytes = c.args.formula.now in
    let fault = c.in-Err.fault in
    let short : length bytes ≤ 4096 = omega (arith, c.requires.near) in
    let inside = place_inside bytes fault short c.in-Err.ensures in
    broken fault c.in-Err.ensures (short_fault bytes fault short c.in-Err.ensures, refl, omega (arith, c.requires.near, inside))

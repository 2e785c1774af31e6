-- The numbers and places of a graph's faults.
use Rattle.std.specs.Prelude.{ℕ}
use Rattle.formula.specs.Faults.{fault_number, fault_place}
use Rattle.table.specs.Faults as table
use Rattle.engine.specs.declared.faults.GraphFault.{GraphFault}
use Rattle.engine.specs.declared.faults.GraphFault.TheVariants.{NoOption, NoProduct, Formula, NotCondition, NotProductSet, FewPlaces, Table}

abbrev pub graph_number : GraphFault → ℕ
graph_number NoOption = 5
graph_number NoProduct = 5
graph_number (Formula e) = fault_number e
graph_number NotCondition = 10
graph_number NotProductSet = 11
graph_number FewPlaces = 12
graph_number (Table e) = table.number e.reason

abbrev pub graph_place : GraphFault → ℕ
graph_place NoOption = 0
graph_place NoProduct = 0
graph_place (Formula e) = fault_place e
graph_place NotCondition = 0
graph_place NotProductSet = 0
graph_place FewPlaces = 0
graph_place (Table e) = 0

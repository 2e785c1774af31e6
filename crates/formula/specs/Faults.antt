-- The faults' numbers and places.
use Rattle.std.specs.Prelude.{ℕ}
use Rattle.formula.specs.declared.faults.FormulaFault.{FormulaFault}
use Rattle.formula.specs.declared.faults.FormulaFault.TheVariants.{TooLong, ForeignByte, Unexpected, TooDeep}

abbrev pub fault_number : FormulaFault → ℕ
fault_number TooLong = 1
fault_number (ForeignByte p) = 2
fault_number (Unexpected p) = 3
fault_number (TooDeep p) = 4

abbrev pub fault_place : FormulaFault → ℕ
fault_place TooLong = 4096
fault_place (ForeignByte p) = p
fault_place (Unexpected p) = p
fault_place (TooDeep p) = p

-- The numbers of the faults. Assumes nothing.
use Rattle.std.specs.Prelude.{ℕ}
use Rattle.listing.specs.declared.faults.ListFault.{ListFault}
use Rattle.listing.specs.declared.faults.ListFault.TheVariants.{ShortOutput}

-- The number of a fault.
abbrev pub fault_number : ListFault → ℕ
fault_number ShortOutput = 15

-- The fault has no place in a text.
abbrev pub fault_place : ListFault → ℕ
fault_place ShortOutput = 0

-- The numbers of the faults. Assumes nothing.
use Rattle.std.specs.Prelude.{ℕ}
use Rattle.product.specs.declared.faults.ProductFault.{ProductFault}
use Rattle.product.specs.declared.faults.ProductFault.TheVariants.{NotProduct, ShortOutput}

-- The number of a fault.
abbrev pub fault_number : ProductFault → ℕ
fault_number NotProduct = 5
fault_number ShortOutput = 15

-- Neither fault has a place in a text.
abbrev pub fault_place : ProductFault → ℕ
fault_place NotProduct = 0
fault_place ShortOutput = 0

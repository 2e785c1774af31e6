-- The numbers of a table's faults.
use Rattle.std.specs.Prelude.{ℕ}
use Rattle.table.specs.declared.faults.Reason.{Reason}
use Rattle.table.specs.declared.faults.Reason.TheVariants.{NotIssued, IllFormed, Full}
use Rattle.table.specs.declared.faults.TableFault.{TableFault}

abbrev pub number : Reason → ℕ
number NotIssued = 9
number IllFormed = 13
number Full = 14

-- a fault of a table of size N
abbrev pub fault : Reason → ℕ → TableFault
fault r N = record { reason = r; size = N }

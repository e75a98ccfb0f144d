-- The kinds of faults: their names and their order.
use Rattle.std.specs.Prelude.{ℕ, List, codes}
use Rattle.ib_meaning.specs.declared.fault.FaultKind.{FaultKind}
use Rattle.ib_meaning.specs.declared.fault.FaultKind.TheVariants.{DivZero, DivOverflow, BadAddress, Bounds, StackOverflow}

abbrev pub kind_name : FaultKind → List ℕ
kind_name DivZero = codes "DivZero"
kind_name DivOverflow = codes "DivOverflow"
kind_name BadAddress = codes "BadAddress"
kind_name Bounds = codes "Bounds"
kind_name StackOverflow = codes "StackOverflow"

abbrev pub kind_number : FaultKind → ℕ
kind_number DivZero = 1
kind_number DivOverflow = 2
kind_number BadAddress = 3
kind_number Bounds = 4
kind_number StackOverflow = 5

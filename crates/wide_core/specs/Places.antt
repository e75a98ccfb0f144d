-- Registers and slots, and functions from them.
use Rattle.std.specs.Prelude.{ℤ, pos, Bool, false, ◌==◌, List, slice_index_or, Option, Some, None, if◌then◌else◌}
use Rattle.wide_core.specs.declared.code.Loc.{Loc}
use Rattle.wide_core.specs.declared.code.Loc.TheVariants.{Reg, Slot}
use Rattle.wide_core.specs.declared.code.Tagged.{Tagged}
use Rattle.wide_core.specs.declared.code.Tagged.TheVariants.{Clear}

abbrev pub same_loc : Loc → Loc → Bool
same_loc (Reg a) (Reg b) = a == b
same_loc (Reg a) (Slot b) = false
same_loc (Slot a) (Reg b) = false
same_loc (Slot a) (Slot b) = a == b

-- f, but for v at the place
abbrev pub put : {A : Type 0} → Loc → A → (Loc → A) → Loc → A
put loc v f other = if same_loc other loc then v else f other

abbrev pub put_if : {A : Type 0} → Option Loc → A → (Loc → A) → Loc → A
put_if None v f = f
put_if (Some loc) v f = put loc v f

-- a list of registers as a function of places: its numbers, clear, and 0 wherever it has none
abbrev pub in_registers : List ℤ → Loc → Tagged
in_registers regs (Reg r) = Clear (slice_index_or regs r (pos 0))
in_registers regs (Slot s) = Clear (pos 0)

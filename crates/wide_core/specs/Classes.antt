-- The kinds of operations: by the units that execute them, by what they may change, and by where control goes behind them.
use Rattle.std.specs.Prelude.{Bool, true, false}
use Rattle.machine_desc.specs.declared.machine.OpClass.{OpClass}
use Rattle.machine_desc.specs.declared.machine.OpClass.TheVariants.{Alu, Mul, Mem, Io, Control}
use Rattle.ib_act.specs.declared.act.Act.{Act}
use Rattle.ib_act.specs.declared.act.Act.TheVariants.{Bounds, Mul as Times, Div, Rem, Load, Store, Get, PutByte, PutNumber}
use Rattle.wide_core.specs.declared.code.WideAct.{WideAct}
use Rattle.wide_core.specs.declared.code.WideAct.TheVariants.{Do, Spill, Reload, Check, Jump, Branch, BranchZero, Call, Return}

abbrev pub class_of_act : Act → OpClass
class_of_act (Times size to left right) = Mul
class_of_act (Div size to left right) = Mul
class_of_act (Rem size to left right) = Mul
class_of_act (Load width to base offset) = Mem
class_of_act (Store width base offset from) = Mem
class_of_act (Get to) = Io
class_of_act (PutByte from) = Io
class_of_act (PutNumber from) = Io
class_of_act act = Alu

abbrev pub class_of : WideAct → OpClass
class_of (Do act) = class_of_act act
class_of (Spill to from) = Mem
class_of (Reload to from) = Mem
class_of (Check from) = Alu
class_of (Jump to) = Control
class_of (Branch from to) = Control
class_of (BranchZero from to) = Control
class_of (Call result func next args) = Control
class_of (Return from) = Control

-- it changes nothing but a register
abbrev pub is_register_act : Act → Bool
is_register_act (Store width base offset from) = false
is_register_act (Get to) = false
is_register_act (PutByte from) = false
is_register_act (PutNumber from) = false
is_register_act act = true

-- the register operations, which may be flagged
abbrev pub is_register : WideAct → Bool
is_register (Do act) = is_register_act act
is_register act = false

abbrev pub traps_act : Act → Bool
traps_act (Bounds to from bound) = true
traps_act (Div size to left right) = true
traps_act (Rem size to left right) = true
traps_act (Load width to base offset) = true
traps_act act = false

-- a register operation that may fault
abbrev pub traps : WideAct → Bool
traps (Do act) = traps_act act
traps act = false

abbrev pub is_control : WideAct → Bool
is_control (Jump to) = true
is_control (Branch from to) = true
is_control (BranchZero from to) = true
is_control (Call result func next args) = true
is_control (Return from) = true
is_control act = false

-- control never goes on behind it
abbrev pub ends : WideAct → Bool
ends (Jump to) = true
ends (Call result func next args) = true
ends (Return from) = true
ends act = false

-- control may go elsewhere in the function, or into another
abbrev pub can_go : WideAct → Bool
can_go (Jump to) = true
can_go (Branch from to) = true
can_go (BranchZero from to) = true
can_go (Call result func next args) = true
can_go act = false

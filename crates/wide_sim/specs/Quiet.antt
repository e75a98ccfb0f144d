-- Words that need nothing but the machine: their operations begin no call, and ask the host for nothing.
use Rattle.std.specs.Prelude.{Bool, true, false, List}
use Rattle.std.specs.List.{list_all}
use Rattle.ib_act.specs.declared.act.Act.{Act}
use Rattle.ib_act.specs.declared.act.Act.TheVariants.{Get, PutByte as PutsByte, PutNumber as PutsNumber}
use Rattle.wide_core.specs.declared.code.WideAct.{WideAct}
use Rattle.wide_core.specs.declared.code.WideAct.TheVariants.{Do, Call as Calls}
use Rattle.wide_core.specs.declared.code.WideOp.{WideOp}
use Rattle.wide_sim.specs.declared.planned.Planned.{Planned}
use Rattle.wide_sim.specs.declared.planned.Planned.TheVariants.{Take, PutByte, PutNumber, Call}

abbrev pub is_quiet_act : Act → Bool
is_quiet_act (Get to) = false
is_quiet_act (PutsByte from) = false
is_quiet_act (PutsNumber from) = false
is_quiet_act act = true

abbrev pub is_quiet : WideAct → Bool
is_quiet (Do act) = is_quiet_act act
is_quiet (Calls result func next args) = false
is_quiet act = true

abbrev pub is_quiet_word : List WideOp → Bool
is_quiet_word ops = list_all (λ op. is_quiet op.act) ops

-- the same of what an operation is to do
abbrev pub is_quiet_plan : Planned → Bool
is_quiet_plan (Take to) = false
is_quiet_plan (PutByte byte) = false
is_quiet_plan (PutNumber z) = false
is_quiet_plan (Call result func next args) = false
is_quiet_plan f = true

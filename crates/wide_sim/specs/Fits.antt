-- What operations and effects touch is among so many registers and slots.
use Rattle.std.specs.Prelude.{ℕ, Bool, true, nat_lt}
use Rattle.std.specs.List.{list_all}
use Rattle.wide_core.specs.declared.code.WideOp.{WideOp}
use Rattle.wide_core.specs.Cycle.{touched}
use Rattle.wide_core.specs.Valid.{is_within}
use Rattle.wide_sim.specs.declared.planned.Planned.{Planned}
use Rattle.wide_sim.specs.declared.planned.Planned.TheVariants.{Write, Take}

abbrev pub op_fits : (regs slots : ℕ) → WideOp → Bool
op_fits regs slots op = list_all (is_within regs slots) (touched op.act)

abbrev pub planned_fits : (regs slots : ℕ) → Planned → Bool
planned_fits regs slots (Write to value) = is_within regs slots to
planned_fits regs slots (Take to) = nat_lt to regs
planned_fits regs slots f = true

-- The machines as values, and what code means on them.
use Rattle.std.specs.Prelude.{ℕ}
use Rattle.ib_meaning.specs.Agreement.{Meaning}
use Rattle.machine_desc.specs.declared.machine.OpClass.{OpClass}
use Rattle.machine_desc.specs.Machine.{four_units, four_latency}
use Rattle.wide_core.specs.declared.code.RawCode.{RawCode}
use Rattle.wide_core.specs.Meaning.{wide_meaning}
use Rattle.wide_core.specs.Valid.{Limits, limits}

-- how wide a machine's words are, how many registers it has, and for each class how many units there are and when its
-- results are ready
pub record Table : Type 0 where
  pub width : ℕ
  pub regs : ℕ
  pub units : OpClass → ℕ
  pub latency : OpClass → ℕ

abbrev pub four : Table
four = record { width = 4; regs = 32; units = four_units; latency = four_latency }

-- the rules of valid code for the machine
abbrev pub limits_of : Table → Limits
limits_of table = limits table.width table.regs table.units

-- what code means on the machine
abbrev pub code_meaning : Table → RawCode → Meaning
code_meaning table code = wide_meaning table.latency code

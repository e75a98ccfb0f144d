-- A machine's table: the laws that it keeps, and the tables of the three machines.
use Rattle.std.specs.Prelude.{◌≡◌, ℕ, ◌≤◌}
use Rattle.machine_desc.specs.declared.machine.OpClass.{OpClass}
use Rattle.machine_desc.specs.declared.machine.OpClass.TheVariants.{Alu, Mul, Mem, Io, Control}

-- how wide the words are, how many registers there are, and for each class how many units there are and when its
-- results are ready
pub record IsTable (width regs : ℕ) (units latency : OpClass → ℕ) : Type 0 where
  pub some_unit : (class : OpClass) → 1 ≤ units class
  pub units_fit : (class : OpClass) → units class ≤ width
  pub one_io : units Io ≡ 1
  pub one_control : units Control ≡ 1
  pub takes_time : (class : OpClass) → 1 ≤ latency class
  pub soon_ready : (class : OpClass) → latency class ≤ 16
  pub least_regs : 16 ≤ regs
  pub most_regs : regs ≤ 1048576
  pub most_width : width ≤ 64

abbrev pub narrow_units : OpClass → ℕ
narrow_units class = 1

abbrev pub narrow_latency : OpClass → ℕ
narrow_latency Alu = 1
narrow_latency Mul = 3
narrow_latency Mem = 2
narrow_latency Io = 1
narrow_latency Control = 1

abbrev pub four_units : OpClass → ℕ
four_units Alu = 4
four_units Mul = 2
four_units Mem = 2
four_units Io = 1
four_units Control = 1

abbrev pub four_latency : OpClass → ℕ
four_latency Alu = 1
four_latency Mul = 4
four_latency Mem = 2
four_latency Io = 1
four_latency Control = 1

abbrev pub eight_units : OpClass → ℕ
eight_units Alu = 8
eight_units Mul = 4
eight_units Mem = 4
eight_units Io = 1
eight_units Control = 1

abbrev pub eight_latency : OpClass → ℕ
eight_latency Alu = 1
eight_latency Mul = 6
eight_latency Mem = 3
eight_latency Io = 1
eight_latency Control = 1

-- The three machines' tables keep the laws.
use Rattle.std.specs.Prelude.{refl}
use Rattle.std.proofs.Common.{lit≤}
use Rattle.machine_desc.specs.declared.machine.OpClass.TheVariants.{Alu, Mul, Mem, Io, Control}
use Rattle.machine_desc.specs.Machine.{IsTable, narrow_units, narrow_latency, four_units, four_latency, eight_units, eight_latency}

pub narrow_is_table : IsTable 1 16 narrow_units narrow_latency
narrow_is_table = record {
  some_unit = λ class. lit≤ tt;
  units_fit = λ class. lit≤ tt;
  one_io = refl;
  one_control = refl;
  takes_time = elim [ Alu ↦ lit≤ tt | Mul ↦ lit≤ tt | Mem ↦ lit≤ tt | Io ↦ lit≤ tt | Control ↦ lit≤ tt ];
  soon_ready = elim [ Alu ↦ lit≤ tt | Mul ↦ lit≤ tt | Mem ↦ lit≤ tt | Io ↦ lit≤ tt | Control ↦ lit≤ tt ];
  least_regs = lit≤ tt;
  most_regs = lit≤ tt;
  most_width = lit≤ tt;
}

pub four_is_table : IsTable 4 32 four_units four_latency
four_is_table = record {
  some_unit = elim [ Alu ↦ lit≤ tt | Mul ↦ lit≤ tt | Mem ↦ lit≤ tt | Io ↦ lit≤ tt | Control ↦ lit≤ tt ];
  units_fit = elim [ Alu ↦ lit≤ tt | Mul ↦ lit≤ tt | Mem ↦ lit≤ tt | Io ↦ lit≤ tt | Control ↦ lit≤ tt ];
  one_io = refl;
  one_control = refl;
  takes_time = elim [ Alu ↦ lit≤ tt | Mul ↦ lit≤ tt | Mem ↦ lit≤ tt | Io ↦ lit≤ tt | Control ↦ lit≤ tt ];
  soon_ready = elim [ Alu ↦ lit≤ tt | Mul ↦ lit≤ tt | Mem ↦ lit≤ tt | Io ↦ lit≤ tt | Control ↦ lit≤ tt ];
  least_regs = lit≤ tt;
  most_regs = lit≤ tt;
  most_width = lit≤ tt;
}

pub eight_is_table : IsTable 8 64 eight_units eight_latency
eight_is_table = record {
  some_unit = elim [ Alu ↦ lit≤ tt | Mul ↦ lit≤ tt | Mem ↦ lit≤ tt | Io ↦ lit≤ tt | Control ↦ lit≤ tt ];
  units_fit = elim [ Alu ↦ lit≤ tt | Mul ↦ lit≤ tt | Mem ↦ lit≤ tt | Io ↦ lit≤ tt | Control ↦ lit≤ tt ];
  one_io = refl;
  one_control = refl;
  takes_time = elim [ Alu ↦ lit≤ tt | Mul ↦ lit≤ tt | Mem ↦ lit≤ tt | Io ↦ lit≤ tt | Control ↦ lit≤ tt ];
  soon_ready = elim [ Alu ↦ lit≤ tt | Mul ↦ lit≤ tt | Mem ↦ lit≤ tt | Io ↦ lit≤ tt | Control ↦ lit≤ tt ];
  least_regs = lit≤ tt;
  most_regs = lit≤ tt;
  most_width = lit≤ tt;
}

-- A run as plain data.
use Rattle.std.specs.Prelude.{map}
use Rattle.c_eval.specs.declared.machine.Machine as code
use Rattle.c_eval.specs.Pending.{Machine}
use Rattle.c_eval.specs.Views.{frame_of}

abbrev pub machine_of : code.Machine → Machine
machine_of m = record { frames = map frame_of m.frames; arguments = m.arguments; depth = m.depth; base = m.base; top = m.top; slots = m.slots; memory = m.memory }

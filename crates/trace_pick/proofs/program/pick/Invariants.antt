use Rattle.trace_pick.specs.Tables.{AreTracesUpto}
use Rattle.trace_pick.proofs.program.pick.Given as goal

abbrev pub invariant-loop-i : goal.invariant-loop-i
invariant-loop-i l = AreTracesUpto l.funcs l.counted l.i l.traces

use Rattle.trace_pick.specs.Settled.{AreSettledUpto}
use Rattle.trace_pick.proofs.sums.sums_of.Given as goal

abbrev pub invariant-loop-i : goal.invariant-loop-i
invariant-loop-i l = AreSettledUpto l.func l.counts l.i l.cut l.seen l.sums

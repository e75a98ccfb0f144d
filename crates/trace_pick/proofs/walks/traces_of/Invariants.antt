use Rattle.trace_pick.specs.Tables.{behind, begins, AreWalks}
use Rattle.trace_pick.proofs.walks.traces_of.Given as goal

abbrev pub invariant-loop-i : goal.invariant-loop-i
invariant-loop-i l = AreWalks (behind l.blocks l.prior l.next l.sums) (begins l.blocks l.prior l.sums) l.i l.chains

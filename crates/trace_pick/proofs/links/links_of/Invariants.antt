use Rattle.trace_pick.specs.Tables.{AreLinks}
use Rattle.trace_pick.proofs.links.links_of.Given as goal

abbrev pub invariant-loop-i : goal.invariant-loop-i
invariant-loop-i l = AreLinks l.func l.counts l.i l.prior l.next

use Rattle.std.proofs.Common.{◌≡◌, false, replicate}
use Rattle.trace_pick.proofs.sums.no_marks.Given as goal

abbrev pub invariant-loop-block : goal.invariant-loop-block
invariant-loop-block l = l.list ≡ replicate l._block false

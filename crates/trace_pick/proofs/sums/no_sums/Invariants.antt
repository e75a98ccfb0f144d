use Rattle.std.proofs.Common.{◌≡◌, replicate}
use Rattle.trace_pick.proofs.sums.no_sums.Given as goal

abbrev pub invariant-loop-block : goal.invariant-loop-block
invariant-loop-block l = l.list ≡ replicate l._block 0

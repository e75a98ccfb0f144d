use Rattle.std.proofs.Common.{◌≡◌, None, replicate}
use Rattle.trace_pick.proofs.links.no_labels.Given as goal

abbrev pub invariant-loop-block : goal.invariant-loop-block
invariant-loop-block l = l.list ≡ replicate l._block None

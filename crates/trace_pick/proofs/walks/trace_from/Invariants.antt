use Rattle.std.proofs.Common.{◌-◌}
use Rattle.trace_pick.specs.Tables.{behind, sum_at, IsWalkTo}
use Rattle.trace_pick.proofs.walks.trace_from.Given as goal

abbrev pub invariant-along : goal.invariant-along
invariant-along l = IsWalkTo (behind l.blocks l.prior l.next l.sums) l.first l.at l.chain

abbrev pub decreases-along : goal.decreases-along
decreases-along l = 2048 - sum_at l.sums l.at

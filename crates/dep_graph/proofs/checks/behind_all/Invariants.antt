use Rattle.std.proofs.Common.{◌≤◌, length, drop}
use Rattle.dep_graph.specs.Carriers.{AreBehind}
use Rattle.dep_graph.proofs.checks.behind_all.Given as goal

abbrev pub invariant-loop-left : goal.invariant-loop-left
invariant-loop-left l =
    record { behind : AreBehind (drop l.left l.items) l.behind.chain l.behind.carriers; within : l.left ≤ length l.items }

abbrev pub decreases-loop-left : goal.decreases-loop-left
decreases-loop-left l = l.left

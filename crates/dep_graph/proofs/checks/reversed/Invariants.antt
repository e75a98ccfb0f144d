use Rattle.std.proofs.Common.{◌≡◌, ◌≤◌, length, drop}
use Rattle.dep_graph.specs.Carriers.{backwards}
use Rattle.dep_graph.proofs.checks.reversed.Given as goal

abbrev pub invariant-loop-left : goal.invariant-loop-left
invariant-loop-left l = record { turned : l.back ≡ backwards (drop l.left l.list); within : l.left ≤ length l.list }

abbrev pub decreases-loop-left : goal.decreases-loop-left
decreases-loop-left l = l.left

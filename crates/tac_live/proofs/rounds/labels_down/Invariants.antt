use Rattle.std.proofs.Common.{◌<◌, ◌≤◌, ℕ}
use Rattle.std.specs.List.{Contains}
use Rattle.tac_live.proofs.rounds.labels_down.Given as goal

abbrev pub invariant-loop-left : goal.invariant-loop-left
invariant-loop-left l = (k : ℕ) → l.left ≤ k → k < l.count → Contains l.labels k

abbrev pub decreases-loop-left : goal.decreases-loop-left
decreases-loop-left l = l.left

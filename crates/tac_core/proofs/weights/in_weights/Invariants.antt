use Rattle.tac_core.specs.Weights.{AreByLabel, entries_at, count_to}
use Rattle.tac_core.proofs.Sums.{so_far}
use Rattle.tac_core.proofs.weights.in_weights.Given as goal

abbrev pub invariant-loop-i : goal.invariant-loop-i
invariant-loop-i l = AreByLabel (so_far (entries_at l.counts.entries) count_to l.i l.edges) l.blocks l.list

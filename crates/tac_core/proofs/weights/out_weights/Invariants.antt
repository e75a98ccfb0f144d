use Rattle.tac_core.specs.Weights.{AreByLabel, entries_at, count_from}
use Rattle.tac_core.proofs.Sums.{so_far}
use Rattle.tac_core.proofs.weights.out_weights.Given as goal

abbrev pub invariant-loop-i : goal.invariant-loop-i
invariant-loop-i l = AreByLabel (so_far (entries_at 0) count_from l.i l.edges) l.blocks l.list

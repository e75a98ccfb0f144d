use Rattle.tac_core.specs.Weights.{AreByLabel, entries_at}
use Rattle.tac_core.proofs.weights.entered.Given as goal

abbrev pub invariant-loop-label : goal.invariant-loop-label
invariant-loop-label l = AreByLabel (entries_at l.entries) l.label l.list

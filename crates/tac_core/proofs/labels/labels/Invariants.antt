use Rattle.std.proofs.Common.{◌≡◌}
use Rattle.tac_core.specs.Cover.{upto}
use Rattle.tac_core.proofs.labels.labels.Given as goal

abbrev pub invariant-loop-label : goal.invariant-loop-label
invariant-loop-label l = l.list ≡ upto l.label

use Rattle.std.proofs.Common.{◌≡◌}
use Rattle.tac_core.specs.Cover.{upto}
use Rattle.tail_dup.proofs.function.own_labels.Given as goal

abbrev pub invariant-loop-label : goal.invariant-loop-label
invariant-loop-label l = l.labels ≡ upto l.label

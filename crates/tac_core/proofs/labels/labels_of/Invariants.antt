use Rattle.std.proofs.Common.{◌≡◌, take}
use Rattle.tac_core.specs.Cover.{own_labels}
use Rattle.tac_core.proofs.labels.labels_of.Given as goal

abbrev pub invariant-loop-func : goal.invariant-loop-func
invariant-loop-func l = l.lists ≡ own_labels (take l.func-index l.funcs)

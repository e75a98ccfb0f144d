use Rattle.std.proofs.Common.{◌≡◌}
use Rattle.tail_dup.specs.Duplicated.{labels_behind}
use Rattle.tail_dup.proofs.copies.copy_labels.Given as goal

abbrev pub invariant-loop-copy : goal.invariant-loop-copy
invariant-loop-copy l = l.labels ≡ labels_behind l.blocks l.copy

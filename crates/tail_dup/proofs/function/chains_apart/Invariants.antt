use Rattle.std.proofs.Common.{◌≡◌, take}
use Rattle.tac_core.specs.Traces.{apart}
use Rattle.tail_dup.proofs.function.chains_apart.Given as goal

abbrev pub invariant-loop-label : goal.invariant-loop-label
invariant-loop-label l = l.list ≡ apart (take l.label-index l.labels)

use Rattle.std.proofs.Common.{◌≡◌, take}
use Rattle.tac_core.specs.Traces.{apart}
use Rattle.code_tests.proofs.covers.chains_apart.Given as goal

abbrev pub invariant-loop-label : goal.invariant-loop-label
invariant-loop-label l = l.chains ≡ apart (take l.label-index l.labels)

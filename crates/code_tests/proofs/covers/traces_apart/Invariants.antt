use Rattle.std.proofs.Common.{◌≡◌, map, take}
use Rattle.tac_core.specs.Traces.{apart}
use Rattle.code_tests.proofs.covers.traces_apart.Given as goal

abbrev pub invariant-loop-list : goal.invariant-loop-list
invariant-loop-list l = l.funcs ≡ map apart (take l.list-index l.labels)

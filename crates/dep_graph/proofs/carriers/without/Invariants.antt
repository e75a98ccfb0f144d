use Rattle.std.proofs.Common.{◌≡◌, ◌++◌, drop}
use Rattle.dep_graph.specs.Carriers.{without}
use Rattle.dep_graph.proofs.carriers.without.Given as goal

abbrev pub invariant-loop-other : goal.invariant-loop-other
invariant-loop-other l = l.rest ++ without l.reg (drop l.other-index l.list) ≡ without l.reg l.list

use Rattle.std.proofs.Common.{◌≡◌, drop}
use Rattle.wide_core.specs.Uses.{in_list}
use Rattle.dep_graph.proofs.carriers.contains.Given as goal

abbrev pub invariant-loop-other : goal.invariant-loop-other
invariant-loop-other l = in_list l.reg (drop l.other-index l.list) ≡ in_list l.reg l.list

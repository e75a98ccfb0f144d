use Rattle.std.proofs.Common.{◌≡◌, drop}
use Rattle.std.specs.List.{list_any}
use Rattle.wide_core.specs.Valid.{always_leaves}
use Rattle.wide_core.proofs.valid.leaves.Given as goal

abbrev pub invariant-loop-op : goal.invariant-loop-op
invariant-loop-op l = list_any always_leaves (drop l.op-index l.ops) ≡ list_any always_leaves l.ops

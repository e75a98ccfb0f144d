use Rattle.std.proofs.Common.{◌≡◌, ◌≤◌, ◌+◌, drop}
use Rattle.wide_core.specs.Valid.{count_of}
use Rattle.wide_core.proofs.valid.count_of.Given as goal

abbrev pub invariant-loop-op : goal.invariant-loop-op
invariant-loop-op l = (l.count + count_of l.class (drop l.op-index l.ops) ≡ count_of l.class l.ops) × (l.count ≤ l.op-index)

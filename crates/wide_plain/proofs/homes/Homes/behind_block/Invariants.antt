use Rattle.std.proofs.Common.{◌≡◌, ◌+◌, take}
use Rattle.std.specs.List.{sum_by}
use Rattle.wide_plain.specs.Sizes.{op_size}
use Rattle.wide_plain.proofs.homes.Homes.behind_block.Given as goal

abbrev pub invariant-loop-op : goal.invariant-loop-op
invariant-loop-op l = l.behind ≡ l.first + sum_by (op_size l.self.low) (take l.op-index l.block.ops)

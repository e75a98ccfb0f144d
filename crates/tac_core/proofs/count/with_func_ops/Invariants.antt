use Rattle.std.proofs.Common.{◌≡◌, ◌+◌, take}
use Rattle.std.specs.List.{sum_by}
use Rattle.tac_core.specs.Program.{block_ops, capped}
use Rattle.tac_core.proofs.count.with_func_ops.Given as goal

abbrev pub invariant-loop-block : goal.invariant-loop-block
invariant-loop-block l = l.total ≡ capped (l.before + sum_by block_ops (take l.block-index l.func.blocks))

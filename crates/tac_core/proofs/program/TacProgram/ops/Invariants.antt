use Rattle.std.proofs.Common.{◌≡◌, take}
use Rattle.std.specs.List.{sum_by}
use Rattle.tac_core.specs.Program.{func_ops, capped}
use Rattle.tac_core.proofs.program.TacProgram.ops.Given as goal

abbrev pub invariant-loop-func : goal.invariant-loop-func
invariant-loop-func l = l.total ≡ capped (sum_by func_ops (take l.func-index l.self.funcs))

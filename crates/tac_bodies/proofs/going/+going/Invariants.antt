use Rattle.std.proofs.Common.{◌≡◌, ◌+◌, ◌*◌, ◌≤◌, map, drop}
use Rattle.c_typed.specs.Tree.{stms}
use Rattle.c_typed.specs.Views.{stmt_of}
use Rattle.c_kept.specs.Weights.{weight_stm, weight_stms}
use Rattle.tac_lowered.specs.Statements.{go_on}
use Rattle.tac_bodies.proofs.going.+going.Given as goal

abbrev pub decreases-goes_on : goal.decreases-goes_on
decreases-goes_on l = 2 * weight_stm (stmt_of l.stmt.now)

abbrev pub decreases-go_on : goal.decreases-go_on
decreases-go_on l = 2 * weight_stms (stms (map stmt_of l.list.now)) + 1

abbrev pub invariant-go_on-loop-stmt : goal.invariant-go_on-loop-stmt
invariant-go_on-loop-stmt l = let left = stms (map stmt_of (drop l.stmt-index l.list)) in let all = stms (map stmt_of l.list) in record {
  same : go_on all ≡ go_on left;
  fewer : weight_stms left ≤ weight_stms all;
}

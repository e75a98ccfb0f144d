use Rattle.std.proofs.Common.{◌≡◌, ◌+◌, ◌*◌, map, take}
use Rattle.c_typed.specs.Tree.{stms}
use Rattle.c_typed.specs.Views.{stmt_of}
use Rattle.c_program.specs.Checked.{program}
use Rattle.c_kept.specs.Weights.{weight_stm, weight_stms}
use Rattle.tac_lowered.specs.Statements.{low_stm}
use Rattle.tac_code.specs.Views.{code_of}
use Rattle.tac_bodies.proofs.statements.+statements.Given as goal

abbrev pub decreases-low_stm : goal.decreases-low_stm
decreases-low_stm l = 2 * weight_stm (stmt_of l.stmt.now)

abbrev pub decreases-if_then : goal.decreases-if_then
decreases-if_then l = 2 * weight_stm (stmt_of l.«then».now) + 1

abbrev pub decreases-if_else : goal.decreases-if_else
decreases-if_else l = 2 * (weight_stm (stmt_of l.«then».now) + weight_stm (stmt_of l.other.now)) + 1

abbrev pub decreases-while_loop : goal.decreases-while_loop
decreases-while_loop l = 2 * weight_stm (stmt_of l.body.now) + 1

abbrev pub decreases-do_while : goal.decreases-do_while
decreases-do_while l = 2 * weight_stm (stmt_of l.body.now) + 1

abbrev pub decreases-for_loop : goal.decreases-for_loop
decreases-for_loop l = 2 * weight_stm (stmt_of l.body.now) + 1

abbrev pub decreases-low_stms : goal.decreases-low_stms
decreases-low_stms l = 2 * weight_stms (stms (map stmt_of l.list.now)) + 1

abbrev pub invariant-low_stms-loop-stmt : goal.invariant-low_stms-loop-stmt
invariant-low_stms-loop-stmt l = map code_of l.made.items ≡ map (λ a. low_stm (program l.fn.program) (stmt_of a) l.fn.free) (take l.stmt-index l.first)

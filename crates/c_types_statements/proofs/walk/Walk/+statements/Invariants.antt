use Rattle.std.proofs.Common.{◌+◌, ◌*◌, ◌≤◌, map, drop}
use Rattle.std.specs.Option.{option_map}
use Rattle.c_ast.specs.Trees.{stms}
use Rattle.c_ast.specs.TreeViews.{stmt_of}
use Rattle.c_types_homes.proofs.Weights.{statement_weight, statement_weights}
use Rattle.c_types_statements.specs.Keeping.{rows_of}
use Rattle.c_types_statements.proofs.Left.{StatementsLeft}
use Rattle.c_types_statements.proofs.walk.Walk.+statements.Given as goal

abbrev pub decreases-stmt : goal.decreases-stmt
decreases-stmt l = 4 * statement_weight (stmt_of l.stmt.now)

abbrev pub decreases-inner : goal.decreases-inner
decreases-inner l = 4 * statement_weight (stmt_of l.stmt.now) + 1

abbrev pub decreases-if_then : goal.decreases-if_then
decreases-if_then l = 4 * statement_weight (stmt_of l.body.now) + 2

abbrev pub decreases-while_loop : goal.decreases-while_loop
decreases-while_loop l = 4 * statement_weight (stmt_of l.body.now) + 2

abbrev pub decreases-do_while : goal.decreases-do_while
decreases-do_while l = 4 * statement_weight (stmt_of l.body.now) + 2

abbrev pub decreases-for_loop : goal.decreases-for_loop
decreases-for_loop l = 4 * statement_weight (stmt_of l.body.now) + 2

abbrev pub decreases-if_else : goal.decreases-if_else
decreases-if_else l = 4 * (statement_weight (stmt_of l.body.now) + statement_weight (stmt_of l.other.now)) + 2

abbrev pub decreases-block : goal.decreases-block
decreases-block l = 4 * statement_weights (stms (map stmt_of l.list.now)) + 2

abbrev pub decreases-stmts : goal.decreases-stmts
decreases-stmts l = 4 * statement_weights (stms (map stmt_of l.list.now)) + 1

abbrev pub invariant-stmts-loop-stmt : goal.invariant-stmts-loop-stmt
invariant-stmts-loop-stmt l = let left = stms (map stmt_of (drop l.stmt-index l.list)) in let all = stms (map stmt_of l.list) in record {
  so_far : StatementsLeft l.context.result l.context.homes.now l.in_loop l.fn.self l.self (option_map rows_of l.typed) left all;
  lighter : statement_weights left ≤ statement_weights all;
}

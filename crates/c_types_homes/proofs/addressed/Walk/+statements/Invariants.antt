use Rattle.std.proofs.Common.{◌≡◌, ℕ, ◌+◌, ◌*◌, ◌≤◌, ◌++◌, length, map, drop}
use Rattle.c_ast.specs.Trees.{stms}
use Rattle.c_ast.specs.TreeViews.{stmt_of}
use Rattle.c_types_homes.specs.Addressed.{variables_of, taken_in_all, with_names_of}
use Rattle.c_types_homes.proofs.Weights.{statement_weight, statement_weights}
use Rattle.c_types_homes.proofs.addressed.Walk.+statements.Given as goal

abbrev pub decreases-stmt : goal.decreases-stmt
decreases-stmt l = 4 * statement_weight (stmt_of l.stmt.now)

abbrev pub decreases-inner : goal.decreases-inner
decreases-inner l = 4 * statement_weight (stmt_of l.stmt.now) + 1

abbrev pub decreases-tested : goal.decreases-tested
decreases-tested l = 4 * statement_weight (stmt_of l.body.now) + 2

abbrev pub decreases-do_while : goal.decreases-do_while
decreases-do_while l = 4 * statement_weight (stmt_of l.body.now) + 2

abbrev pub decreases-for_loop : goal.decreases-for_loop
decreases-for_loop l = 4 * statement_weight (stmt_of l.body.now) + 3

abbrev pub decreases-for_parts : goal.decreases-for_parts
decreases-for_parts l = 4 * statement_weight (stmt_of l.body.now) + 2

abbrev pub decreases-if_else : goal.decreases-if_else
decreases-if_else l = 4 * (statement_weight (stmt_of l.body.now) + statement_weight (stmt_of l.other.now)) + 2

abbrev pub decreases-block : goal.decreases-block
decreases-block l = 4 * statement_weights (stms (map stmt_of l.list.now)) + 2

abbrev pub decreases-stmts : goal.decreases-stmts
decreases-stmts l = 4 * statement_weights (stms (map stmt_of l.list.now)) + 1

abbrev pub invariant-stmts-loop-stmt : goal.invariant-stmts-loop-stmt
invariant-stmts-loop-stmt l = let left = stms (map stmt_of (drop l.stmt-index l.list)) in let all = stms (map stmt_of l.list) in record {
  names : with_names_of left l.self.next l.self.names ≡ with_names_of all l.fn.self.next l.fn.self.names;
  next : l.self.next + length (variables_of left) ≡ l.fn.self.next + length (variables_of all);
  shapes : l.self.shapes ++ variables_of left ≡ l.fn.self.shapes ++ variables_of all;
  taken : l.self.taken ++ taken_in_all l.self.names l.self.next left ≡ l.fn.self.taken ++ taken_in_all l.fn.self.names l.fn.self.next all;
  lighter : statement_weights left ≤ statement_weights all;
}

use Rattle.std.proofs.Common.{◌≡◌, ◌+◌, ◌*◌, ◌≤◌, map, drop}
use Rattle.c_ast.specs.Trees.{stms}
use Rattle.c_ast.specs.TreeViews.{stmt_of}
use Rattle.c_program.specs.Nodes.{nodes_in, nodes_in_all}
use Rattle.c_program.proofs.count.Counter.+statements.Given as goal

abbrev pub decreases-stmt : goal.decreases-stmt
decreases-stmt l = 3 * nodes_in (stmt_of l.stmt.now)

abbrev pub decreases-tested : goal.decreases-tested
decreases-tested l = 3 * nodes_in (stmt_of l.body.now) + 1

abbrev pub decreases-for_loop : goal.decreases-for_loop
decreases-for_loop l = 3 * nodes_in (stmt_of l.body.now) + 1

abbrev pub decreases-if_else : goal.decreases-if_else
decreases-if_else l = 3 * (nodes_in (stmt_of l.body.now) + nodes_in (stmt_of l.other.now)) + 2

abbrev pub decreases-stmts : goal.decreases-stmts
decreases-stmts l = 3 * nodes_in_all (stms (map stmt_of l.list.now)) + 1

abbrev pub invariant-stmts-loop-stmt : goal.invariant-stmts-loop-stmt
invariant-stmts-loop-stmt l = let left = stms (map stmt_of (drop l.stmt-index l.list)) in let all = stms (map stmt_of l.list) in record {
  counted : l.self.nodes + nodes_in_all left ≡ l.fn.self.nodes + nodes_in_all all;
  fewer : nodes_in_all left ≤ nodes_in_all all;
}

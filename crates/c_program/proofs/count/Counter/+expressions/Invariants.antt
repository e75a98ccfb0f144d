use Rattle.std.proofs.Common.{◌≡◌, ◌+◌, ◌*◌, ◌≤◌, map, drop}
use Rattle.c_ast.specs.Trees.{exps}
use Rattle.c_ast.specs.TreeViews.{expr_of}
use Rattle.c_program.specs.Nodes.{nodes, nodes_of}
use Rattle.c_program.proofs.count.Counter.+expressions.Given as goal

abbrev pub decreases-expr : goal.decreases-expr
decreases-expr l = 3 * nodes (expr_of l.expr.now)

abbrev pub decreases-two : goal.decreases-two
decreases-two l = 3 * (nodes (expr_of l.a.now) + nodes (expr_of l.b.now)) + 1

abbrev pub decreases-three : goal.decreases-three
decreases-three l = 3 * (nodes (expr_of l.a.now) + (nodes (expr_of l.b.now) + nodes (expr_of l.c.now))) + 2

abbrev pub decreases-exprs : goal.decreases-exprs
decreases-exprs l = 3 * nodes_of (exps (map expr_of l.list.now)) + 1

abbrev pub invariant-exprs-loop-expr : goal.invariant-exprs-loop-expr
invariant-exprs-loop-expr l = let left = exps (map expr_of (drop l.expr-index l.list)) in let all = exps (map expr_of l.list) in record {
  counted : l.self.nodes + nodes_of left ≡ l.fn.self.nodes + nodes_of all;
  fewer : nodes_of left ≤ nodes_of all;
}

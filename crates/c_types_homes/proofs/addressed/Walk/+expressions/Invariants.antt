use Rattle.std.proofs.Common.{◌≡◌, ℕ, ◌+◌, ◌*◌, ◌≤◌, ◌++◌, map, drop}
use Rattle.c_ast.specs.Trees.{exps}
use Rattle.c_ast.specs.TreeViews.{expr_of}
use Rattle.c_types_homes.specs.Addressed.{taken_of}
use Rattle.c_types_homes.proofs.Weights.{weight, weights}
use Rattle.c_types_homes.proofs.addressed.Walk.+expressions.Given as goal

abbrev pub decreases-expr : goal.decreases-expr
decreases-expr l = 3 * weight (expr_of l.expr.now)

abbrev pub decreases-two : goal.decreases-two
decreases-two l = 3 * (weight (expr_of l.a.now) + weight (expr_of l.b.now)) + 1

abbrev pub decreases-three : goal.decreases-three
decreases-three l = 3 * (weight (expr_of l.a.now) + (weight (expr_of l.b.now) + weight (expr_of l.c.now))) + 2

abbrev pub decreases-unary : goal.decreases-unary
decreases-unary l = 3 * weight (expr_of l.operand.now) + 1

abbrev pub decreases-exprs : goal.decreases-exprs
decreases-exprs l = 3 * weights (exps (map expr_of l.list.now)) + 1

abbrev pub invariant-exprs-loop-expr : goal.invariant-exprs-loop-expr
invariant-exprs-loop-expr l = record {
  names : l.self.names ≡ l.fn.self.names;
  next : l.self.next ≡ l.fn.self.next;
  shapes : l.self.shapes ≡ l.fn.self.shapes;
  taken : l.self.taken ++ taken_of l.fn.self.names (exps (map expr_of (drop l.expr-index l.list))) ≡ l.fn.self.taken ++ taken_of l.fn.self.names (exps (map expr_of l.list));
  lighter : weights (exps (map expr_of (drop l.expr-index l.list))) ≤ weights (exps (map expr_of l.list));
}

use Rattle.std.proofs.Common.{◌≡◌, ◌+◌, ◌*◌, ◌≤◌, map, drop}
use Rattle.c_typed.specs.Tree.{exps}
use Rattle.c_typed.specs.Views.{expr_of}
use Rattle.c_kept.specs.Weights.{weight, weights}
use Rattle.tac_lowered.specs.Expressions.{are_quiet}
use Rattle.tac_trees.proofs.operands.+quiet.Given as goal

abbrev pub decreases-is_quiet : goal.decreases-is_quiet
decreases-is_quiet l = 2 * weight (expr_of l.expr.now)

abbrev pub decreases-are_quiet : goal.decreases-are_quiet
decreases-are_quiet l = 2 * weights (exps (map expr_of l.list.now)) + 1

abbrev pub invariant-are_quiet-loop-expr : goal.invariant-are_quiet-loop-expr
invariant-are_quiet-loop-expr l = let left = exps (map expr_of (drop l.expr-index l.list)) in let all = exps (map expr_of l.list) in record {
  same : are_quiet all ≡ are_quiet left;
  fewer : weights left ≤ weights all;
}

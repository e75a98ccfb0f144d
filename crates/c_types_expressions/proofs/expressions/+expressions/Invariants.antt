use Rattle.std.proofs.Common.{◌+◌, ◌*◌, ◌≡◌, take, drop}
use Rattle.std.specs.Prelude.{map}
use Rattle.c_ast.specs.TreeViews as source
use Rattle.c_ast.specs.Trees as c
use Rattle.c_types_expressions.specs.Expressions.{arguments}
use Rattle.c_types_expressions.proofs.ArgumentLemmas.{Found}
use Rattle.c_types_homes.proofs.Weights.{weight, weights}
use Rattle.c_types_expressions.proofs.expressions.+expressions.Given as goal

abbrev pub decreases-designated : goal.decreases-designated
decreases-designated l = 4 * weight (source.expr_of l.e.now)

abbrev pub decreases-value : goal.decreases-value
decreases-value l = 4 * weight (source.expr_of l.e.now) + 1

abbrev pub decreases-tested_value : goal.decreases-tested_value
decreases-tested_value l = 4 * weight (source.expr_of l.e.now) + 2

abbrev pub decreases-postfix : goal.decreases-postfix
decreases-postfix l = 4 * weight (source.expr_of l.operand.now) + 2

abbrev pub decreases-unary : goal.decreases-unary
decreases-unary l = 4 * weight (source.expr_of l.operand.now) + 2

abbrev pub decreases-cast : goal.decreases-cast
decreases-cast l = 4 * weight (source.expr_of l.operand.now) + 2

abbrev pub decreases-indexed : goal.decreases-indexed
decreases-indexed l = 4 * (weight (source.expr_of l.base.now) + weight (source.expr_of l.index.now)) + 3

abbrev pub decreases-binary : goal.decreases-binary
decreases-binary l = 4 * (weight (source.expr_of l.left.now) + weight (source.expr_of l.right.now)) + 3

abbrev pub decreases-conditional : goal.decreases-conditional
decreases-conditional l = 4 * (weight (source.expr_of l.test.now) + (weight (source.expr_of l.«then».now) + weight (source.expr_of l.other.now))) + 3

abbrev pub decreases-assign : goal.decreases-assign
decreases-assign l = 4 * (weight (source.expr_of l.target.now) + weight (source.expr_of l.right.now)) + 3

abbrev pub decreases-arguments : goal.decreases-arguments
decreases-arguments l = 4 * weights (c.exps (map source.expr_of l.list.now))

abbrev pub decreases-call : goal.decreases-call
decreases-call l = 4 * weights (c.exps (map source.expr_of l.list.now)) + 1

abbrev pub decreases-called_value : goal.decreases-called_value
decreases-called_value l = 4 * weights (c.exps (map source.expr_of l.list.now)) + 2

abbrev pub decreases-comma : goal.decreases-comma
decreases-comma l = 4 * weights (c.exps (map source.expr_of l.list.now)) + 1

abbrev pub invariant-arguments-loop-e : goal.invariant-arguments-loop-e
invariant-arguments-loop-e l = record {
  left : l.left ≡ drop l.e-index l.fn.wanted;
  judged : Found (arguments l.fn.scope l.fn.notes.texts l.fn.wanted) l.fn.notes (map source.expr_of (take l.e-index l.list)) l.typed l.notes;
}

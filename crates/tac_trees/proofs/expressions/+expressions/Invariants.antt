use Rattle.std.proofs.Common.{◌≡◌, ◌+◌, ◌*◌, map, take, None}
use Rattle.c_typed.specs.Views.{expr_of, list_exps}
use Rattle.c_program.specs.Checked as c
use Rattle.c_kept.specs.Weights.{weight, weights}
use Rattle.tac_lowered.specs.Expressions.{low}
use Rattle.tac_code.specs.Views.{code_of}
use Rattle.tac_trees.proofs.expressions.+expressions.Given as goal

abbrev pub decreases-low : goal.decreases-low
decreases-low l = 5 * weight (expr_of l.expr.now)

abbrev pub decreases-operand : goal.decreases-operand
decreases-operand l = 5 * weight (expr_of l.expr.now) + 1

abbrev pub decreases-by_value : goal.decreases-by_value
decreases-by_value l = 5 * weight (expr_of l.expr.now) + 2

abbrev pub decreases-tested : goal.decreases-tested
decreases-tested l = 5 * weight (expr_of l.expr.now) + 3

abbrev pub decreases-element : goal.decreases-element
decreases-element l = 5 * weight (expr_of l.index.now) + 4

abbrev pub decreases-load : goal.decreases-load
decreases-load l = 5 * weight (expr_of l.address.now) + 4

abbrev pub decreases-convert : goal.decreases-convert
decreases-convert l = 5 * weight (expr_of l.inner.now) + 4

abbrev pub decreases-unary : goal.decreases-unary
decreases-unary l = 5 * weight (expr_of l.inner.now) + 4

abbrev pub decreases-not : goal.decreases-not
decreases-not l = 5 * weight (expr_of l.inner.now) + 4

abbrev pub decreases-binary : goal.decreases-binary
decreases-binary l = 5 * (weight (expr_of l.left.now) + weight (expr_of l.right.now)) + 4

abbrev pub decreases-and : goal.decreases-and
decreases-and l = 5 * (weight (expr_of l.left.now) + weight (expr_of l.right.now)) + 4

abbrev pub decreases-or : goal.decreases-or
decreases-or l = 5 * (weight (expr_of l.left.now) + weight (expr_of l.right.now)) + 4

abbrev pub decreases-conditional : goal.decreases-conditional
decreases-conditional l = 5 * (weight (expr_of l.test.now) + (weight (expr_of l.«then».now) + weight (expr_of l.other.now))) + 4

abbrev pub decreases-set_slot : goal.decreases-set_slot
decreases-set_slot l = 5 * weight (expr_of l.value.now) + 4

abbrev pub decreases-store : goal.decreases-store
decreases-store l = 5 * (weight (expr_of l.address.now) + weight (expr_of l.value.now)) + 4

abbrev pub decreases-update_slot : goal.decreases-update_slot
decreases-update_slot l = 5 * weight (expr_of l.value.now) + 4

abbrev pub decreases-update : goal.decreases-update
decreases-update l = 5 * (weight (expr_of l.address.now) + weight (expr_of l.value.now)) + 4

abbrev pub decreases-step : goal.decreases-step
decreases-step l = 5 * weight (expr_of l.address.now) + 4

abbrev pub decreases-call : goal.decreases-call
decreases-call l = 5 * weights (list_exps l.arguments.now) + 4

abbrev pub decreases-passed : goal.decreases-passed
decreases-passed l = 5 * weights (list_exps l.list.now) + 2

abbrev pub decreases-put_byte : goal.decreases-put_byte
decreases-put_byte l = 5 * weight (expr_of l.value.now) + 4

abbrev pub decreases-put_number : goal.decreases-put_number
decreases-put_number l = 5 * weight (expr_of l.value.now) + 4

abbrev pub decreases-comma : goal.decreases-comma
decreases-comma l = 5 * (weights (list_exps l.parts.now) + weight (expr_of l.last.now)) + 4

abbrev pub decreases-effects : goal.decreases-effects
decreases-effects l = 5 * weights (list_exps l.list.now) + 1

abbrev pub invariant-effects-loop-expr : goal.invariant-effects-loop-expr
invariant-effects-loop-expr l = map code_of l.made.items ≡ map (λ a. low (c.program l.fn.program) (expr_of a) l.fn.stmt None l.fn.free) (take l.expr-index l.first)

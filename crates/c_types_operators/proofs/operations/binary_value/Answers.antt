use Rattle.std.proofs.Common.{◌≡◌, refl, Some}
use Rattle.c_typed.specs.Views.{expr_of}
use Rattle.c_ast.specs.TreeViews as source
use Rattle.c_typed.specs.Choices.{chosen}
use Rattle.c_types_operators.specs.Operators.{operand}
use Rattle.c_types_operators.proofs.JudgingLemmas.{fine}
use Rattle.c_types_operators.proofs.operations.binary_value.Goals as goal

pub returns : goal.returns
returns c =
    let e : chosen c.args.op (operand (source.expr_of c.args.left.source.now) (expr_of c.args.left.value.value)) (operand (source.expr_of c.args.right.source.now) (expr_of c.args.right.value.value)) ≡ Some c.in-Some.choice = cc in
    fine _ (rw e (cc c.in_ok-value.ensures)) refl

use Rattle.std.proofs.Common.{◌≡◌, refl, true}
use Rattle.c_typed.specs.Views.{expr_of}
use Rattle.c_typed.specs.ValueTypes.{is_integer}
use Rattle.c_typed.specs.ExprTypes.{type_of}
use Rattle.c_types_operators.proofs.JudgingLemmas.{fine}
use Rattle.c_types_operators.proofs.operators.integer_operand.Goals as goal

pub returns-then-is_integer : goal.returns-then-is_integer
returns-then-is_integer c =
    let e : is_integer (type_of (expr_of c.args.x.value)) ≡ true = cc in
    fine _ (rw e refl) refl

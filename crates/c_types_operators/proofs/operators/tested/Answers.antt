use Rattle.std.proofs.Common.{◌≡◌, refl, true}
use Rattle.std.specs.Prelude.{◌||◌}
use Rattle.c_typed.specs.Views.{expr_of}
use Rattle.c_typed.specs.ValueTypes.{is_integer, is_pointer}
use Rattle.c_typed.specs.ExprTypes.{type_of}
use Rattle.c_types_operators.proofs.JudgingLemmas.{fine}
use Rattle.c_types_operators.proofs.operators.tested.Goals as goal

pub returns-then-is_condition : goal.returns-then-is_condition
returns-then-is_condition c =
    let e : (is_integer (type_of (expr_of c.args.x.value)) || is_pointer (type_of (expr_of c.args.x.value))) ≡ true = cc in
    fine _ (rw e refl) refl

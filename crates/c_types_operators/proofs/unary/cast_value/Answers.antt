use Rattle.std.proofs.Common.{◌≡◌, refl, true}
use Rattle.c_typed.specs.Views.{expr_of}
use Rattle.c_typed.specs.ValueTypes.{is_integer}
use Rattle.c_typed.specs.ExprTypes.{type_of}
use Rattle.c_types_operators.proofs.JudgingLemmas.{fine}
use Rattle.c_types_operators.proofs.unary.cast_value.Goals as goal

pub returns-then-is_integer-2 : goal.returns-then-is_integer-2
returns-then-is_integer-2 c =
    let target : is_integer c.args.to ≡ true = cc in
    let number : is_integer (type_of (expr_of c.args.x.value)) ≡ true = cc in
    fine _ (rw (target, number) (cc c.in_ok-value.ensures)) refl

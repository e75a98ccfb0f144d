use Rattle.std.proofs.Common.{◌≡◌, refl, true}
use Rattle.c_typed.specs.Views.{expr_of}
use Rattle.c_typed.specs.ValueTypes.{leads}
use Rattle.c_typed.specs.ExprTypes.{type_of}
use Rattle.c_types_operators.proofs.JudgingLemmas.{fine}
use Rattle.c_types_operators.proofs.unary.dereferenced.Goals as goal

pub returns-then-leads : goal.returns-then-leads
returns-then-leads c =
    let e : leads (type_of (expr_of c.args.x.value)) ≡ true = cc in
    fine _ (rw e cc) refl

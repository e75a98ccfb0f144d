use Rattle.std.proofs.Common.{◌≡◌, refl, Some}
use Rattle.c_types_operators.specs.Operators.{counted}
use Rattle.c_types_operators.specs.Views.{target_of}
use Rattle.c_types_operators.proofs.JudgingLemmas.{fine}
use Rattle.c_types_operators.proofs.unary.postfix_value.Goals as goal

pub returns : goal.returns
returns c =
    let e : counted c.args.op (target_of c.args.target) ≡ Some c.in-Some.choice = cc in
    fine _ (rw e (cc c.in_ok-value.ensures)) refl

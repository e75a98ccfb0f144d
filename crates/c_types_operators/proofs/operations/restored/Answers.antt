use Rattle.std.proofs.Common.{◌≡◌, refl, true}
use Rattle.c_typed.specs.Choices.{fits}
use Rattle.c_types_operators.specs.Operators.{target_type, plain_operand}
use Rattle.c_types_operators.specs.Views.{target_of}
use Rattle.c_types_operators.proofs.JudgingLemmas.{fine}
use Rattle.c_types_operators.proofs.operations.restored.Goals as goal

pub returns-then-fits : goal.returns-then-fits
returns-then-fits c =
    let e : fits (target_type (target_of c.args.target)) (plain_operand c.args.choice.result) ≡ true = cc in
    fine _ (rw e (cc (c.in_ok-value.ensures, c.in_ok-x.ensures))) refl

use Rattle.std.proofs.Common.{refl, ap, sym}
use Rattle.c_types_operators.specs.Rules.{Fine}
use Rattle.c_types_operators.proofs.JudgingLemmas.{fine}
use Rattle.c_types_expressions.proofs.names.used_as.Goals as goal

pub returns-in_ok-used_variable-in-Variable : goal.returns-in_ok-used_variable-in-Variable
returns-in_ok-used_variable-in-Variable c =
    fine _ (rw c.in-Variable.is (ap (λ d. Fine d) (sym c.in_ok-used_variable-in-Variable.ensures))) refl

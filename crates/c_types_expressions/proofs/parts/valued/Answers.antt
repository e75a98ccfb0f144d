use Rattle.std.proofs.Common.{refl, ap, sym}
use Rattle.c_types_operators.specs.Rules.{Fine}
use Rattle.c_types_operators.proofs.PartLemmas.{carries_some, carries_none}
use Rattle.c_types_operators.proofs.JudgingLemmas.{fine}
use Rattle.c_types_expressions.proofs.parts.valued.Goals as goal

pub returns-in_ok-value-in-Some : goal.returns-in_ok-value-in-Some
returns-in_ok-value-in-Some c = λ now. carries_some c.in-Some.is (fine _ (ap (λ x. Fine x) (sym c.in_ok-value-in-Some.ensures)) refl)

pub returns-in-None : goal.returns-in-None
returns-in-None c = λ now. carries_none (λ first more. refl) c.in-None.is

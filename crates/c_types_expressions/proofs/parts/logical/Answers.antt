use Rattle.std.proofs.Common.{refl, sym, ◌∙◌}
use Rattle.c_types_operators.proofs.PartLemmas.{carries_both, carries_neither}
use Rattle.c_types_operators.proofs.JudgingLemmas.{fine}
use Rattle.c_types_expressions.proofs.parts.logical.Goals as goal

pub returns-in_ok-value-in-Some : goal.returns-in_ok-value-in-Some
returns-in_ok-value-in-Some c = λ now. carries_both (sym c.both.ensures ∙ c.in-Some.is) (fine _ (sym c.in_ok-value-in-Some.ensures) refl)

pub returns-in-None : goal.returns-in-None
returns-in-None c = λ now. carries_neither (sym c.both.ensures ∙ c.in-None.is)

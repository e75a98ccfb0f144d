use Rattle.std.proofs.Common.{refl, ap, sym, ◌∙◌}
use Rattle.c_types_operators.specs.Rules.{Fine}
use Rattle.c_types_operators.proofs.PartLemmas.{carries_both, carries_neither}
use Rattle.c_types_operators.proofs.JudgingLemmas.{fine}
use Rattle.c_types_initial.proofs.parts.another.Goals as goal

pub returns-in_ok-push-in-Some : goal.returns-in_ok-push-in-Some
returns-in_ok-push-in-Some c = λ now. carries_both (sym c.both.ensures ∙ c.in-Some.is) (fine _ (ap (λ l. Fine l) (sym c.in_ok-push-in-Some.ensures.ok)) refl)

pub returns-in-None : goal.returns-in-None
returns-in-None c = λ now. carries_neither (sym c.both.ensures ∙ c.in-None.is)

use Rattle.std.proofs.Common.{sym, ◌∙◌}
use Rattle.c_types_operators.proofs.PartLemmas.{carries_both, carries_neither}
use Rattle.c_types_expressions.proofs.parts.index.Goals as goal

pub returns-in_ok-answer-in-Some : goal.returns-in_ok-answer-in-Some
returns-in_ok-answer-in-Some c = carries_both (sym c.both.ensures ∙ c.in-Some.is) c.in_ok-answer-in-Some.ensures

pub returns-in-None : goal.returns-in-None
returns-in-None c = carries_neither (sym c.both.ensures ∙ c.in-None.is)

use Rattle.std.proofs.Common.{refl}
use Rattle.c_types_operators.proofs.PartLemmas.{carries_some, carries_none}
use Rattle.c_types_expressions.proofs.parts.postfix.Goals as goal

pub returns-in_ok-answer-in-Some : goal.returns-in_ok-answer-in-Some
returns-in_ok-answer-in-Some c = carries_some c.in-Some.is (rw c.new.ensures at c.in_ok-answer-in-Some.ensures)

pub returns-in-None : goal.returns-in-None
returns-in-None c = carries_none (λ first more. refl) c.in-None.is

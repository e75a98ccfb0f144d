use Rattle.c_types_operators.proofs.PartLemmas.{bound_when}
use Rattle.c_types_operators.specs.Operators.{postfix_value, step_of}
use Rattle.c_types_operators.proofs.unary.postfix.Goals as goal

pub returns : goal.returns
returns c = bound_when (postfix_value c.args.place (step_of c.args.op)) c.in-Some.is (rw c.anchor.ensures at c.in_ok-target.ensures) (rw c.step_of.ensures at c.in_ok-answer.ensures)

use Rattle.c_types_operators.proofs.PartLemmas.{bound_when}
use Rattle.c_types_operators.specs.Operators.{prefix_value}
use Rattle.c_types_operators.proofs.unary.prefix.Goals as goal

pub returns : goal.returns
returns c = bound_when (prefix_value c.args.place c.args.op) c.in-Some.is (rw c.anchor.ensures at c.in_ok-target.ensures) c.in_ok-answer.ensures

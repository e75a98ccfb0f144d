use Rattle.c_types_operators.proofs.unary.on_value.Goals as goal

pub returns : goal.returns
returns c = rw c.in_ok-x.ensures at c.in_ok-answer.ensures

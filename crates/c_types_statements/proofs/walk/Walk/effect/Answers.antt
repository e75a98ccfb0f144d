use Rattle.c_types_statements.proofs.Typed.{typed}
use Rattle.c_types_statements.proofs.walk.Walk.effect.Goals as goal

pub returns : goal.returns
returns c = rw (← c.self.view_is) (typed _ _ c.in_ok-answer.ensures)

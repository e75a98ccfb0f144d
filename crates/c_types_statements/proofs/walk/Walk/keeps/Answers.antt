use Rattle.c_types_statements.proofs.Typed.{finds_one}
use Rattle.c_types_statements.proofs.walk.Walk.keeps.Goals as goal

pub returns-then-broken : goal.returns-then-broken
returns-then-broken c = rw (← c.self.view_is, c.if-broken.true) (finds_one _ _ c.breaks.ensures)

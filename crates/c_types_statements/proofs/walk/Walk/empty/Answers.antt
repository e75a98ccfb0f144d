use Rattle.std.proofs.Common.{refl}
use Rattle.c_typed.specs.Tree as t
use Rattle.c_types_statements.proofs.Behind.{past_empty}
use Rattle.c_types_statements.proofs.Typed.{begins, typed_as}
use Rattle.c_types_statements.proofs.walk.Walk.empty.Goals as goal

pub returns : goal.returns
returns c = typed_as (past_empty c.args.place c.args.self.now.at) refl (begins c.args.place (λ n. t.empty n) c.in_ok-number.ensures.number c.in_ok-number.ensures.noted)

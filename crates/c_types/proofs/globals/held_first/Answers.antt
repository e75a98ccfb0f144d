use Rattle.std.proofs.Common.{refl}
use Rattle.c_types_statements.proofs.Typed.{typed, typed_as}
use Rattle.c_types.proofs.GlobalLemmas.{same_option}
use Rattle.c_types.proofs.globals.held_first.Goals as goal

pub returns : goal.returns
returns c = rw (← c.walk.view_is) (typed_as refl (same_option _) (typed _ _ c.in_ok-answer.ensures))

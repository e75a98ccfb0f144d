use Rattle.std.proofs.Common.{refl}
use Rattle.c_types_operators.proofs.PartLemmas.{carries_some, carries_none}
use Rattle.c_types_expressions.proofs.parts.tested.Goals as goal

pub returns-in-Some : goal.returns-in-Some
returns-in-Some c = carries_some c.in-Some.is c.tested.ensures

pub returns-in-None : goal.returns-in-None
returns-in-None c = carries_none (λ first more. refl) c.in-None.is

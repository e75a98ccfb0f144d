use Rattle.std.proofs.Common.{refl}
use Rattle.c_types_operators.proofs.PartLemmas.{carries_some, carries_none}
use Rattle.c_types_operators.proofs.JudgingLemmas.{broken}
use Rattle.c_types_initial.proofs.parts.unfit.Goals as goal

pub returns-in-Some : goal.returns-in-Some
returns-in-Some c = carries_some c.in-Some.is (broken _ refl (rw c.anchor.ensures at c.breaks.ensures))

pub returns-in-None : goal.returns-in-None
returns-in-None c = carries_none (λ first more. refl) c.in-None.is

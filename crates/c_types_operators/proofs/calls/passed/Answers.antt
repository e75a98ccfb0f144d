use Rattle.std.proofs.Common.{refl}
use Rattle.c_types_operators.proofs.JudgingLemmas.{fine}
use Rattle.c_types_operators.proofs.CallLemmas.{none_given}
use Rattle.c_types_operators.proofs.calls.passed.Goals as goal

pub returns-in-None : goal.returns-in-None
returns-in-None c = fine _ (none_given _ _ _ c.in-None.ensures.cases) refl

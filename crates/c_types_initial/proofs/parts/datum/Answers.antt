use Rattle.std.proofs.Common.{refl, ap, sym}
use Rattle.c_types_operators.specs.Rules.{Fine}
use Rattle.c_types_operators.proofs.JudgingLemmas.{fine}
use Rattle.c_types_operators.proofs.PartLemmas.{carries_some, carries_none}
use Rattle.c_types_initial.proofs.parts.datum.Goals as goal

pub returns-in-Some : goal.returns-in-Some
returns-in-Some c = λ now. carries_some c.in-Some.is (fine _ (ap (λ d. Fine d) (sym (rw c.deref.ensures at c.datum_of.ensures))) refl)

pub returns-in-None : goal.returns-in-None
returns-in-None c = λ now. carries_none (λ first more. refl) c.in-None.is

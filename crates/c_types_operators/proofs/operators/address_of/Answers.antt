use Rattle.std.proofs.Common.{refl}
use Rattle.c_types_operators.proofs.JudgingLemmas.{fine}
use Rattle.c_types_operators.proofs.operators.address_of.Goals as goal

pub returns-in-Cell : goal.returns-in-Cell
returns-in-Cell c = fine _ (rw c.in-Cell.is refl) refl

pub returns-in-Element : goal.returns-in-Element
returns-in-Element c = fine _ (rw c.in-Element.is (cc c.in_ok-element-in-Element.ensures)) refl

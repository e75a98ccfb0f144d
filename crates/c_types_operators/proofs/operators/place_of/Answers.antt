use Rattle.std.proofs.Common.{refl}
use Rattle.c_types_operators.proofs.JudgingLemmas.{fine}
use Rattle.c_types_operators.proofs.operators.place_of.Goals as goal

pub returns-in-Slot : goal.returns-in-Slot
returns-in-Slot c = fine _ (rw c.in-Slot.is refl) refl

pub returns-in-Cell : goal.returns-in-Cell
returns-in-Cell c = fine _ (rw c.in-Cell.is refl) refl

pub returns-in-Element : goal.returns-in-Element
returns-in-Element c = fine _ (rw c.in-Element.is (cc c.in_ok-address-in-Element.ensures)) refl

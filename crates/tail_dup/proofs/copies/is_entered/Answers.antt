use Rattle.tail_dup.proofs.Filled.{entered_none, entered_some}
use Rattle.tail_dup.proofs.copies.is_entered.Goals as goal

pub returns-in-None : goal.returns-in-None
returns-in-None c = entered_none c.args.entered.now c.args.label c.in-None.ensures

pub returns-in-Some : goal.returns-in-Some
returns-in-Some c = entered_some c.args.entered.now c.args.label c.in-Some.entered.now c.in-Some.ensures

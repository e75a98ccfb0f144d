use Rattle.trace_pick.proofs.Grown.{sum_none, sum_some}
use Rattle.trace_pick.proofs.tables.weight_at.Goals as goal

pub returns-in-None : goal.returns-in-None
returns-in-None c = sum_none c.args.weights.now c.args.label c.in-None.ensures

pub returns-in-Some : goal.returns-in-Some
returns-in-Some c = sum_some c.args.weights.now c.args.label c.in-Some.weight.now c.in-Some.ensures

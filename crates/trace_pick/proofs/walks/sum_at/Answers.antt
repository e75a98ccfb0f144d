use Rattle.trace_pick.proofs.Grown.{sum_none, sum_some}
use Rattle.trace_pick.proofs.walks.sum_at.Goals as goal

pub returns-in-None : goal.returns-in-None
returns-in-None c = sum_none c.args.sums.now c.args.label c.in-None.ensures

pub returns-in-Some : goal.returns-in-Some
returns-in-Some c = sum_some c.args.sums.now c.args.label c.in-Some.sum.now c.in-Some.ensures

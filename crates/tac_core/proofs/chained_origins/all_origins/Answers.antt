use Rattle.std.proofs.Common.{arith, ◌∙◌}
use Rattle.tac_core.proofs.Through.{through_step, through_min}
use Rattle.tac_core.proofs.chained_origins.all_origins.Goals as goal

pub loop-i-preserved : goal.loop-i-preserved
loop-i-preserved c =
    through_step c.args.first.now c.args.second.now c.loop-i.i c.index-first-i.result c.index-second-i.result _ _ _ _ _ (omega arith) (omega arith) c.index-first-i.is c.index-second-i.is c.as_slice.ensures c.as_slice-in-loop-i.ensures c.in_ok-list.ensures c.loop-i.invariant c.in_ok-push.ensures.ok

pub returns : goal.returns
returns c = c.loop-i.invariant ∙ through_min c.args.first.now c.args.second.now c.loop-i.i (omega arith)

use Rattle.tac_live.proofs.Steps.{none_joined}
use Rattle.tac_live.proofs.behind.join_row.Goals as goal

pub returns-else-label-rows-clause-holds : goal.returns-else-label-rows-clause-holds
returns-else-label-rows-clause-holds c = none_joined c.args.rows.now c.args.label c.if-label-rows.false c.args.live.now

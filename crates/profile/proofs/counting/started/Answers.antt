use Rattle.std.proofs.Common.{rules}
use Rattle.profile.proofs.Counted.{tallied_none}
use Rattle.profile.proofs.counting.started.Goals as goal

pub returns-clause-table : goal.returns-clause-table
returns-clause-table c input = tallied_none c.args.tac.now input _ (search rules)

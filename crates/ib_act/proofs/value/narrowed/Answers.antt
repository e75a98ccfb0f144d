use Rattle.std.proofs.Common.{rules}
use Rattle.ib_act.proofs.Widths.{narrowed_fits}
use Rattle.ib_act.proofs.value.narrowed.Goals as goal

pub returns-clause-fits : goal.returns-clause-fits
returns-clause-fits c = narrowed_fits c.args.size c.args.x _ (search rules)

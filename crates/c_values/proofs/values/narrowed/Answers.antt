use Rattle.std.proofs.Common.{rules}
use Rattle.c_values.proofs.Widths.{narrowed_fits}
use Rattle.c_values.proofs.values.narrowed.Goals as goal

pub returns-clause-fits : goal.returns-clause-fits
returns-clause-fits c = narrowed_fits c.args.rank c.args.x _ (search rules)

use Rattle.std.proofs.Common.{rules}
use Rattle.c_values.proofs.Widths.{distance_is}
use Rattle.c_values.proofs.values.distance.Goals as goal

pub returns : goal.returns
returns c = distance_is c.args.x c.args.y c.args.size c.wrap-bytes.result c.quotient.result (search rules) (search rules)

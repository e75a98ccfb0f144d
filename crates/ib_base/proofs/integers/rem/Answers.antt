use Rattle.std.proofs.Common.{rules, w64}
use Rattle.std.proofs.lemmas.Int.{rem_is}
use Rattle.ib_base.proofs.integers.rem.Goals as goal

pub returns : goal.returns
returns c = rw (rem_is w64 c.args.a c.args.b c.ranges.a c.ranges.b) (search rules)

use Rattle.std.proofs.Common.{length, arith}
use Rattle.wide_sim.proofs.Plans.{arg_within}
use Rattle.wide_sim.proofs.plan.least_mark.Goals as goal

pub get-requires : goal.get-requires
get-requires c = arg_within (length c.args.values.now.regs) (length c.args.values.now.slots) c.args.regs.now _ (omega arith) c.requires

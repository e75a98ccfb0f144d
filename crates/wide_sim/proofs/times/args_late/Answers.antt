use Rattle.std.proofs.Common.{length, arith}
use Rattle.wide_sim.proofs.Plans.{arg_within}
use Rattle.wide_sim.proofs.times.args_late.Goals as goal

pub late-requires : goal.late-requires
late-requires c = arg_within (length c.args.ready.now.regs) (length c.args.ready.now.slots) c.args.args.now c.loop-arg.arg-index (omega arith) c.requires

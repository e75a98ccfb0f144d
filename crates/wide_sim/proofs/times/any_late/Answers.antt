use Rattle.std.proofs.Common.{length}
use Rattle.wide_sim.specs.Fits.{op_fits}
use Rattle.wide_sim.proofs.Places.{all_item}
use Rattle.wide_sim.proofs.times.any_late.Goals as goal

pub is_late-requires : goal.is_late-requires
is_late-requires c = all_item (op_fits (length c.args.ready.now.regs) (length c.args.ready.now.slots)) c.args.ops.now c.loop-op.op-index c.op-item.result c.loop-op-test.true c.op-item.is c.requires

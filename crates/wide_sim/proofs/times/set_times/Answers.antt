use Rattle.std.proofs.Common.{◌∙◌, arith}
use Rattle.wide_sim.specs.Store.{held}
use Rattle.wide_sim.proofs.Late.{times_step, times_end}
use Rattle.wide_sim.proofs.times.set_times.Goals as goal

pub loop-op-preserved : goal.loop-op-preserved
loop-op-preserved g c = record {
  times = times_step g.M.Machine.latency_of c.args.now c.args.ops.now c.loop-op.op-index c.op-item.result (held 0 c.loop-op.ready) (held 0 c.set_time.new.ready) c.loop-op-test.true c.op-item.is c.set_time.ensures.times ∙ c.loop-op.invariant.times;
  regs = c.set_time.ensures.regs ∙ c.loop-op.invariant.regs;
  slots = c.set_time.ensures.slots ∙ c.loop-op.invariant.slots;
}

pub returns-clause-times : goal.returns-clause-times
returns-clause-times g c =
    times_end g.M.Machine.latency_of c.args.now c.args.ops.now c.loop-op.op-index (held 0 c.loop-op.ready) (omega arith) ∙ c.loop-op.invariant.times
